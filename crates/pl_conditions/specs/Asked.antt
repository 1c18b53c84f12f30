-- A query that is made ready: what is the same for every row is computed once.
use Rattle.std.specs.Prelude.{◌≡◌, ℤ, ◌+ℤ◌, map, Option, Some, None}
use Rattle.pl_base.specs.Fold.{folded}
use Rattle.pl_base.specs.Store.{Store}
use Rattle.pl_place.specs.declared.kinds.TimeRef.{TimeRef}
use Rattle.pl_place.specs.declared.query.Query.{Query}
use Rattle.pl_conditions.specs.declared.asked.Asked.{Asked}
use Rattle.pl_conditions.specs.Conditions.{moment, words_asked}

-- the moment of a time, if it is there
abbrev pub moment_of : Store → Option ℤ → TimeRef → Option ℤ
moment_of store None reference = None
moment_of store (Some time) reference = Some (moment store reference +ℤ time)

-- the parts are those of the query on this store
pub record IsAsked (store : Store) (q : Query) (asked : Asked) : Type 0 where
  pub query : asked.query.now ≡ q
  pub begin : asked.begin ≡ moment_of store q.begin_time q.begin_ref
  pub end : asked.end ≡ moment_of store q.end_time q.end_ref
  pub words : asked.words.items ≡ words_asked q.terms
  pub tags : asked.tags.items ≡ map folded q.tags
