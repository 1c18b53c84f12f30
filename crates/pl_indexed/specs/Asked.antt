-- A query that is made ready: what is the same for every view is computed once.
use Rattle.std.specs.Prelude.{◌≡◌, map}
use Rattle.pl_base.specs.Fold.{folded}
use Rattle.pl_conditions.specs.Conditions.{words_asked}
use Rattle.pl_place.specs.declared.query.Query.{Query}
use Rattle.pl_indexed.specs.declared.asked.Asked.{Asked}

-- the parts are those of the query
pub record IsAsked (q : Query) (asked : Asked) : Type 0 where
  pub query : asked.query.now ≡ q
  pub words : asked.words.items ≡ words_asked q.terms
  pub tags : asked.tags.items ≡ map folded q.tags
