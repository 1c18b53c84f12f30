-- A query that is made ready for rows and for views.
use Rattle.pl_base.specs.Store.{Store}
use Rattle.pl_conditions.specs.Asked as rows
use Rattle.pl_indexed.specs.Asked as views
use Rattle.pl_place.specs.declared.query.Query.{Query}
use Rattle.pl_marked.specs.declared.ready.Ready.{Ready}

-- both parts are those of the query
pub record IsReady (store : Store) (q : Query) (ready : Ready) : Type 0 where
  pub timed : rows.IsAsked store q ready.timed
  pub asked : views.IsAsked q ready.asked
