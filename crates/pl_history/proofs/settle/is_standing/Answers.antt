use Rattle.pl_history.proofs.StandingPages.{stands_by_item, stands_by_visit}
use Rattle.pl_history.proofs.settle.is_standing.Goals as goal

pub returns-then-is_some : goal.returns-then-is_some
returns-then-is_some g c =
    stands_by_visit (g.R.Rows.kept c.args.rows.now) c.args.page c.latest.result c.is_some.result
    c.latest.ensures.latest c.is_some.ensures c.if-is_some.true

pub returns-else-is_some : goal.returns-else-is_some
returns-else-is_some g c =
    stands_by_item (g.R.Rows.kept c.args.rows.now) c.args.page c.latest.result c.first_reference.result
    c.is_some.result c.is_some-else-is_some.result c.latest.ensures.latest c.is_some.ensures c.if-is_some.false
    c.first_reference.ensures.first c.is_some-else-is_some.ensures
