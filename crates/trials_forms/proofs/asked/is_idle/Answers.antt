use Rattle.trials_forms.proofs.Found.{idle}
use Rattle.trials_forms.proofs.asked.is_idle.Goals as goal

pub returns-clause-unvisited : goal.returns-clause-unvisited
returns-clause-unvisited g c none =
    (idle (g.R.Rows.kept c.args.rows.now) c.args.page c.latest.result c.first_reference.result c.is_some.result
    c.is_none.result c.latest.ensures.latest c.is_some.ensures c.if-is_some.false c.first_reference.ensures.first
    c.is_none.ensures none).0

pub returns-clause-unreferenced : goal.returns-clause-unreferenced
returns-clause-unreferenced g c none =
    (idle (g.R.Rows.kept c.args.rows.now) c.args.page c.latest.result c.first_reference.result c.is_some.result
    c.is_none.result c.latest.ensures.latest c.is_some.ensures c.if-is_some.false c.first_reference.ensures.first
    c.is_none.ensures none).1
