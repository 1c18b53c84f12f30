use Rattle.std.proofs.Common.{◌==◌}
use Rattle.pl_base.specs.Rows.{row_of}
use Rattle.pl_base.specs.Store.{Visit}
use Rattle.pl_base.proofs.LookUps.{there_some}
use Rattle.trials_trees.proofs.calls.has_visit.Goals as goal

pub returns : goal.returns
returns g c told =
    there_some (λ (v : Visit). v.id.0 == c.args.visit.0) row_of (g.R.Rows.kept c.args.rows.now).visits
    c.visit_at.result c.is_some.result c.visit_at.ensures.row c.is_some.ensures told
