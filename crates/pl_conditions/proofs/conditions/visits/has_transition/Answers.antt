use Rattle.std.proofs.Common.{◌==◌}
use Rattle.pl_base.specs.Rows.{row_of}
use Rattle.pl_base.specs.Store.{Visit}
use Rattle.pl_base.proofs.LookUps.{found_where}
use Rattle.pl_conditions.proofs.conditions.visits.has_transition.Goals as goal

pub unwrap-row-requires : goal.unwrap-row-requires
unwrap-row-requires g c =
    found_where (λ (v : Visit). v.id.0 == c.args.visit.0) row_of (g.R.Rows.kept c.args.rows.now).visits
    c.visit_at.result c.requires c.visit_at.ensures.row
