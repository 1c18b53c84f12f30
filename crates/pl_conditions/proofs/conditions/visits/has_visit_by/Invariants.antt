use Rattle.std.proofs.Common.{◌==◌, length}
use Rattle.pl_base.specs.Store.{Visit}
use Rattle.pl_base.specs.Transition.{transition_number}
use Rattle.pl_base.proofs.VisitsRun.{visit_names}
use Rattle.pl_base.proofs.Walk.{Walk, left}
use Rattle.pl_base.specs.Rows.{older_visit, page_visits}
use Rattle.pl_conditions.proofs.ItemSearch.{NonePasses}
use Rattle.pl_conditions.proofs.conditions.visits.has_visit_by.Given as goal

abbrev pub invariant-loop-next : goal.invariant-loop-next
invariant-loop-next g l =
    Walk visit_names (page_visits (g.R.Rows.kept l.rows) l.fn.page)
    (NonePasses (λ (v : Visit). transition_number v.transition == transition_number l.fn.transition)) l.next

abbrev pub decreases-loop-next : goal.decreases-loop-next
decreases-loop-next g l = left (older_visit (g.R.Rows.kept l.rows))
    (length (page_visits (g.R.Rows.kept l.rows) l.fn.page)) l.next
