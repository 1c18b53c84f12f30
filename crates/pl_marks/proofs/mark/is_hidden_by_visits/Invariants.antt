use Rattle.pl_base.specs.Rows.{older_visit, page_visits, store_of}
use Rattle.pl_base.proofs.VisitsRun.{visit_names}
use Rattle.pl_base.proofs.Walk.{Walk, left}
use Rattle.std.proofs.Common.{length}
use Rattle.pl_marks.proofs.SeenVisits.{AllPassing}
use Rattle.pl_marks.proofs.mark.is_hidden_by_visits.Given as goal

abbrev pub invariant-loop-next : goal.invariant-loop-next
invariant-loop-next g l =
    Walk visit_names (page_visits (g.R.Rows.kept l.rows) l.fn.page) (AllPassing (store_of (g.R.Rows.kept l.rows)))
    l.next

abbrev pub decreases-loop-next : goal.decreases-loop-next
decreases-loop-next g l = left (older_visit (g.R.Rows.kept l.rows))
    (length (page_visits (g.R.Rows.kept l.rows) l.fn.page)) l.next
