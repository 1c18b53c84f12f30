use Rattle.std.proofs.Common.{length}
use Rattle.pl_base.specs.Rows.{older_visit, page_visits}
use Rattle.pl_base.proofs.VisitsRun.{visit_names}
use Rattle.pl_base.proofs.Walk.{Walk, left}
use Rattle.pl_dated.proofs.OverVisits.{Joins}
use Rattle.pl_dated.proofs.visits.add_visits.Given as goal

abbrev pub invariant-loop-next : goal.invariant-loop-next
invariant-loop-next g l =
    Walk visit_names (page_visits (g.R.Rows.kept l.rows) l.view.id)
    (Joins (g.R.Rows.kept l.rows) l.timed.query.now l.view l.fn.first l.first) l.next

abbrev pub decreases-loop-next : goal.decreases-loop-next
decreases-loop-next g l = left (older_visit (g.R.Rows.kept l.rows))
    (length (page_visits (g.R.Rows.kept l.rows) l.view.id)) l.next
