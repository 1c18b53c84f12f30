use Rattle.std.proofs.Common.{length}
use Rattle.pl_base.specs.Rows.{older_visit, page_visits}
use Rattle.pl_base.proofs.Walk.{left}
use Rattle.pl_timed.proofs.VisitWalk.{OnVisits}
use Rattle.pl_timed.proofs.visits.has_earlier_in_times.Given as goal

abbrev pub invariant-loop-next : goal.invariant-loop-next
invariant-loop-next g l = OnVisits (g.R.Rows.kept l.rows) l.timed.query.now l.fn.page l.next

abbrev pub decreases-loop-next : goal.decreases-loop-next
decreases-loop-next g l = left (older_visit (g.R.Rows.kept l.rows))
    (length (page_visits (g.R.Rows.kept l.rows) l.fn.page)) l.next
