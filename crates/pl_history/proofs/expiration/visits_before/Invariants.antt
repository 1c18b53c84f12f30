use Rattle.std.proofs.Common.{length}
use Rattle.pl_base.proofs.PagesRun.{following, page_names}
use Rattle.pl_base.proofs.Walk.{Walk, left}
use Rattle.pl_history.specs.Taken.{is_before}
use Rattle.pl_history.proofs.TakenVisits.{HasTaken}
use Rattle.pl_history.proofs.expiration.visits_before.Given as goal

abbrev pub invariant-loop-next : goal.invariant-loop-next
invariant-loop-next g l =
    Walk page_names (g.R.Rows.kept l.rows).pages (HasTaken (is_before l.day) (g.R.Rows.kept l.rows) l.visits.items)
    l.next

abbrev pub decreases-loop-next : goal.decreases-loop-next
decreases-loop-next g l = left (following (g.R.Rows.kept l.rows)) (length (g.R.Rows.kept l.rows).pages) l.next
