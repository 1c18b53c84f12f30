use Rattle.std.proofs.Common.{length}
use Rattle.pl_base.specs.Rows.{target_behind}
use Rattle.pl_base.proofs.VisitsRun.{visit_names}
use Rattle.pl_base.proofs.Walk.{Walk, left}
use Rattle.pl_history.proofs.RedirectPages.{ArePagesOf}
use Rattle.pl_history.proofs.removal.push_redirect_pages.Given as goal

abbrev pub invariant-loop-next : goal.invariant-loop-next
invariant-loop-next g l =
    Walk visit_names (g.R.Rows.targets l.rows l.fn.visit) (ArePagesOf l.fn.pages.items l.pages.items) l.next

abbrev pub decreases-loop-next : goal.decreases-loop-next
decreases-loop-next g l =
    left (target_behind (g.R.Rows.targets l.rows) (g.R.Rows.kept l.rows))
    (length (g.R.Rows.targets l.rows l.fn.visit)) l.next
