use Rattle.pl_base.proofs.PagesRun.{following, page_names}
use Rattle.pl_base.proofs.Walk.{Walk, left}
use Rattle.std.proofs.Common.{◌≡◌, length}
use Rattle.pl_history.proofs.trimming.page_count.Given as goal

abbrev pub invariant-loop-next : goal.invariant-loop-next
invariant-loop-next g l = Walk page_names (g.R.Rows.kept l.rows).pages (λ front. length front ≡ l.count) l.next

abbrev pub decreases-loop-next : goal.decreases-loop-next
decreases-loop-next g l = left (following (g.R.Rows.kept l.rows)) (length (g.R.Rows.kept l.rows).pages) l.next
