use Rattle.std.proofs.Common.{ℕ, List, bytes_eq, length}
use Rattle.pl_base.proofs.PagesRun.{following, page_names}
use Rattle.pl_base.proofs.Walk.{Walk, left}
use Rattle.trials_trees.proofs.SearchedPages.{NonePasses}
use Rattle.trials_trees.proofs.target.find_page.Given as goal

abbrev pub invariant-loop-next : goal.invariant-loop-next
invariant-loop-next g l =
    Walk page_names (g.R.Rows.kept l.rows).pages (NonePasses (λ (text : List ℕ). bytes_eq text l.url)) l.next

abbrev pub decreases-loop-next : goal.decreases-loop-next
decreases-loop-next g l = left (following (g.R.Rows.kept l.rows)) (length (g.R.Rows.kept l.rows).pages) l.next
