use Rattle.std.proofs.Common.{length}
use Rattle.pl_base.specs.Rows.{store_of}
use Rattle.pl_base.proofs.PagesRun.{following, page_names}
use Rattle.pl_base.proofs.Walk.{Walk, left}
use Rattle.pl_changes.proofs.ViewsSoFar.{HasViews}
use Rattle.pl_changes.specs.Origins.{AreTold}
use Rattle.pl_changes.proofs.opening.views.Given as goal

abbrev pub invariant-loop-next : goal.invariant-loop-next
invariant-loop-next g l =
    Walk page_names (g.R.Rows.kept l.rows).pages (HasViews (store_of (g.R.Rows.kept l.rows)) l.views.items) l.next
    × AreTold (g.R.Rows.kept l.rows) l.origins

abbrev pub decreases-loop-next : goal.decreases-loop-next
decreases-loop-next g l = left (following (g.R.Rows.kept l.rows)) (length (g.R.Rows.kept l.rows).pages) l.next
