-- The pages in front that stay are counted.
use Rattle.std.proofs.Common.{length}
use Rattle.pl_base.specs.Rows.{store_of}
use Rattle.pl_base.proofs.PagesRun.{following, page_names}
use Rattle.pl_base.proofs.Walk.{Walk, left}
use Rattle.pl_graft.specs.Restored.{emptied}
use Rattle.pl_graft.proofs.SparedSteps.{IsTallied}
use Rattle.pl_graft.proofs.cost.Tally.anew.Given as goal

abbrev pub invariant-loop-next : goal.invariant-loop-next
invariant-loop-next g l =
    Walk page_names (g.R.Rows.kept l.rows).pages
    (IsTallied l.tree (emptied (store_of (g.R.Rows.kept l.rows))) l.tally) l.next

abbrev pub decreases-loop-next : goal.decreases-loop-next
decreases-loop-next g l = left (following (g.R.Rows.kept l.rows)) (length (g.R.Rows.kept l.rows).pages) l.next
