use Rattle.std.proofs.Common.{length}
use Rattle.pl_base.proofs.PagesRun.{following, page_names}
use Rattle.pl_base.proofs.Walk.{Walk, left}
use Rattle.pl_keyed.proofs.PageLookups.{KnowsRows}
use Rattle.pl_keyed.proofs.pages.Pages.of.Given as goal

abbrev pub invariant-loop-next : goal.invariant-loop-next
invariant-loop-next g l = Walk page_names (g.R.Rows.kept l.rows).pages (KnowsRows l.pages) l.next

abbrev pub decreases-loop-next : goal.decreases-loop-next
decreases-loop-next g l = left (following (g.R.Rows.kept l.rows)) (length (g.R.Rows.kept l.rows).pages) l.next
