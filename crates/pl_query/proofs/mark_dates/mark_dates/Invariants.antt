use Rattle.pl_base.specs.Rows.{store_of}
use Rattle.pl_base.proofs.ReferencesRun.{having, item_names}
use Rattle.pl_base.proofs.Walk.{Walk, left}
use Rattle.pl_base.specs.Tree.{reference_behind}
use Rattle.std.proofs.Common.{length}
use Rattle.pl_query.proofs.MarksLatest.{AreLatest}
use Rattle.pl_query.proofs.mark_dates.mark_dates.Given as goal

abbrev pub invariant-loop-next : goal.invariant-loop-next
invariant-loop-next g l =
    Walk item_names (having (g.R.Rows.kept l.rows).items l.fn.page)
    (AreLatest (store_of (g.R.Rows.kept l.rows)) l.dates) l.next

abbrev pub decreases-loop-next : goal.decreases-loop-next
decreases-loop-next g l = left (reference_behind (g.R.Rows.kept l.rows).items)
    (length (having (g.R.Rows.kept l.rows).items l.fn.page)) l.next
