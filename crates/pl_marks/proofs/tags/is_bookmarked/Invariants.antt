use Rattle.pl_base.proofs.ReferencesRun.{having, item_names}
use Rattle.pl_base.proofs.Walk.{Walk, left}
use Rattle.pl_base.specs.Tree.{reference_behind}
use Rattle.std.proofs.Common.{length}
use Rattle.pl_marks.proofs.PageTags.{NoneOutside}
use Rattle.pl_marks.proofs.tags.is_bookmarked.Given as goal

abbrev pub invariant-loop-next : goal.invariant-loop-next
invariant-loop-next g l =
    Walk item_names (having (g.R.Rows.kept l.rows).items l.fn.page) (NoneOutside (g.R.Rows.kept l.rows).items) l.next

abbrev pub decreases-loop-next : goal.decreases-loop-next
decreases-loop-next g l = left (reference_behind (g.R.Rows.kept l.rows).items)
    (length (having (g.R.Rows.kept l.rows).items l.fn.page)) l.next
