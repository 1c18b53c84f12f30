use Rattle.std.proofs.Common.{length}
use Rattle.pl_base.proofs.ReferencesRun.{having}
use Rattle.pl_base.proofs.Walk.{left}
use Rattle.pl_base.specs.Tree.{reference_behind}
use Rattle.pl_marked.proofs.MarksWalk.{OnItems}
use Rattle.pl_marked.proofs.marks.add_items.Given as goal

abbrev pub invariant-loop-next : goal.invariant-loop-next
invariant-loop-next g l =
    OnItems (g.R.Rows.kept l.rows) l.ready.timed.query.now l.view.id l.fn.found.items l.found.items l.next

abbrev pub decreases-loop-next : goal.decreases-loop-next
decreases-loop-next g l = left (reference_behind (g.R.Rows.kept l.rows).items)
    (length (having (g.R.Rows.kept l.rows).items l.view.id)) l.next
