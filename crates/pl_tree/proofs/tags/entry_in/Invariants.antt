use Rattle.std.proofs.Common.{length}
use Rattle.pl_base.specs.Store.{Item}
use Rattle.pl_base.specs.Tree.{children_of, is_page, sibling_behind}
use Rattle.pl_base.proofs.ChildrenRun.{child_names}
use Rattle.pl_base.proofs.Walk.{Walk, left}
use Rattle.pl_tree.proofs.TagWalks.{NonePasses}
use Rattle.pl_tree.proofs.tags.entry_in.Given as goal

abbrev pub invariant-loop-next : goal.invariant-loop-next
invariant-loop-next g l =
    Walk child_names (children_of (g.R.Rows.kept l.rows).items l.fn.folder)
    (NonePasses (g.R.Rows.kept l.rows).items (λ (i : Item). is_page l.page i.page)) l.next

abbrev pub decreases-loop-next : goal.decreases-loop-next
decreases-loop-next g l =
    left (sibling_behind (g.R.Rows.kept l.rows).items) (length (children_of (g.R.Rows.kept l.rows).items l.fn.folder)) l.next
