use Rattle.pl_base.specs.Tree.{children_of}
use Rattle.pl_base.proofs.ChildrenRun.{child_names}
use Rattle.pl_base.proofs.Walk.{Walk}
use Rattle.pl_tree.proofs.CountedChildren.{Counts}
use Rattle.pl_tree.proofs.children.child_at.Given as goal

abbrev pub invariant-loop : goal.invariant-loop
invariant-loop g l =
    Walk child_names (children_of (g.R.Rows.kept l.rows).items l.fn.parent) (Counts l.counter) l.child
