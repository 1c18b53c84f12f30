use Rattle.std.proofs.Common.{length}
use Rattle.pl_base.specs.Tags.{tags_root}
use Rattle.pl_base.specs.Tree.{children_of, sibling_behind}
use Rattle.pl_base.proofs.ChildrenRun.{child_names}
use Rattle.pl_base.proofs.Walk.{Walk, left}
use Rattle.pl_keyed.proofs.TagsRead.{KnowsFront}
use Rattle.pl_keyed.proofs.tags.Tags.of.Given as goal

abbrev pub invariant-loop-next : goal.invariant-loop-next
invariant-loop-next g l =
    Walk child_names (children_of (g.R.Rows.kept l.rows).items tags_root)
    (KnowsFront (g.R.Rows.kept l.rows).items l.tags) l.next

abbrev pub decreases-loop-next : goal.decreases-loop-next
decreases-loop-next g l =
    left (sibling_behind (g.R.Rows.kept l.rows).items) (length (children_of (g.R.Rows.kept l.rows).items tags_root)) l.next
