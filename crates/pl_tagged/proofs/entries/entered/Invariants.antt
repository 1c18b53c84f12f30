use Rattle.std.proofs.Common.{length}
use Rattle.pl_base.specs.Tree.{children_of, sibling_behind}
use Rattle.pl_base.proofs.ChildrenRun.{child_names}
use Rattle.pl_base.proofs.Walk.{Walk, left}
use Rattle.pl_tagged.proofs.EntryWalk.{Finds}
use Rattle.pl_tagged.proofs.entries.entered.Given as goal

-- of the pages of the entries in front those are found that the query takes
abbrev pub invariant-loop-next : goal.invariant-loop-next
invariant-loop-next g l =
    Walk child_names (children_of (g.R.Rows.kept l.rows).items l.fn.folder)
    (Finds (g.R.Rows.kept l.rows).items l.known.views.items l.asked.query.now l.found.items) l.next

abbrev pub decreases-loop-next : goal.decreases-loop-next
decreases-loop-next g l =
    left (sibling_behind (g.R.Rows.kept l.rows).items)
    (length (children_of (g.R.Rows.kept l.rows).items l.fn.folder)) l.next
