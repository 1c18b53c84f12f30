use Rattle.std.proofs.Common.{length}
use Rattle.pl_base.proofs.Walk.{left}
use Rattle.pl_base.specs.Tree.{children_of, sibling_behind}
use Rattle.pl_marked.proofs.FolderWalk.{OnChildren}
use Rattle.pl_marked.proofs.ways.add_folder.Given as goal

abbrev pub invariant-loop-next : goal.invariant-loop-next
invariant-loop-next g l =
    OnChildren (g.R.Rows.kept l.rows) l.ready.timed.query.now l.fn.folder l.fn.found.items l.found.items l.next

abbrev pub decreases-loop-next : goal.decreases-loop-next
decreases-loop-next g l = left (sibling_behind (g.R.Rows.kept l.rows).items)
    (length (children_of (g.R.Rows.kept l.rows).items l.fn.folder)) l.next
