use Rattle.std.proofs.Common.{take}
use Rattle.std.specs.List.{flat_map}
use Rattle.pl_marked.specs.Listed.{view_rows}
use Rattle.pl_marked.proofs.WaysGone.{AreSoFar}
use Rattle.pl_marked.proofs.ways.of_all_pages.Given as goal

-- the bookmarks of the pages in front are found
abbrev pub invariant-loop-view : goal.invariant-loop-view
invariant-loop-view g l =
    AreSoFar (g.R.Rows.kept l.rows) l.ready.timed.query.now
    (flat_map (view_rows (g.R.Rows.kept l.rows) l.ready.timed.query.now) (take l.view-index l.known.views.items))
    l.found.items
