use Rattle.std.proofs.Common.{take}
use Rattle.std.specs.List.{flat_map}
use Rattle.pl_marked.specs.Listed.{folder_rows}
use Rattle.pl_marked.proofs.WaysGone.{AreSoFar}
use Rattle.pl_marked.proofs.ways.in_folders.Given as goal

-- the bookmarks in the folders in front are found
abbrev pub invariant-loop-folder : goal.invariant-loop-folder
invariant-loop-folder g l =
    AreSoFar (g.R.Rows.kept l.rows) l.ready.timed.query.now
    (flat_map (folder_rows (g.R.Rows.kept l.rows) l.ready.timed.query.now)
    (take l.folder-index l.ready.timed.query.now.parents))
    l.found.items
