use Rattle.std.proofs.Common.{length}
use Rattle.pl_base.specs.Rows.{store_of}
use Rattle.pl_outline.specs.KnownTags.{KnowsTags}
use Rattle.pl_outline.specs.Shown.{node_as}
use Rattle.pl_outline.proofs.PileLaws.{IsListing, left_in}
use Rattle.pl_outline.proofs.outline.list.Given as goal

abbrev pub invariant-loop-place : goal.invariant-loop-place
invariant-loop-place g l =
    IsListing (node_as l.shown (store_of (g.R.Rows.kept l.rows))) (g.R.Rows.kept l.rows).items l.fn.root l.nodes.items
    l.places.items
    × KnowsTags (store_of (g.R.Rows.kept l.rows)) l.known

abbrev pub decreases-loop-place : goal.decreases-loop-place
decreases-loop-place g l =
    length (left_in (node_as l.shown (store_of (g.R.Rows.kept l.rows))) (g.R.Rows.kept l.rows).items l.places.items)
