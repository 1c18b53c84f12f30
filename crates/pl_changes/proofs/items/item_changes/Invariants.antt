use Rattle.std.proofs.Common.{take}
use Rattle.pl_base.specs.Rows.{store_of}
use Rattle.pl_changes.proofs.Brought.{Brought}
use Rattle.pl_changes.proofs.items.item_changes.Given as goal

abbrev pub invariant-loop-page : goal.invariant-loop-page
invariant-loop-page g l =
    Brought (store_of (g.R.Rows.kept l.rows)) l.known.views.items (take l.page-index l.pages) l.changes.items
