use Rattle.std.proofs.Common.{List, subst, sym}
use Rattle.pl_base.specs.declared.id.PageId.{PageId}
use Rattle.pl_base.specs.declared.view.View.{View}
use Rattle.pl_base.specs.Rows.{Kept, store_of}
use Rattle.pl_tree.specs.Changes.{with_removed}
use Rattle.pl_history.specs.Addresses.{HaveAddresses}
use Rattle.pl_history.specs.Settled.{AreSettledBut}
use Rattle.pl_history.proofs.GoodRows.{items_of}
use Rattle.pl_changes.specs.CameFrom.{CameByItems}
use Rattle.pl_done.proofs.KnownAddresses.{addresses_with_items}
use Rattle.pl_editing.proofs.ItemChanges.{removed_came}
use Rattle.pl_editing.proofs.LostItems.{lost_settled}
use Rattle.pl_editing.proofs.removal.remove.Goals as goal

pub settle_all-requires-clause-settled : goal.settle_all-requires-clause-settled
settle_all-requires-clause-settled g c =
    subst (λ (ids : List PageId). AreSettledBut ids (g.R.Rows.kept c.remove.new.rows)) (sym c.deref-2.ensures.value)
    (lost_settled (g.R.Rows.kept c.args.rows.now) (g.R.Rows.kept c.remove.new.rows) c.args.item c.in_ok-lost.lost.items
    (g.met.R.Rows.well_kept c.args.rows.now) c.requires.sound c.in_ok-lost.ensures.kept c.in_ok-lost.ensures.ascending
    c.in_ok-lost.ensures.pages c.in_ok-lost.ensures.good)

pub settle_all-requires-clause-views : goal.settle_all-requires-clause-views
settle_all-requires-clause-views g c =
    subst (λ (views : List View). HaveAddresses views (g.R.Rows.kept c.remove.new.rows)) (sym c.deref.ensures.value)
    (addresses_with_items (g.R.Rows.kept c.args.rows.now) (g.R.Rows.kept c.remove.new.rows)
    (with_removed c.args.item (g.R.Rows.kept c.args.rows.now).items) c.args.known.now
    c.requires.knows (g.met.R.Rows.well_kept c.args.rows.now) c.in_ok-lost.ensures.kept)

pub item_changes-requires-clause-came : goal.item_changes-requires-clause-came
item_changes-requires-clause-came g c =
    let old : Kept = g.R.Rows.kept c.args.rows.now in
    subst (λ (ids : List PageId). CameByItems ids c.args.known.now (store_of (g.R.Rows.kept c.settle_all.new.rows)))
    (sym c.deref-3.ensures.value)
    (removed_came old (g.R.Rows.kept c.remove.new.rows) (g.R.Rows.kept c.settle_all.new.rows) c.args.known.now
    c.args.item c.in_ok-lost.lost.items c.requires.sound c.in_ok-settle_all.ensures.sound
    (items_of (store_of old) c.requires.sound.good) c.requires.knows c.in_ok-lost.ensures.allowed
    c.in_ok-lost.ensures.kept c.in_ok-lost.ensures.pages c.in_ok-settle_all.ensures.store)
