use Rattle.std.proofs.Common.{◌≡◌, Some, refl}
use Rattle.std.proofs.Common.{subst}
use Rattle.pl_record.specs.ChainMap.{AreChains, ChainMap, IsLoose}
use Rattle.pl_record.specs.declared.rows.Item.{Item}
use Rattle.pl_record.specs.ItemChanges.{MovesItem}
use Rattle.pl_record.specs.Rows.{item_row, record_at}
use Rattle.pl_record.proofs.ItemFreed.{item_read}
use Rattle.pl_record.proofs.ItemMoved.{free_left, moves_item, place_left}
use Rattle.pl_record.proofs.item_slots.moving.move_item.Given.{Over}
use Rattle.pl_record.proofs.item_slots.moving.move_item.Goals as goal
use Rattle.pl_record.proofs.item_slots.moving.move_item.Goals.{After-leave}
use Rattle.pl_record.proofs.RecordMaps.{held_record}
use Rattle.pl_slot.specs.declared.links.Rail.TheVariants.{Children}

row_is : (g : Over) (c : After-leave g)
    → record_at c.args.slot.0 c.args.arena.now ≡ Some (item_row c.read_item-item.result)
row_is g c =
    held_record (record { slot = c.args.slot; row = item_row c.read_item-item.result }) c.args.arena.now refl
    c.read_item-item.ensures.row

none : (g : Over) (c : After-leave g) → c.read_item-item.result.parent.0 ≡ 0 → (chains : ChainMap)
    → AreChains chains c.args.arena.now → IsLoose Children c.args.slot chains
none g c zero_is = c.requires.loose c.read_item-item.result (row_is g c) zero_is

pub insert_after-requires-clause-place : goal.insert_after-requires-clause-place
insert_after-requires-clause-place g c =
    let known = c.requires.chained in
    let left = c.before.before in
    place_left c.read_item-item.result c.args.slot c.args.parent c.args.after c.args.arena.now c.requires.parent
    c.requires.after c.leave.new.arena c.leave.ensures known.0 known.1 known.2
    (λ zero_is. none g left zero_is known.0 known.1)

pub insert_after-requires-clause-free : goal.insert_after-requires-clause-free
insert_after-requires-clause-free g c =
    let known = c.requires.chained in
    let left = c.before.before in
    free_left c.read_item-item.result c.args.slot c.args.parent c.args.after c.args.arena.now c.requires.parent
    c.requires.after c.leave.new.arena c.leave.ensures known.0 known.1 known.2
    (λ zero_is. none g left zero_is known.0 known.1)

pub returns-clause-moved : goal.returns-clause-moved
returns-clause-moved g c i is =
    let known = c.requires.chained in
    let left = c.before.before.before.before.before.before in
    let read : c.read_item-item.result ≡ i =
    item_read c.args.slot c.args.arena.now c.read_item-item.result i c.read_item-item.ensures.row is in
    subst
    (λ (j : Item). MovesItem j c.args.slot c.args.parent c.args.after c.args.arena.now c.put_parent.new.arena) read
    (moves_item c.read_item-item.result c.args.slot c.args.parent c.args.after c.args.arena.now c.requires.parent
    c.requires.after c.leave.new.arena c.leave.ensures known.0 known.1 known.2 (none g left)
    c.insert_after.new.arena c.put_parent.new.arena
    (record {
      list = c.insert_after.ensures.list;
      owners = c.insert_after.ensures.owners;
      others = c.insert_after.ensures.others;
      rest = c.insert_after.ensures.rest;
      beside = c.insert_after.ensures.beside;
      pages = c.insert_after.ensures.pages;
    }) c.put_parent.ensures.set c.pages.ensures.arena)
