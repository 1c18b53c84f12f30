use Rattle.std.proofs.Common.{◌≡◌, ◌≢◌, true, IfSome, None, Option, Some}
use Rattle.std.proofs.Math.Logic.{∥∥₁_elim}
use Rattle.std.proofs.Props.{props}
use Rattle.pl_base.specs.declared.id.ItemId.{ItemId}
use Rattle.pl_base.specs.Rows.{with_items}
use Rattle.pl_base.specs.Tree.{has_item, moved, parent_of}
use Rattle.pl_record.specs.LinkedRows.{AreLinked}
use Rattle.pl_record.proofs.ItemMoveCalls as calls
use Rattle.pl_record.proofs.ItemMovedRows.{folder_there}
use Rattle.pl_record.proofs.Kept.{item_kind}
use Rattle.pl_record.proofs.Moves.{then_kept, then_keeps}
use Rattle.pl_record.proofs.OneChains.{apart_map_once, member_once}
use Rattle.pl_slotted.proofs.slotted.Slotted.move_item.Given.{Over}
use Rattle.pl_slotted.proofs.slotted.Slotted.move_item.Goals as goal
use Rattle.pl_slotted.proofs.slotted.Slotted.move_item.Goals.{After-move_item}
use Rattle.pl_rail.specs.declared.owner.Owner.TheVariants.{At}
use Rattle.pl_slot.specs.declared.links.Rail.TheVariants.{Children}

-- the rows where the item has moved, where those were kept
now_rows : (g : Over) (c : After-move_item g)
    → AreLinked c.args.self.now.rows.kept c.args.self.now.rows.targets c.args.self.now.arena
    c.args.self.now.pages.entries c.args.self.now.visits.entries c.args.self.now.items.entries
    → AreLinked
    (with_items (moved c.args.item c.args.parent c.args.after c.args.self.now.rows.kept.items)
    c.args.self.now.rows.kept) c.args.self.now.rows.targets c.move_item.new.arena c.args.self.now.pages.entries
    c.args.self.now.visits.entries c.args.self.now.items.entries
now_rows g c l =
    let s = c.args.self.now in
    calls.moved_rows s.rows.kept s.rows.targets s.arena s.pages.entries s.visits.entries s.items.entries l c.args.item
    c.item_slot-slot.result c.item_slot-slot.ensures c.args.parent c.requires.parent c.item_slot-parent.result
    c.item_slot-parent.ensures c.args.after c.requires.after c.slot_after-after.result c.slot_after-after.ensures
    c.move_item.new.arena c.move_item.ensures.moved c.move_item.ensures.arena

pub item_slot-parent-requires : goal.item_slot-parent-requires
item_slot-parent-requires g c =
    folder_there c.args.item c.args.parent c.args.after c.args.self.now.rows.kept c.requires.parent

pub slot_after-after-requires : goal.slot_after-after-requires
slot_after-after-requires g c = choose c.args.after c.requires.after
  where
    choose : (o : Option ItemId)
        → IfSome o (λ a.
        (a ≢ c.args.item) × (parent_of c.args.self.now.rows.kept.items a ≡ Some c.args.parent))
        → IfSome o (λ a. has_item c.args.self.now.rows.kept.items a ≡ true)
    choose None known = tt
    choose (Some a) known =
        let s = c.args.self.now in
        ∥∥₁_elim s.rows.linked (Prim.hlevel props)
        (λ l. calls.there s.rows.kept s.rows.targets s.arena s.pages.entries s.visits.entries s.items.entries l
        c.args.parent a known.1)

pub move_item-requires-clause-item : goal.move_item-requires-clause-item
move_item-requires-clause-item g c =
    let s = c.args.self.now in
    item_kind s.arena s.pages.entries s.visits.entries s.items.entries s.rows c.args.item c.item_slot-slot.result
    c.item_slot-slot.ensures

pub move_item-requires-clause-parent : goal.move_item-requires-clause-parent
move_item-requires-clause-parent g c =
    let s = c.args.self.now in
    item_kind s.arena s.pages.entries s.visits.entries s.items.entries s.rows c.args.parent c.item_slot-parent.result
    c.item_slot-parent.ensures

pub move_item-requires-clause-of_parent : goal.move_item-requires-clause-of_parent
move_item-requires-clause-of_parent g c row read has =
    let s = c.args.self.now in
    ∥∥₁_elim s.rows.linked (member_once Children (At row.parent) c.item_slot-slot.result s.arena)
    (λ l. calls.of_parent s.rows.kept s.rows.targets s.arena s.pages.entries s.visits.entries s.items.entries l
    c.args.item c.item_slot-slot.result c.item_slot-slot.ensures row read has)

pub move_item-requires-clause-loose : goal.move_item-requires-clause-loose
move_item-requires-clause-loose g c row read zero chains are owner =
    let s = c.args.self.now in
    ∥∥₁_elim s.rows.linked (Prim.hlevel props)
    (λ l. calls.loose s.rows.kept s.rows.targets s.arena s.pages.entries s.visits.entries s.items.entries l
    c.args.item c.item_slot-slot.result c.item_slot-slot.ensures row read zero chains are owner)

pub move_item-requires-clause-after : goal.move_item-requires-clause-after
move_item-requires-clause-after g c =
    let s = c.args.self.now in
    ∥∥₁_elim s.rows.linked
    (calls.behind_once c.item_slot-slot.result c.item_slot-parent.result s.arena c.slot_after-after.result)
    (λ l. calls.behind_member s.rows.kept s.rows.targets s.arena s.pages.entries s.visits.entries s.items.entries l
    c.args.item c.item_slot-slot.result c.item_slot-slot.ensures c.args.parent c.requires.parent
    c.item_slot-parent.result c.item_slot-parent.ensures c.args.after c.requires.after c.slot_after-after.result
    c.slot_after-after.ensures)

pub move_item-requires-clause-chained : goal.move_item-requires-clause-chained
move_item-requires-clause-chained g c =
    let s = c.args.self.now in
    ∥∥₁_elim s.rows.linked (apart_map_once Children s.arena)
    (λ l. calls.child_chains s.rows.kept s.rows.targets s.arena s.pages.entries s.visits.entries s.items.entries l)

pub invariant_of-self : goal.invariant_of-self
invariant_of-self g c =
    let s = c.args.self.now in
    record {
      rows =
          then_keeps s.arena c.move_item.new.arena s.pages.entries s.visits.entries s.items.entries s.pages.entries
          s.visits.entries s.items.entries s.rows
          (with_items (moved c.args.item c.args.parent c.args.after s.rows.kept.items) s.rows.kept) s.rows.targets
          (now_rows g c);
    }

pub returns-clause-kept : goal.returns-clause-kept
returns-clause-kept g c =
    let s = c.args.self.now in
    then_kept s.arena c.move_item.new.arena s.pages.entries s.visits.entries s.items.entries s.pages.entries
    s.visits.entries s.items.entries s.rows
    (with_items (moved c.args.item c.args.parent c.args.after s.rows.kept.items) s.rows.kept) s.rows.targets
    (now_rows g c.before) c.self-1.given.0

pub returns-clause-base : goal.returns-clause-base
returns-clause-base g c bytes base =
    let s = c.args.self.now in
    ∥∥₁_elim s.rows.linked (Prim.hlevel props)
    (λ l. calls.moved_base s.rows.kept s.rows.targets s.arena s.pages.entries s.visits.entries s.items.entries l
    c.args.item c.item_slot-slot.result c.item_slot-slot.ensures c.args.parent c.requires.parent
    c.item_slot-parent.result c.item_slot-parent.ensures c.args.after c.requires.after c.slot_after-after.result
    c.slot_after-after.ensures c.move_item.new.arena c.move_item.ensures.moved bytes base)
