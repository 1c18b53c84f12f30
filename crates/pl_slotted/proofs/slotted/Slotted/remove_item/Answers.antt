use Rattle.std.proofs.Common.{◌+◌, ◌≤◌, arith, refl, subst, sym}
use Rattle.std.proofs.Math.Logic.{∥∥₁_elim}
use Rattle.std.proofs.Props.{props}
use Rattle.pl_base.specs.Live.{slot_limit}
use Rattle.pl_base.specs.Rows.{with_items}
use Rattle.pl_base.specs.Tree.{removed}
use Rattle.pl_record.specs.LinkedRows.{AreLinked}
use Rattle.pl_record.proofs.ItemRemoved.{few_gone, held, removed_base, removed_item}
use Rattle.pl_record.proofs.Kept.{item_kind}
use Rattle.pl_record.proofs.LeafOnce.{leaf_once}
use Rattle.pl_record.proofs.Moves.{then_kept, then_keeps}
use Rattle.pl_slotted.proofs.slotted.Slotted.remove_item.Given.{Over}
use Rattle.pl_slotted.proofs.slotted.Slotted.remove_item.Goals as goal
use Rattle.pl_slotted.proofs.slotted.Slotted.remove_item.Goals.{After-remove, After-slots-gone}
use Rattle.pl_slot.specs.Arena.{header_of}

-- the rows without the item, where those were kept
moved : (g : Over) (c : After-remove g)
    → AreLinked c.args.self.now.rows.kept c.args.self.now.rows.targets c.args.self.now.arena
    c.args.self.now.pages.entries c.args.self.now.visits.entries c.args.self.now.items.entries
    → AreLinked (with_items (removed c.args.item c.args.self.now.rows.kept.items) c.args.self.now.rows.kept)
    c.args.self.now.rows.targets c.set_live.new.self c.args.self.now.pages.entries c.args.self.now.visits.entries
    c.remove.new.self.entries
moved g c l =
    let s = c.args.self.now in
    subst (λ es. AreLinked (with_items (removed c.args.item s.rows.kept.items) s.rows.kept) s.rows.targets
    c.set_live.new.self s.pages.entries s.visits.entries es) (sym c.remove.ensures.entries)
    (removed_item s.rows.kept s.rows.targets s.arena s.pages.entries s.visits.entries s.items.entries l c.args.item
    c.item_slot-slot.result c.item_slot-slot.ensures c.requires.item c.requires.leaf c.read_item.result
    c.read_item.ensures.row c.remove_item.new.arena c.remove_item.ensures.removed c.remove_item.ensures.arena
    c.live.result c.slots-gone.result c.live.ensures c.slots-gone.ensures c.set_live.new.self c.set_live.ensures.set
    c.set_live.ensures.arena)

pub read_item-requires : goal.read_item-requires
read_item-requires g c =
    let s = c.args.self.now in
    record {
      item = item_kind s.arena s.pages.entries s.visits.entries s.items.entries s.rows c.args.item
          c.item_slot-slot.result c.item_slot-slot.ensures;
    }

pub remove_item-requires : goal.remove_item-requires
remove_item-requires g c =
    let s = c.args.self.now in
    record {
      held =
          ∥∥₁_elim s.rows.linked (leaf_once c.item_slot-slot.result s.arena)
          (λ l. held s.rows.kept s.rows.targets s.arena s.pages.entries s.visits.entries s.items.entries l c.args.item
          c.item_slot-slot.result c.item_slot-slot.ensures c.requires.item c.requires.leaf c.read_item.result
          c.read_item.ensures.row);
    }

-- as many slots go as are live at most
few : (g : Over) (c : After-slots-gone g)
    → (1 + c.slots-gone.result ≤ (header_of c.remove_item.new.arena).live)
    × ((header_of c.remove_item.new.arena).live ≤ slot_limit)
few g c =
    let s = c.args.self.now in
    ∥∥₁_elim s.rows.linked (Prim.hlevel props)
    (λ l. few_gone s.rows.kept s.rows.targets s.arena s.pages.entries s.visits.entries s.items.entries l c.args.item
    c.item_slot-slot.result c.item_slot-slot.ensures c.requires.item c.requires.leaf c.read_item.result
    c.read_item.ensures.row c.remove_item.new.arena c.remove_item.ensures.removed c.remove_item.ensures.arena
    (header_of c.remove_item.new.arena).live c.slots-gone.result refl c.slots-gone.ensures)

pub overflow_add-gone : goal.overflow_add-gone
overflow_add-gone g c =
    let bounds = few g c in
    omega (arith, bounds.0, bounds.1)

pub overflow_sub-live : goal.overflow_sub-live
overflow_sub-live g c =
    let bounds = few g c.before.before in
    omega (arith, bounds.0, c.live.ensures)

pub invariant_of-self : goal.invariant_of-self
invariant_of-self g c =
    let s = c.args.self.now in
    record {
      rows =
          then_keeps s.arena c.set_live.new.self s.pages.entries s.visits.entries s.items.entries s.pages.entries
          s.visits.entries c.remove.new.self.entries s.rows
          (with_items (removed c.args.item s.rows.kept.items) s.rows.kept) s.rows.targets (moved g c);
    }

pub returns-clause-kept : goal.returns-clause-kept
returns-clause-kept g c =
    let s = c.args.self.now in
    then_kept s.arena c.set_live.new.self s.pages.entries s.visits.entries s.items.entries s.pages.entries
    s.visits.entries c.remove.new.self.entries s.rows
    (with_items (removed c.args.item s.rows.kept.items) s.rows.kept) s.rows.targets (moved g c.before)
    c.self-1.given.0

pub returns-clause-base : goal.returns-clause-base
returns-clause-base g c bytes base =
    let s = c.args.self.now in
    ∥∥₁_elim s.rows.linked (Prim.hlevel props)
    (λ l. removed_base s.rows.kept s.rows.targets s.arena s.pages.entries s.visits.entries s.items.entries l c.args.item
    c.item_slot-slot.result c.item_slot-slot.ensures c.requires.item c.requires.leaf c.read_item.result
    c.read_item.ensures.row c.remove_item.new.arena c.remove_item.ensures.removed c.remove_item.ensures.arena
    c.live.result c.slots-gone.result c.live.ensures c.slots-gone.ensures c.set_live.new.self c.set_live.ensures.set
    c.set_live.ensures.arena bytes base)
