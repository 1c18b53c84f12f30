use Rattle.std.proofs.Common.{[], refl}
use Rattle.std.proofs.Math.Logic.{∥∥₁_elim}
use Rattle.std.proofs.Props.{props}
use Rattle.pl_record.specs.LinkedRows.{AreLinked}
use Rattle.pl_record.proofs.ItemTitleLinked.{drop_base, drop_few, drop_moves, freed_kind}
use Rattle.pl_record.proofs.ItemTitleSlots.{with_entitled}
use Rattle.pl_record.proofs.Kept.{item_kind, item_title_text}
use Rattle.pl_record.proofs.Moves.{then_kept, then_keeps}
use Rattle.pl_record.proofs.TitleCalls.{empty_title}
use Rattle.pl_slotted.proofs.slotted.Slotted.drop_item_title.Given.{Over}
use Rattle.pl_slotted.proofs.slotted.Slotted.drop_item_title.Goals as goal
use Rattle.pl_slotted.proofs.slotted.Slotted.drop_item_title.Goals.{After-set_live}

moved : (g : Over) (c : After-set_live g)
    → AreLinked c.args.self.now.rows.kept c.args.self.now.rows.targets c.args.self.now.arena
    c.args.self.now.pages.entries c.args.self.now.visits.entries c.args.self.now.items.entries
    → AreLinked (with_entitled c.args.item [] c.args.self.now.rows.kept) c.args.self.now.rows.targets c.set_live.new.self
    c.args.self.now.pages.entries c.args.self.now.visits.entries c.args.self.now.items.entries
moved g c l =
    let s = c.args.self.now in
    drop_moves s.rows.kept s.rows.targets s.arena s.pages.entries s.visits.entries s.items.entries l c.args.item
    c.item_slot-slot.result c.item_slot-slot.ensures
    c.read_item.result c.read_item.ensures.row c.free.new.arena c.free.ensures.freed
    c.put_item_title.new.arena c.set_live.new.self _ refl c.put_item_title.ensures.set c.live.result c.slots.result
    c.live.ensures c.slots.ensures c.set_live.ensures.set c.set_live.ensures.arena empty_title

pub read_item-requires : goal.read_item-requires
read_item-requires g c =
    let s = c.args.self.now in
    record {
      item = item_kind s.arena s.pages.entries s.visits.entries s.items.entries s.rows c.args.item
          c.item_slot-slot.result c.item_slot-slot.ensures;
    }

pub free-requires : goal.free-requires
free-requires g c =
    let s = c.args.self.now in
    let text =
    item_title_text s.arena s.pages.entries s.visits.entries s.items.entries s.rows c.args.item c.item_slot-slot.result
    c.read_item.result c.item_slot-slot.ensures
    c.read_item.ensures.row in
    record { text = (text.0, text.1) }

pub put_item_title-requires : goal.put_item_title-requires
put_item_title-requires g c =
    let s = c.args.self.now in
    record {
      item =
          ∥∥₁_elim s.rows.linked (Prim.hlevel props)
          (λ l. freed_kind s.rows.kept s.rows.targets s.arena s.pages.entries s.visits.entries s.items.entries l
          c.args.item c.item_slot-slot.result c.item_slot-slot.ensures
          c.read_item.result c.read_item.ensures.row c.free.new.arena c.free.ensures.freed);
    }

pub overflow_sub-live : goal.overflow_sub-live
overflow_sub-live g c =
    let s = c.args.self.now in
    ∥∥₁_elim s.rows.linked (Prim.hlevel props)
    (λ l. drop_few s.rows.kept s.rows.targets s.arena s.pages.entries s.visits.entries s.items.entries l c.args.item
    c.item_slot-slot.result c.item_slot-slot.ensures
    c.read_item.result c.read_item.ensures.row c.free.new.arena c.free.ensures.freed
    c.put_item_title.new.arena _ c.put_item_title.ensures.set c.live.result c.slots.result c.live.ensures c.slots.ensures)

pub invariant_of-self : goal.invariant_of-self
invariant_of-self g c =
    let s = c.args.self.now in
    record {
      rows =
          then_keeps s.arena c.set_live.new.self s.pages.entries s.visits.entries s.items.entries s.pages.entries
          s.visits.entries s.items.entries s.rows (with_entitled c.args.item [] s.rows.kept) s.rows.targets (moved g c);
    }

pub returns-clause-kept : goal.returns-clause-kept
returns-clause-kept g c =
    let s = c.args.self.now in
    then_kept s.arena c.set_live.new.self s.pages.entries s.visits.entries s.items.entries s.pages.entries
    s.visits.entries s.items.entries s.rows (with_entitled c.args.item [] s.rows.kept) s.rows.targets (moved g c.before)
    c.self-1.given.0

pub returns-clause-base : goal.returns-clause-base
returns-clause-base g c bytes base =
    let s = c.args.self.now in
    ∥∥₁_elim s.rows.linked (Prim.hlevel props)
    (λ l. drop_base s.rows.kept s.rows.targets s.arena s.pages.entries s.visits.entries s.items.entries l c.args.item
    c.item_slot-slot.result c.item_slot-slot.ensures
    c.read_item.result c.read_item.ensures.row c.free.new.arena c.free.ensures.freed
    c.put_item_title.new.arena c.set_live.new.self _ refl c.put_item_title.ensures.set c.live.result c.slots.result
    c.live.ensures c.slots.ensures c.set_live.ensures.set c.set_live.ensures.arena c.free.ensures.arena bytes base)
