use Rattle.std.proofs.Common.{◌≡◌, ◌+◌, ◌≤◌, [], ℕ, List, arith, length, refl, subst, sym}
use Rattle.std.proofs.Math.Logic.{∥∥₁_elim}
use Rattle.std.proofs.Props.{props}
use Rattle.pl_base.specs.declared.id.Slot.{Slot}
use Rattle.pl_base.specs.Live.{chunks, slot_limit}
use Rattle.pl_base.specs.Rows.{with_title}
use Rattle.pl_record.specs.LinkedRows.{AreLinked}
use Rattle.pl_record.proofs.FreeMoved.{free_moved}
use Rattle.pl_record.proofs.Moves.{then_kept, then_keeps}
use Rattle.pl_record.proofs.TitleCalls.{give_base, give_few, give_moves, stored_kind, titled_there}
use Rattle.pl_record.proofs.TitleLinked.{given_room}
use Rattle.pl_slotted.proofs.slotted.Slotted.give_title.Given.{Over}
use Rattle.pl_slotted.proofs.slotted.Slotted.give_title.Goals as goal
use Rattle.pl_slotted.proofs.slotted.Slotted.give_title.Goals.{After-set_live}
use Rattle.pl_sheets.specs.Sheets.{Pages}
use Rattle.pl_slot.specs.Arena.{live_count}
use Rattle.pl_text.specs.Chunks.{StoresText}

stored : (slot : Slot) (old new : Pages) (bytes title : List ℕ) → bytes ≡ title → StoresText slot bytes old new
    → StoresText slot title old new
stored slot old new bytes title same is = subst (λ text. StoresText slot text old new) same is

moved : (g : Over) (c : After-set_live g)
    → AreLinked c.args.self.now.rows.kept c.args.self.now.rows.targets c.args.self.now.arena
    c.args.self.now.pages.entries c.args.self.now.visits.entries c.args.self.now.items.entries
    → AreLinked (with_title c.args.page c.args.title.now c.args.self.now.rows.kept) c.args.self.now.rows.targets
    c.set_live.new.self c.args.self.now.pages.entries c.args.self.now.visits.entries c.args.self.now.items.entries
moved g c l =
    let s = c.args.self.now in
    give_moves s.rows.kept s.rows.targets s.arena s.pages.entries s.visits.entries s.items.entries l c.args.page
    c.page_slot-slot.result c.page_slot-slot.ensures
    (titled_there s.rows.kept c.args.page [] c.requires.bare) c.args.title.now c.requires.bare c.requires.live
    c.store.new.arena _
    (stored c.in_ok-store.field-0 c.args.self.now.arena c.store.new.arena c.as_bytes.result.now c.args.title.now
    c.as_bytes.ensures.value c.in_ok-store.ensures.stored) c.in_ok-store.ensures.header c.put_title.new.arena
    c.put_title.ensures.set c.live.result c.slots.result c.live.ensures refl c.slots.ensures c.set_live.new.self
    c.set_live.ensures.set c.set_live.ensures.arena (c.utf8.title, c.requires.title)

pub page_slot-slot-requires : goal.page_slot-slot-requires
page_slot-slot-requires g c = titled_there c.args.self.now.rows.kept c.args.page [] c.requires.bare

pub store-requires : goal.store-requires
store-requires g c =
    let s = c.args.self.now in
    record {
      few =
          subst (λ text. live_count s.arena + chunks text ≤ slot_limit) (sym c.as_bytes.ensures.value)
          (∥∥₁_elim s.rows.linked (Prim.hlevel props)
          (λ l. given_room s.rows.kept s.rows.targets s.arena s.pages.entries s.visits.entries s.items.entries l
          c.args.page c.page_slot-slot.result c.page_slot-slot.ensures c.args.title.now
          (titled_there s.rows.kept c.args.page [] c.requires.bare) c.requires.bare c.requires.live));
    }

pub invariant_of-self : goal.invariant_of-self
invariant_of-self g c =
    let s = c.args.self.now in
    record {
      rows =
          then_keeps s.arena c.store.new.arena s.pages.entries s.visits.entries s.items.entries s.pages.entries
          s.visits.entries s.items.entries s.rows s.rows.kept s.rows.targets
          (λ l. free_moved s.rows.kept s.rows.targets s.arena c.store.new.arena s.pages.entries s.visits.entries
          s.items.entries l
          c.in_err-store.ensures.refused c.in_err-store.ensures.header (c.in_err-store.ensures.arena l.laid.arena));
    }

pub put_title-requires : goal.put_title-requires
put_title-requires g c =
    let s = c.args.self.now in
    record {
      place =
          ∥∥₁_elim s.rows.linked (Prim.hlevel props)
          (λ l. stored_kind s.rows.kept s.rows.targets s.arena s.pages.entries s.visits.entries s.items.entries l
          c.args.page c.page_slot-slot.result c.page_slot-slot.ensures
          (titled_there s.rows.kept c.args.page [] c.requires.bare) c.args.title.now c.requires.bare c.requires.live
          c.store.new.arena (record { slot = c.in_ok-store.field-0; length = length c.args.title.now })
          (stored c.in_ok-store.field-0 c.args.self.now.arena c.store.new.arena c.as_bytes.result.now c.args.title.now
          c.as_bytes.ensures.value c.in_ok-store.ensures.stored) c.in_ok-store.ensures.header);
    }

pub overflow_add-live : goal.overflow_add-live
overflow_add-live g c =
    let s = c.args.self.now in
    ∥∥₁_elim s.rows.linked (Prim.hlevel props)
    (λ l. omega (
      arith,
      give_few s.rows.kept s.rows.targets s.arena s.pages.entries s.visits.entries s.items.entries l c.args.page
          c.page_slot-slot.result c.page_slot-slot.ensures
          (titled_there s.rows.kept c.args.page [] c.requires.bare) c.args.title.now c.requires.bare c.requires.live
          c.store.new.arena _
          (stored c.in_ok-store.field-0 c.args.self.now.arena c.store.new.arena c.as_bytes.result.now c.args.title.now
          c.as_bytes.ensures.value c.in_ok-store.ensures.stored) c.in_ok-store.ensures.header c.put_title.new.arena
          c.put_title.ensures.set c.live.result c.slots.result c.live.ensures refl c.slots.ensures,
    ))

pub invariant_of-self-2 : goal.invariant_of-self-2
invariant_of-self-2 g c =
    let s = c.args.self.now in
    record {
      rows =
          then_keeps s.arena c.set_live.new.self s.pages.entries s.visits.entries s.items.entries s.pages.entries
          s.visits.entries s.items.entries s.rows (with_title c.args.page c.args.title.now s.rows.kept) s.rows.targets
          (moved g c);
    }

pub returns-clause-kept : goal.returns-clause-kept
returns-clause-kept g c =
    let s = c.args.self.now in
    then_kept s.arena c.set_live.new.self s.pages.entries s.visits.entries s.items.entries s.pages.entries
    s.visits.entries s.items.entries s.rows (with_title c.args.page c.args.title.now s.rows.kept) s.rows.targets
    (λ l. give_moves s.rows.kept s.rows.targets s.arena s.pages.entries s.visits.entries s.items.entries l c.args.page
    c.page_slot-slot.result c.page_slot-slot.ensures
    (titled_there s.rows.kept c.args.page [] c.requires.bare) c.args.title.now c.requires.bare c.requires.live
    c.store.new.arena _
    (stored c.in_ok-store.field-0 c.args.self.now.arena c.store.new.arena c.as_bytes.result.now c.args.title.now
    c.as_bytes.ensures.value c.in_ok-store.ensures.stored) c.in_ok-store.ensures.header c.put_title.new.arena
    c.put_title.ensures.set c.live.result c.slots.result c.live.ensures refl c.slots.ensures c.set_live.new.self
    c.set_live.ensures.set c.set_live.ensures.arena (c.utf8.title, c.requires.title)) c.self-2-1.given.0

pub returns-clause-base : goal.returns-clause-base
returns-clause-base g c bytes base =
    let s = c.args.self.now in
    ∥∥₁_elim s.rows.linked (Prim.hlevel props)
    (λ l. give_base s.rows.kept s.rows.targets s.arena s.pages.entries s.visits.entries s.items.entries l c.args.page
    c.page_slot-slot.result c.page_slot-slot.ensures
    (titled_there s.rows.kept c.args.page [] c.requires.bare) c.args.title.now c.requires.bare c.requires.live
    c.store.new.arena _
    (stored c.in_ok-store.field-0 c.args.self.now.arena c.store.new.arena c.as_bytes.result.now c.args.title.now
    c.as_bytes.ensures.value c.in_ok-store.ensures.stored) c.in_ok-store.ensures.header c.put_title.new.arena
    c.put_title.ensures.set c.live.result c.slots.result c.live.ensures refl c.slots.ensures c.set_live.new.self
    c.set_live.ensures.set c.set_live.ensures.arena c.in_ok-store.ensures.arena bytes base)
