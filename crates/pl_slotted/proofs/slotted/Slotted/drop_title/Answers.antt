use Rattle.std.proofs.Common.{[], refl}
use Rattle.std.proofs.Math.Logic.{∥∥₁_elim}
use Rattle.std.proofs.Props.{props}
use Rattle.pl_base.specs.Rows.{with_title}
use Rattle.pl_record.specs.LinkedRows.{AreLinked}
use Rattle.pl_record.proofs.Kept.{page_kind, title_text}
use Rattle.pl_record.proofs.Moves.{then_kept, then_keeps}
use Rattle.pl_record.proofs.TitleCalls.{drop_base, drop_few, drop_moves, empty_title, freed_kind}
use Rattle.pl_slotted.proofs.slotted.Slotted.drop_title.Given.{Over}
use Rattle.pl_slotted.proofs.slotted.Slotted.drop_title.Goals as goal
use Rattle.pl_slotted.proofs.slotted.Slotted.drop_title.Goals.{After-set_live}

moved : (g : Over) (c : After-set_live g)
    → AreLinked c.args.self.now.rows.kept c.args.self.now.rows.targets c.args.self.now.arena
    c.args.self.now.pages.entries c.args.self.now.visits.entries c.args.self.now.items.entries
    → AreLinked (with_title c.args.page [] c.args.self.now.rows.kept) c.args.self.now.rows.targets c.set_live.new.self
    c.args.self.now.pages.entries c.args.self.now.visits.entries c.args.self.now.items.entries
moved g c l =
    let s = c.args.self.now in
    drop_moves s.rows.kept s.rows.targets s.arena s.pages.entries s.visits.entries s.items.entries l c.args.page
    c.page_slot-slot.result c.page_slot-slot.ensures
    c.requires.page c.read_place.result c.read_place.ensures.row c.free.new.arena c.free.ensures.freed
    c.put_title.new.arena c.set_live.new.self _ refl c.put_title.ensures.set c.live.result c.slots.result
    c.live.ensures c.slots.ensures c.set_live.ensures.set c.set_live.ensures.arena empty_title

pub read_place-requires : goal.read_place-requires
read_place-requires g c =
    let s = c.args.self.now in
    record {
      place = page_kind s.arena s.pages.entries s.visits.entries s.items.entries s.rows c.args.page
          c.page_slot-slot.result c.page_slot-slot.ensures;
    }

pub free-requires : goal.free-requires
free-requires g c =
    let s = c.args.self.now in
    let text =
    title_text s.arena s.pages.entries s.visits.entries s.items.entries s.rows c.args.page c.page_slot-slot.result
    c.read_place.result c.page_slot-slot.ensures
    c.read_place.ensures.row in
    record { text = (text.0, text.1) }

pub put_title-requires : goal.put_title-requires
put_title-requires g c =
    let s = c.args.self.now in
    record {
      place =
          ∥∥₁_elim s.rows.linked (Prim.hlevel props)
          (λ l. freed_kind s.rows.kept s.rows.targets s.arena s.pages.entries s.visits.entries s.items.entries l
          c.args.page c.page_slot-slot.result c.page_slot-slot.ensures
          c.requires.page c.read_place.result c.read_place.ensures.row c.free.new.arena c.free.ensures.freed);
    }

pub overflow_sub-live : goal.overflow_sub-live
overflow_sub-live g c =
    let s = c.args.self.now in
    ∥∥₁_elim s.rows.linked (Prim.hlevel props)
    (λ l. drop_few s.rows.kept s.rows.targets s.arena s.pages.entries s.visits.entries s.items.entries l c.args.page
    c.page_slot-slot.result c.page_slot-slot.ensures
    c.requires.page c.read_place.result c.read_place.ensures.row c.free.new.arena c.free.ensures.freed
    c.put_title.new.arena _ c.put_title.ensures.set c.live.result c.slots.result c.live.ensures c.slots.ensures)

pub invariant_of-self : goal.invariant_of-self
invariant_of-self g c =
    let s = c.args.self.now in
    record {
      rows =
          then_keeps s.arena c.set_live.new.self s.pages.entries s.visits.entries s.items.entries s.pages.entries
          s.visits.entries s.items.entries s.rows (with_title c.args.page [] s.rows.kept) s.rows.targets (moved g c);
    }

pub returns-clause-kept : goal.returns-clause-kept
returns-clause-kept g c =
    let s = c.args.self.now in
    then_kept s.arena c.set_live.new.self s.pages.entries s.visits.entries s.items.entries s.pages.entries
    s.visits.entries s.items.entries s.rows (with_title c.args.page [] s.rows.kept) s.rows.targets (moved g c.before)
    c.self-1.given.0

pub returns-clause-base : goal.returns-clause-base
returns-clause-base g c bytes base =
    let s = c.args.self.now in
    ∥∥₁_elim s.rows.linked (Prim.hlevel props)
    (λ l. drop_base s.rows.kept s.rows.targets s.arena s.pages.entries s.visits.entries s.items.entries l c.args.page
    c.page_slot-slot.result c.page_slot-slot.ensures
    c.requires.page c.read_place.result c.read_place.ensures.row c.free.new.arena c.free.ensures.freed
    c.put_title.new.arena c.set_live.new.self _ refl c.put_title.ensures.set c.live.result c.slots.result
    c.live.ensures c.slots.ensures c.set_live.ensures.set c.set_live.ensures.arena c.free.ensures.arena bytes base)
