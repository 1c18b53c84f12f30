use Rattle.std.proofs.Common.{◌+◌, ◌≤◌, ap, arith, refl, subst, sym}
use Rattle.std.proofs.Math.Logic.{∥∥₁_elim}
use Rattle.std.proofs.Props.{props}
use Rattle.pl_base.specs.Live.{slot_limit}
use Rattle.pl_base.specs.Rows.{Kept, WithoutPage}
use Rattle.pl_record.specs.LinkedRows.{AreLinked}
use Rattle.pl_record.proofs.Kept.{page_kind}
use Rattle.pl_record.proofs.Moves.{then_kept, then_keeps}
use Rattle.pl_record.proofs.OneChains.{bare_once, map_once, member_once}
use Rattle.pl_record.proofs.PageRemoved.{asked, bare, chained_then, member}
use Rattle.pl_record.proofs.PageWithout.{base_without, few_gone, linked_without, page_without, without}
use Rattle.pl_slotted.proofs.slotted.Slotted.remove_page.Given.{Over}
use Rattle.pl_slotted.proofs.slotted.Slotted.remove_page.Goals as goal
use Rattle.pl_slotted.proofs.slotted.Slotted.remove_page.Goals.{After-remove, After-slots-2}
use Rattle.pl_rail.specs.declared.owner.Owner.TheVariants.{Header}
use Rattle.pl_slot.specs.declared.kind.LiveKind.TheVariants as live
use Rattle.pl_slot.specs.declared.links.Rail.TheVariants.{Live}
use Rattle.pl_slot.specs.Arena.{header_of}

-- the rows without the page, where those were kept
moved : (g : Over) (c : After-remove g)
    → AreLinked c.args.self.now.rows.kept c.args.self.now.rows.targets c.args.self.now.arena
    c.args.self.now.pages.entries c.args.self.now.visits.entries c.args.self.now.items.entries
    → AreLinked (without c.args.page c.read_place-place.result.origin c.args.self.now.rows.kept)
    c.args.self.now.rows.targets c.set_live.new.self c.remove.new.self.entries c.args.self.now.visits.entries
    c.args.self.now.items.entries
moved g c l =
    let s = c.args.self.now in
    let place = c.read_place-place.result in
    subst (λ es. AreLinked (without c.args.page place.origin s.rows.kept) s.rows.targets c.set_live.new.self es
    s.visits.entries s.items.entries) (sym c.remove.ensures.entries)
    (linked_without s.rows.kept s.rows.targets s.arena s.pages.entries s.visits.entries s.items.entries l c.args.page
    c.page_slot-slot.result c.page_slot-slot.ensures place c.read_place-place.ensures.row c.requires.unvisited
    c.requires.unreferenced c.remove_place.new.arena c.remove_place.ensures.removed c.remove_place.ensures.arena
    c.drop_origin-more.new.arena c.drop_origin-more.result c.drop_origin-more.ensures.left c.live.result
    c.slots.result c.slots-2.result c.live.ensures c.slots.ensures c.slots-2.ensures c.set_live.new.self
    c.set_live.ensures.set c.set_live.ensures.arena)

pub read_place-place-requires : goal.read_place-place-requires
read_place-place-requires g c =
    let s = c.args.self.now in
    record {
      place = page_kind s.arena s.pages.entries s.visits.entries s.items.entries s.rows c.args.page
          c.page_slot-slot.result c.page_slot-slot.ensures;
    }

pub remove_place-requires : goal.remove_place-requires
remove_place-requires g c =
    let s = c.args.self.now in
    record {
      bare =
          ∥∥₁_elim s.rows.linked (bare_once c.page_slot-slot.result s.arena)
          (λ l. bare s.rows.kept s.rows.targets s.arena s.pages.entries s.visits.entries s.items.entries l c.args.page
          c.page_slot-slot.result c.page_slot-slot.ensures c.read_place-place.result c.read_place-place.ensures.row
          c.requires.unvisited c.requires.unreferenced);
    }

pub drop_origin-more-requires-clause-asked : goal.drop_origin-more-requires-clause-asked
drop_origin-more-requires-clause-asked g c =
    let s = c.args.self.now in
    ∥∥₁_elim s.rows.linked (Prim.hlevel props)
    (λ l. asked s.rows.kept s.rows.targets s.arena s.pages.entries s.visits.entries s.items.entries l c.args.page
    c.page_slot-slot.result c.page_slot-slot.ensures c.read_place-place.result c.read_place-place.ensures.row
    c.requires.unvisited c.requires.unreferenced c.remove_place.new.arena c.remove_place.ensures.removed
    c.remove_place.ensures.arena)

pub drop_origin-more-requires-clause-member : goal.drop_origin-more-requires-clause-member
drop_origin-more-requires-clause-member g c =
    let s = c.args.self.now in
    ∥∥₁_elim s.rows.linked
    (member_once Live (Header live.Origin) c.read_place-place.result.origin c.remove_place.new.arena)
    (λ l. member s.rows.kept s.rows.targets s.arena s.pages.entries s.visits.entries s.items.entries l c.args.page
    c.page_slot-slot.result c.page_slot-slot.ensures c.read_place-place.result c.read_place-place.ensures.row
    c.requires.unvisited c.requires.unreferenced c.remove_place.new.arena c.remove_place.ensures.removed
    c.remove_place.ensures.arena)

pub drop_origin-more-requires-clause-chained : goal.drop_origin-more-requires-clause-chained
drop_origin-more-requires-clause-chained g c =
    let s = c.args.self.now in
    ∥∥₁_elim s.rows.linked (map_once c.remove_place.new.arena)
    (λ l. chained_then s.rows.kept s.rows.targets s.arena s.pages.entries s.visits.entries s.items.entries l c.args.page
    c.page_slot-slot.result c.page_slot-slot.ensures c.read_place-place.result c.read_place-place.ensures.row
    c.requires.unvisited c.requires.unreferenced c.remove_place.new.arena c.remove_place.ensures.removed
    c.remove_place.ensures.arena)

-- as many slots go as are live at most
few : (g : Over) (c : After-slots-2 g)
    → (1 + c.slots.result + c.slots-2.result + c.drop_origin-more.result
    ≤ (header_of c.drop_origin-more.new.arena).live) × ((header_of c.drop_origin-more.new.arena).live ≤ slot_limit)
few g c =
    let s = c.args.self.now in
    ∥∥₁_elim s.rows.linked (Prim.hlevel props)
    (λ l. few_gone s.rows.kept s.rows.targets s.arena s.pages.entries s.visits.entries s.items.entries l c.args.page
    c.page_slot-slot.result c.page_slot-slot.ensures c.read_place-place.result c.read_place-place.ensures.row
    c.requires.unvisited c.requires.unreferenced c.remove_place.new.arena c.remove_place.ensures.removed
    c.remove_place.ensures.arena c.drop_origin-more.new.arena c.drop_origin-more.result
    c.drop_origin-more.ensures.left (header_of c.drop_origin-more.new.arena).live c.slots.result c.slots-2.result refl
    c.slots.ensures c.slots-2.ensures)

pub overflow_add-gone-2 : goal.overflow_add-gone-2
overflow_add-gone-2 g c =
    let bounds = few g c in
    omega (arith, bounds.0, bounds.1)

pub overflow_add-gone-3 : goal.overflow_add-gone-3
overflow_add-gone-3 g c =
    let bounds = few g c in
    omega (arith, bounds.0, bounds.1)

pub overflow_sub-live : goal.overflow_sub-live
overflow_sub-live g c =
    let bounds = few g c.before.before in
    omega (arith, bounds.0, c.live.ensures)

pub invariant_of-self : goal.invariant_of-self
invariant_of-self g c =
    let s = c.args.self.now in
    record {
      rows =
          then_keeps s.arena c.set_live.new.self s.pages.entries s.visits.entries s.items.entries
          c.remove.new.self.entries s.visits.entries s.items.entries s.rows
          (without c.args.page c.read_place-place.result.origin s.rows.kept) s.rows.targets (moved g c);
    }

pub returns-clause-kept : goal.returns-clause-kept
returns-clause-kept g c =
    let s = c.args.self.now in
    subst (WithoutPage c.args.page s.rows.kept)
    (sym (then_kept s.arena c.set_live.new.self s.pages.entries s.visits.entries s.items.entries
    c.remove.new.self.entries s.visits.entries s.items.entries s.rows
    (without c.args.page c.read_place-place.result.origin s.rows.kept) s.rows.targets (moved g c.before)
    c.self-1.given.0))
    (∥∥₁_elim s.rows.linked (Prim.hlevel props)
    (λ l. page_without s.rows.kept s.rows.targets s.arena s.pages.entries s.visits.entries s.items.entries l c.args.page
    c.page_slot-slot.result c.page_slot-slot.ensures c.read_place-place.result c.read_place-place.ensures.row))

pub returns-clause-names : goal.returns-clause-names
returns-clause-names g c =
    let s = c.args.self.now in
    ap (λ (k : Kept). k.pages)
    (then_kept s.arena c.set_live.new.self s.pages.entries s.visits.entries s.items.entries c.remove.new.self.entries
    s.visits.entries s.items.entries s.rows (without c.args.page c.read_place-place.result.origin s.rows.kept)
    s.rows.targets (moved g c.before) c.self-1.given.0)

pub returns-clause-base : goal.returns-clause-base
returns-clause-base g c bytes base =
    let s = c.args.self.now in
    ∥∥₁_elim s.rows.linked (Prim.hlevel props)
    (λ l. base_without s.rows.kept s.rows.targets s.arena s.pages.entries s.visits.entries s.items.entries l c.args.page
    c.page_slot-slot.result c.page_slot-slot.ensures c.read_place-place.result c.read_place-place.ensures.row
    c.requires.unvisited c.requires.unreferenced c.remove_place.new.arena c.remove_place.ensures.removed
    c.remove_place.ensures.arena c.drop_origin-more.new.arena c.drop_origin-more.result
    c.drop_origin-more.ensures.left c.live.result c.slots.result c.slots-2.result c.live.ensures c.slots.ensures
    c.slots-2.ensures c.set_live.new.self c.set_live.ensures.set c.set_live.ensures.arena bytes base)
