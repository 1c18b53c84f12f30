use Rattle.std.proofs.Common.{◌∙◌, Some, ap, refl, subst}
use Rattle.pl_record.specs.SlotChanges.{new_place}
use Rattle.pl_record.proofs.ChainMaps.{loose_everywhere}
use Rattle.pl_record.proofs.PlaceTaken.{origin_there, place_live, place_loose, takes_place, with_place}
use Rattle.pl_record.proofs.SlotSteps.{Takes, taken_chain, taken_kind, taken_loose}
use Rattle.pl_record.proofs.page_slots.take_place.Given.{Over}
use Rattle.pl_record.proofs.page_slots.take_place.Goals as goal
use Rattle.pl_record.proofs.page_slots.take_place.Goals.{In_ok-slot}
use Rattle.pl_rail.specs.declared.owner.Owner.TheVariants.{At, Header}
use Rattle.pl_rail.specs.Rails.{is_kind}
use Rattle.pl_slot.specs.declared.kind.LiveKind.TheVariants as live
use Rattle.pl_slot.specs.declared.kind.SlotKind.TheVariants as kinds
use Rattle.pl_slot.specs.declared.links.Rail.TheVariants.{Live, OriginPages}
use Rattle.pl_slot.specs.declared.row.SlotRow.{SlotRow}

abbrev row : (g : Over) → In_ok-slot g → SlotRow
row g c = new_place c.args.page c.args.origin c.args.url.slot c.args.url.length

takes : (g : Over) (c : In_ok-slot g) → Takes c.in_ok-slot.slot (row g c) c.args.arena.now c.take.new.self
takes g c =
    subst (λ r. Takes c.in_ok-slot.slot r c.args.arena.now c.take.new.self) c.new_place.ensures
    (record {
      taken = c.in_ok-slot.ensures.taken;
      fields = c.take.ensures.header;
      pages = c.in_ok-slot.ensures.pages;
      longer = c.take.ensures.longer;
    })

pub append-requires-clause-listed : goal.append-requires-clause-listed
append-requires-clause-listed g c =
    let at = c.before.before in
    let chains = c.requires.chained in (
      chains.0 Live (Header live.Place),
      (taken_chain c.in_ok-slot.slot (row g at) c.args.arena.now c.take.new.self (takes g at) refl chains.0
          chains.1).lists Live (Header live.Place) refl,
    )

pub append-requires-clause-member : goal.append-requires-clause-member
append-requires-clause-member g c =
    let at = c.before.before in
    ap (λ k. is_kind k (Some kinds.Place))
    (taken_kind c.in_ok-slot.slot (row g at) c.args.arena.now c.take.new.self (takes g at) kinds.Place refl)

pub append-requires-clause-free : goal.append-requires-clause-free
append-requires-clause-free g c =
    let at = c.before.before in
    let chains = c.requires.chained in
    loose_everywhere chains.0 c.take.new.self
    (taken_chain c.in_ok-slot.slot (row g at) c.args.arena.now c.take.new.self (takes g at) refl chains.0 chains.1) Live
    c.in_ok-slot.slot
    (taken_loose c.in_ok-slot.slot (row g at) c.args.arena.now c.take.new.self (takes g at) chains.0 chains.1 Live)

pub append-requires-2-clause-listed : goal.append-requires-2-clause-listed
append-requires-2-clause-listed g c =
    let at = c.before.before.before.before.before in
    let chains = c.requires.chained in (
      chains.0 OriginPages (At c.args.origin),
      (place_live (row g at) c.args.origin c.in_ok-slot.slot c.args.arena.now c.take.new.self c.append.new.arena
          (takes g at) refl c.append.ensures chains.0 chains.1).lists OriginPages (At c.args.origin)
          (origin_there (row g at) c.args.origin c.in_ok-slot.slot c.args.arena.now c.take.new.self c.append.new.arena
          (takes g at) refl c.append.ensures c.requires.origin),
    )

pub append-requires-2-clause-member : goal.append-requires-2-clause-member
append-requires-2-clause-member g c =
    let at = c.before.before.before.before.before in
    ap (λ k. is_kind k (Some kinds.Place))
    (c.append.ensures.rest.kinds c.in_ok-slot.slot.0
    ∙ taken_kind c.in_ok-slot.slot (row g at) c.args.arena.now c.take.new.self (takes g at) kinds.Place refl)

pub append-requires-2-clause-free : goal.append-requires-2-clause-free
append-requires-2-clause-free g c =
    let at = c.before.before.before.before.before in
    let chains = c.requires.chained in
    loose_everywhere
    (with_place (row g at) c.args.origin c.in_ok-slot.slot c.args.arena.now c.take.new.self c.append.new.arena
    (takes g at) refl c.append.ensures chains.0)
    c.append.new.arena
    (place_live (row g at) c.args.origin c.in_ok-slot.slot c.args.arena.now c.take.new.self c.append.new.arena
    (takes g at) refl c.append.ensures chains.0 chains.1)
    OriginPages c.in_ok-slot.slot
    (place_loose (row g at) c.args.origin c.in_ok-slot.slot c.args.arena.now c.take.new.self c.append.new.arena
    (takes g at) refl c.append.ensures chains.0 chains.1)

pub returns-clause-taken : goal.returns-clause-taken
returns-clause-taken g c =
    let at = c.before.before.before.before.before.before in
    let chains = c.requires.chained in
    takes_place (row g at) c.args.origin c.in_ok-slot.slot c.args.arena.now c.take.new.self c.append.new.arena
    (takes g at) refl c.append.ensures c.requires.origin c.append-2.new.arena c.append-2.ensures chains.0 chains.1
