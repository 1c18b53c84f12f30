use Rattle.std.proofs.Common.{Some, ap, refl}
use Rattle.pl_record.specs.Rows.{origin_row}
use Rattle.pl_record.proofs.ChainMaps.{loose_everywhere}
use Rattle.pl_record.proofs.OriginSlots.{inserts_origin}
use Rattle.pl_record.proofs.SlotSteps.{Takes, taken_chain, taken_kind, taken_loose}
use Rattle.pl_record.proofs.page_slots.insert_origin.Given.{Over}
use Rattle.pl_record.proofs.page_slots.insert_origin.Goals as goal
use Rattle.pl_record.proofs.page_slots.insert_origin.Goals.{In_ok-slot}
use Rattle.pl_rail.specs.declared.owner.Owner.TheVariants.{Header}
use Rattle.pl_rail.specs.Rails.{is_kind}
use Rattle.pl_slot.specs.declared.kind.LiveKind.TheVariants as live
use Rattle.pl_slot.specs.declared.kind.SlotKind.TheVariants as kinds
use Rattle.pl_slot.specs.declared.links.Rail.TheVariants.{Live}

takes : (g : Over) (c : In_ok-slot g) → Takes c.in_ok-slot.slot (origin_row 0) c.args.arena.now c.take.new.self
takes g c =
    record {
      taken = c.in_ok-slot.ensures.taken;
      fields = c.take.ensures.header;
      pages = c.in_ok-slot.ensures.pages;
      longer = c.take.ensures.longer;
    }

pub append-requires-clause-listed : goal.append-requires-clause-listed
append-requires-clause-listed g c =
    let chains = c.requires.chained in (
      chains.0 Live (Header live.Origin),
      (taken_chain c.in_ok-slot.slot (origin_row 0) c.args.arena.now c.take.new.self (takes g c.before.before) refl
          chains.0 chains.1).lists Live (Header live.Origin) refl,
    )

pub append-requires-clause-member : goal.append-requires-clause-member
append-requires-clause-member g c =
    ap (λ k. is_kind k (Some kinds.Origin))
    (taken_kind c.in_ok-slot.slot (origin_row 0) c.args.arena.now c.take.new.self (takes g c.before.before) kinds.Origin
    refl)

pub append-requires-clause-free : goal.append-requires-clause-free
append-requires-clause-free g c =
    let chains = c.requires.chained in
    let taken = takes g c.before.before in
    loose_everywhere chains.0 c.take.new.self
    (taken_chain c.in_ok-slot.slot (origin_row 0) c.args.arena.now c.take.new.self taken refl chains.0 chains.1) Live
    c.in_ok-slot.slot
    (taken_loose c.in_ok-slot.slot (origin_row 0) c.args.arena.now c.take.new.self taken chains.0 chains.1 Live)

pub returns-clause-inserted : goal.returns-clause-inserted
returns-clause-inserted g c =
    let chains = c.requires.chained in
    inserts_origin c.in_ok-slot.slot c.args.arena.now c.take.new.self c.append.new.arena
    (takes g c.before.before.before) c.append.ensures chains.0 chains.1
