use Rattle.std.proofs.Common.{Some, ap, refl, subst}
use Rattle.pl_record.specs.Rows.{item_row}
use Rattle.pl_record.proofs.ChainMaps.{loose_everywhere}
use Rattle.pl_record.proofs.ItemTaken.{child_chains, item_place, last_chains, last_loose, own_kind, reference_apart}
use Rattle.pl_record.proofs.ItemTaken.{reference_loose, still_own, still_page, takes_item, with_child_item}
use Rattle.pl_record.proofs.ItemTaken.{with_last_item}
use Rattle.pl_record.proofs.SlotSteps.{Takes, taken_chain, taken_kind, taken_loose}
use Rattle.pl_record.proofs.TargetPut.{Inserts}
use Rattle.pl_record.proofs.item_slots.taking.take_item.Given.{Over}
use Rattle.pl_record.proofs.item_slots.taking.take_item.Goals as goal
use Rattle.pl_record.proofs.item_slots.taking.take_item.Goals.{After-insert_after, In_ok-slot}
use Rattle.pl_rail.specs.declared.owner.Owner.TheVariants.{At, Header}
use Rattle.pl_rail.specs.Rails.{is_kind}
use Rattle.pl_slot.specs.declared.kind.LiveKind.TheVariants as live
use Rattle.pl_slot.specs.declared.kind.SlotKind.TheVariants as kinds
use Rattle.pl_slot.specs.declared.links.Rail.TheVariants.{Children, Live}

takes : (g : Over) (c : In_ok-slot g) → Takes c.in_ok-slot.slot (item_row c.args.item) c.args.arena.now c.take.new.self
takes g c =
    subst (λ r. Takes c.in_ok-slot.slot r c.args.arena.now c.take.new.self) c.new_item.ensures
    (record {
      taken = c.in_ok-slot.ensures.taken;
      fields = c.take.ensures.header;
      pages = c.in_ok-slot.ensures.pages;
      longer = c.take.ensures.longer;
    })

inserts : (g : Over) (c : After-insert_after g)
    → Inserts Children (At c.args.item.parent) c.args.after c.in_ok-slot.slot c.append.new.arena
    c.insert_after.new.arena
inserts g c =
    record {
      list = c.insert_after.ensures.list;
      owners = c.insert_after.ensures.owners;
      others = c.insert_after.ensures.others;
      rest = c.insert_after.ensures.rest;
      beside = c.insert_after.ensures.beside;
      pages = c.insert_after.ensures.pages;
    }

abbrev inserted : (g : Over) → After-insert_after g → In_ok-slot g
inserted g c = c.before.before.before.before.before.before.before

pub append-requires-clause-listed : goal.append-requires-clause-listed
append-requires-clause-listed g c =
    let at = c.before.before in
    let chains = c.requires.chained in (
      chains.0 Live (Header live.Item),
      (taken_chain c.in_ok-slot.slot (item_row c.args.item) c.args.arena.now c.take.new.self (takes g at) refl
          chains.0 chains.1).lists Live (Header live.Item) refl,
    )

pub append-requires-clause-member : goal.append-requires-clause-member
append-requires-clause-member g c =
    ap (λ k. is_kind k (Some kinds.Item))
    (taken_kind c.in_ok-slot.slot (item_row c.args.item) c.args.arena.now c.take.new.self (takes g c.before.before)
    kinds.Item refl)

pub append-requires-clause-free : goal.append-requires-clause-free
append-requires-clause-free g c =
    let at = c.before.before in
    let chains = c.requires.chained in
    loose_everywhere chains.0 c.take.new.self
    (taken_chain c.in_ok-slot.slot (item_row c.args.item) c.args.arena.now c.take.new.self (takes g at) refl chains.0
    chains.1) Live c.in_ok-slot.slot
    (taken_loose c.in_ok-slot.slot (item_row c.args.item) c.args.arena.now c.take.new.self (takes g at) chains.0
    chains.1 Live)

pub insert_after-requires-clause-place : goal.insert_after-requires-clause-place
insert_after-requires-clause-place g c =
    let at = c.before.before.before.before.before.before in
    let chains = c.requires.chained in
    item_place c.args.item c.in_ok-slot.slot c.args.arena.now c.take.new.self c.append.new.arena (takes g at)
    c.append.ensures c.requires.parent c.args.after c.requires.after chains.0 chains.1

pub insert_after-requires-clause-member : goal.insert_after-requires-clause-member
insert_after-requires-clause-member g c =
    let at = c.before.before.before.before.before.before in
    ap (λ k. is_kind k (Some kinds.Item))
    (own_kind c.args.item c.in_ok-slot.slot c.args.arena.now c.take.new.self c.append.new.arena (takes g at)
    c.append.ensures)

pub insert_after-requires-clause-free : goal.insert_after-requires-clause-free
insert_after-requires-clause-free g c =
    let at = c.before.before.before.before.before.before in
    let chains = c.requires.chained in
    loose_everywhere (with_last_item c.in_ok-slot.slot chains.0) c.append.new.arena
    (last_chains c.args.item c.in_ok-slot.slot c.args.arena.now c.take.new.self c.append.new.arena (takes g at)
    c.append.ensures chains.0 chains.1) Children c.in_ok-slot.slot
    (last_loose c.args.item c.in_ok-slot.slot c.args.arena.now c.take.new.self c.append.new.arena (takes g at)
    c.append.ensures Children refl chains.0 chains.1)

pub put_reference-requires-clause-page : goal.put_reference-requires-clause-page
put_reference-requires-clause-page g c =
    let here = c.before.before in
    still_page c.args.item c.in_ok-slot.slot c.args.arena.now c.take.new.self c.append.new.arena
    (takes g (inserted g here)) c.append.ensures c.requires.parent c.args.after c.requires.after
    c.insert_after.new.arena (inserts g here) c.requires.page

pub put_reference-requires-clause-member : goal.put_reference-requires-clause-member
put_reference-requires-clause-member g c =
    let here = c.before.before in
    still_own c.args.item c.in_ok-slot.slot c.args.arena.now c.take.new.self c.append.new.arena
    (takes g (inserted g here)) c.append.ensures c.requires.parent c.args.after c.requires.after
    c.insert_after.new.arena (inserts g here)

pub put_reference-requires-clause-chained : goal.put_reference-requires-clause-chained
put_reference-requires-clause-chained g c =
    let here = c.before.before in
    let chains = c.requires.chained in (
      with_child_item c.args.item c.args.after c.in_ok-slot.slot chains.0,
      child_chains c.args.item c.in_ok-slot.slot c.args.arena.now c.take.new.self c.append.new.arena
          (takes g (inserted g here)) c.append.ensures c.requires.parent c.args.after c.requires.after
          c.insert_after.new.arena (inserts g here) chains.0 chains.1 chains.2,
      reference_apart c.args.item c.in_ok-slot.slot c.args.arena.now c.take.new.self c.append.new.arena
          (takes g (inserted g here)) c.append.ensures c.requires.parent c.args.after c.requires.after
          c.insert_after.new.arena (inserts g here) chains.0 chains.3,
      reference_loose c.args.item c.in_ok-slot.slot c.args.arena.now c.take.new.self c.append.new.arena
          (takes g (inserted g here)) c.append.ensures c.requires.parent c.args.after c.requires.after
          c.insert_after.new.arena (inserts g here) chains.0 chains.1,
    )

pub returns-clause-taken : goal.returns-clause-taken
returns-clause-taken g c =
    let here = c.before.before.before in
    let chains = c.requires.chained in
    takes_item c.args.item c.in_ok-slot.slot c.args.arena.now c.take.new.self c.append.new.arena
    (takes g (inserted g here)) c.append.ensures c.requires.parent c.args.after c.requires.after
    c.insert_after.new.arena (inserts g here) c.put_reference.new.arena c.put_reference.ensures.put chains.0 chains.1
    chains.2
