use Rattle.std.proofs.Common.{Some, ap, refl, subst}
use Rattle.pl_record.specs.Rows.{visit_row}
use Rattle.pl_record.proofs.ChainMaps.{loose_everywhere}
use Rattle.pl_record.proofs.SlotSteps.{Takes, taken_chain, taken_kind, taken_loose}
use Rattle.pl_record.proofs.TargetPut.{Inserts}
use Rattle.pl_record.proofs.VisitTaken.{last_chains, last_loose, own_kind, page_chains, page_lists, still_own}
use Rattle.pl_record.proofs.VisitTaken.{still_source, takes_visit, target_apart, target_loose, visit_place}
use Rattle.pl_record.proofs.VisitTaken.{with_last_visit, with_page_visit}
use Rattle.pl_record.proofs.visit_slots.taking.take_visit.Given.{Over}
use Rattle.pl_record.proofs.visit_slots.taking.take_visit.Goals as goal
use Rattle.pl_record.proofs.visit_slots.taking.take_visit.Goals.{After-insert_after, In_ok-slot}
use Rattle.pl_rail.specs.declared.owner.Owner.TheVariants.{At, Header}
use Rattle.pl_rail.specs.Rails.{is_kind}
use Rattle.pl_slot.specs.declared.kind.LiveKind.TheVariants as live
use Rattle.pl_slot.specs.declared.kind.SlotKind.TheVariants as kinds
use Rattle.pl_slot.specs.declared.links.Rail.TheVariants.{Live, PageVisits}

takes : (g : Over) (c : In_ok-slot g)
    → Takes c.in_ok-slot.slot (visit_row c.args.visit) c.args.arena.now c.take.new.self
takes g c =
    subst (λ r. Takes c.in_ok-slot.slot r c.args.arena.now c.take.new.self) c.new_visit.ensures
    (record {
      taken = c.in_ok-slot.ensures.taken;
      fields = c.take.ensures.header;
      pages = c.in_ok-slot.ensures.pages;
      longer = c.take.ensures.longer;
    })

inserts : (g : Over) (c : After-insert_after g)
    → Inserts PageVisits (At c.args.visit.page) c.last_later-after.result c.in_ok-slot.slot c.append.new.arena
    c.insert_after.new.arena
inserts g c =
    record {
      list = c.insert_after.ensures.list;
      owners = c.insert_after.ensures.owners;
      others = c.insert_after.ensures.others;
      rest = c.insert_after.ensures.rest;
      beside = c.insert_after.ensures.beside;
      pages = c.insert_after.ensures.pages;
    }

abbrev inserted : (g : Over) → After-insert_after g → In_ok-slot g
inserted g c = c.before.before.before.before.before.before.before.before.before.before.before

pub append-requires-clause-listed : goal.append-requires-clause-listed
append-requires-clause-listed g c =
    let at = c.before.before in
    let chains = c.requires.chained in (
      chains.0 Live (Header live.Visit),
      (taken_chain c.in_ok-slot.slot (visit_row c.args.visit) c.args.arena.now c.take.new.self (takes g at) refl
          chains.0 chains.1).lists Live (Header live.Visit) refl,
    )

pub append-requires-clause-member : goal.append-requires-clause-member
append-requires-clause-member g c =
    ap (λ k. is_kind k (Some kinds.Visit))
    (taken_kind c.in_ok-slot.slot (visit_row c.args.visit) c.args.arena.now c.take.new.self (takes g c.before.before)
    kinds.Visit refl)

pub append-requires-clause-free : goal.append-requires-clause-free
append-requires-clause-free g c =
    let at = c.before.before in
    let chains = c.requires.chained in
    loose_everywhere chains.0 c.take.new.self
    (taken_chain c.in_ok-slot.slot (visit_row c.args.visit) c.args.arena.now c.take.new.self (takes g at) refl chains.0
    chains.1) Live c.in_ok-slot.slot
    (taken_loose c.in_ok-slot.slot (visit_row c.args.visit) c.args.arena.now c.take.new.self (takes g at) chains.0
    chains.1 Live)

pub last_later-after-requires : goal.last_later-after-requires
last_later-after-requires g c =
    let at = c.before.before.before.before.before.before in
    let chains = c.requires.chained in
    record {
      listed = (
        chains.0 PageVisits (At c.args.visit.page),
        page_lists c.args.visit c.in_ok-slot.slot c.args.arena.now c.take.new.self c.append.new.arena (takes g at)
            c.append.ensures c.requires.page chains.0 chains.1,
      );
    }

pub insert_after-requires-clause-place : goal.insert_after-requires-clause-place
insert_after-requires-clause-place g c =
    let at = c.before.before.before.before.before.before.before.before.before.before in
    let chains = c.requires.chained in
    visit_place c.args.visit c.in_ok-slot.slot c.args.arena.now c.take.new.self c.append.new.arena (takes g at)
    c.append.ensures c.requires.page c.last_later-after.result c.last_later-after.ensures.place chains.0 chains.1

pub insert_after-requires-clause-member : goal.insert_after-requires-clause-member
insert_after-requires-clause-member g c =
    let at = c.before.before.before.before.before.before.before.before.before.before in
    ap (λ k. is_kind k (Some kinds.Visit))
    (own_kind c.args.visit c.in_ok-slot.slot c.args.arena.now c.take.new.self c.append.new.arena (takes g at)
    c.append.ensures)

pub insert_after-requires-clause-free : goal.insert_after-requires-clause-free
insert_after-requires-clause-free g c =
    let at = c.before.before.before.before.before.before.before.before.before.before in
    let chains = c.requires.chained in
    loose_everywhere (with_last_visit c.in_ok-slot.slot chains.0) c.append.new.arena
    (last_chains c.args.visit c.in_ok-slot.slot c.args.arena.now c.take.new.self c.append.new.arena (takes g at)
    c.append.ensures chains.0 chains.1) PageVisits c.in_ok-slot.slot
    (last_loose c.args.visit c.in_ok-slot.slot c.args.arena.now c.take.new.self c.append.new.arena (takes g at)
    c.append.ensures PageVisits refl chains.0 chains.1)

pub put_target-requires-clause-source : goal.put_target-requires-clause-source
put_target-requires-clause-source g c =
    let here = c.before.before in
    still_source c.args.visit c.in_ok-slot.slot c.args.arena.now c.take.new.self c.append.new.arena
    (takes g (inserted g here)) c.append.ensures c.requires.page c.last_later-after.result
    c.last_later-after.ensures.place c.insert_after.new.arena (inserts g here) c.requires.source

pub put_target-requires-clause-member : goal.put_target-requires-clause-member
put_target-requires-clause-member g c =
    let here = c.before.before in
    still_own c.args.visit c.in_ok-slot.slot c.args.arena.now c.take.new.self c.append.new.arena
    (takes g (inserted g here)) c.append.ensures c.requires.page c.last_later-after.result
    c.last_later-after.ensures.place c.insert_after.new.arena (inserts g here)

pub put_target-requires-clause-chained : goal.put_target-requires-clause-chained
put_target-requires-clause-chained g c =
    let here = c.before.before in
    let chains = c.requires.chained in (
      with_page_visit c.args.arena.now c.args.visit c.in_ok-slot.slot chains.0,
      page_chains c.args.visit c.in_ok-slot.slot c.args.arena.now c.take.new.self c.append.new.arena
          (takes g (inserted g here)) c.append.ensures c.requires.page c.last_later-after.result
          c.last_later-after.ensures.place c.insert_after.new.arena (inserts g here) chains.0 chains.1 chains.2,
      target_apart c.args.visit c.in_ok-slot.slot c.args.arena.now c.take.new.self c.append.new.arena
          (takes g (inserted g here)) c.append.ensures c.requires.page c.last_later-after.result
          c.last_later-after.ensures.place c.insert_after.new.arena (inserts g here) chains.0 chains.3,
      target_loose c.args.visit c.in_ok-slot.slot c.args.arena.now c.take.new.self c.append.new.arena
          (takes g (inserted g here)) c.append.ensures c.requires.page c.last_later-after.result
          c.last_later-after.ensures.place c.insert_after.new.arena (inserts g here) chains.0 chains.1,
    )

pub returns-clause-taken : goal.returns-clause-taken
returns-clause-taken g c =
    let here = c.before.before.before in
    let chains = c.requires.chained in
    takes_visit c.args.visit c.in_ok-slot.slot c.args.arena.now c.take.new.self c.append.new.arena
    (takes g (inserted g here)) c.append.ensures c.requires.page c.last_later-after.result
    c.last_later-after.ensures.place c.insert_after.new.arena (inserts g here) c.put_target.new.arena
    c.put_target.ensures.put chains.0 chains.1 chains.2
