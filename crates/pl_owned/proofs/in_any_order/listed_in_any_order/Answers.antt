use Rattle.std.proofs.Common.{◌≡◌, ◌∙◌, ◌+◌, ◌∷◌, [], ap, arith, get_or, map, subst, sym, take}
use Rattle.std.specs.List.{AllZip}
use Rattle.std.specs.List.Sorted.{IsPermutation}
use Rattle.std.specs.Vec.{vec_items}
use Rattle.std.proofs.lemmas.List.{map-append}
use Rattle.pl_base.specs.declared.id.Slot.{Slot}
use Rattle.pl_owned.specs.Owned.{IsListed, owned_by}
use Rattle.pl_owned.proofs.OwnersTold.{at_itself, list_is, list_there, reads_more, reads_past, zip_here, zip_more}
use Rattle.pl_rail.specs.Rails.{none}
use Rattle.pl_slot.specs.Arena.{live_count}
use Rattle.pl_owned.proofs.in_any_order.listed_in_any_order.Goals as goal

pub list-requires : goal.list-requires
list-requires g c =
    list_there c.args.rail (get_or c.args.owners.now c.loop-owner.owner-index none) c.args.arena.now
    c.args.members.now c.slot_count.result c.in_ok-owned.owned
    (c.requires.owners c.loop-owner.owner-index none (omega arith)) c.slot_count.ensures.count c.in_ok-owned.ensures

pub returns-in-None-clause-none : goal.returns-in-None-clause-none
returns-in-None-clause-none g c is lists zip =
    let owner : Slot = get_or c.args.owners.now c.loop-owner.owner-index none in
    let wanted_is : c.list.result.now ≡ owned_by c.args.members.now owner =
    list_is c.args.rail owner c.args.arena.now c.args.members.now c.slot_count.result c.in_ok-owned.owned
    (c.requires.owners c.loop-owner.owner-index none (omega arith)) c.slot_count.ensures.count c.in_ok-owned.ensures
    c.list.result.now c.list.ensures in
    let here =
    zip_here (IsListed c.args.rail c.args.members.now c.args.arena.now) c.args.owners.now lists c.loop-owner.owner-index
    owner zip (omega arith) (at_itself c.args.owners.now c.loop-owner.owner-index none (omega arith)) in
    c.in_ok-slots.ensures.none c.in-None.is here.other here.so.lists
    (subst (IsPermutation here.other) (sym wanted_is) here.so.same)

pub loop-owner-preserved : goal.loop-owner-preserved
loop-owner-preserved g c =
    let owner : Slot = get_or c.args.owners.now c.loop-owner.owner-index none in
    let wanted_is : c.list.result.now ≡ owned_by c.args.members.now owner =
    list_is c.args.rail owner c.args.arena.now c.args.members.now c.slot_count.result c.in_ok-owned.owned
    (c.requires.owners c.loop-owner.owner-index none (omega arith)) c.slot_count.ensures.count c.in_ok-owned.ensures
    c.list.result.now c.list.ensures in
    let here : IsListed c.args.rail c.args.members.now c.args.arena.now owner c.in-Some.slots.items = record {
      lists = rw c.in-Some.is at c.in_ok-slots.ensures.lists;
      same =
          subst (IsPermutation c.in-Some.slots.items) wanted_is (rw c.in-Some.is at c.in_ok-slots.ensures.same);
    } in
    record {
      lists = subst
          (AllZip (IsListed c.args.rail c.args.members.now c.args.arena.now)
          (take (c.loop-owner.owner-index + 1) c.args.owners.now))
          (sym (ap (map vec_items) c.in_ok-push-in-Some.ensures.items
          ∙ map-append vec_items c.loop-owner.lists.items (c.in-Some.slots ∷ [])))
          (zip_more (IsListed c.args.rail c.args.members.now c.args.arena.now) c.args.owners.now
          (map vec_items c.loop-owner.lists.items) c.loop-owner.owner-index owner c.in-Some.slots.items (omega arith)
          (at_itself c.args.owners.now c.loop-owner.owner-index none (omega arith)) c.loop-owner.invariant.lists here);
      few =
          reads_more c.args.members.now c.args.owners.now c.loop-owner.owner-index (omega arith) c.args.steps.now
          c.loop-owner.steps c.loop-owner.invariant.few none c.list.result.now c.listed_as.new.steps wanted_is
          (rw c.in-Some.is at c.in_ok-slots.ensures.counted);
    }

pub returns-in-None-clause-few : goal.returns-in-None-clause-few
returns-in-None-clause-few g c =
    reads_past c.args.members.now c.args.owners.now c.loop-owner.owner-index (omega arith) c.args.steps.now
    c.loop-owner.steps c.loop-owner.invariant.few (live_count c.args.arena.now) c.listed_as.new.steps
    c.in_ok-slots.ensures.few
