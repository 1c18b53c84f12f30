use Rattle.std.proofs.Common.{◌≡◌, arith, get_or, subst, sym}
use Rattle.std.specs.List.{All}
use Rattle.std.proofs.lemmas.List.{take_all}
use Rattle.std.proofs.lemmas.List.Elements.{All-more}
use Rattle.pl_base.specs.declared.id.Slot.{Slot}
use Rattle.pl_owned.specs.Owned.{owned_by}
use Rattle.pl_owned.proofs.OwnersTold.{list_is, list_there, reads_more, reads_past}
use Rattle.pl_rail.specs.declared.owner.Owner.TheVariants.{At}
use Rattle.pl_rail.specs.Rails.{Lists, none}
use Rattle.pl_slot.specs.Arena.{live_count}
use Rattle.pl_owned.proofs.in_order.are_listed.Goals as goal

pub list-requires : goal.list-requires
list-requires g c =
    list_there c.args.rail (get_or c.args.owners.now c.loop-owner.owner-index none) c.args.arena.now
    c.args.members.now c.slot_count.result c.in_ok-owned.owned
    (c.requires.owners c.loop-owner.owner-index none (omega arith)) c.slot_count.ensures.count c.in_ok-owned.ensures

pub returns-then-not-branch-clause-no : goal.returns-then-not-branch-clause-no
returns-then-not-branch-clause-no g c is all =
    let owner : Slot = get_or c.args.owners.now c.loop-owner.owner-index none in
    let wanted_is : c.list.result.now ≡ owned_by c.args.members.now owner =
    list_is c.args.rail owner c.args.arena.now c.args.members.now c.slot_count.result c.in_ok-owned.owned
    (c.requires.owners c.loop-owner.owner-index none (omega arith)) c.slot_count.ensures.count c.in_ok-owned.ensures
    c.list.result.now c.list.ensures in
    c.in_ok-is_listed.ensures.no c.if-not-branch.true
    (subst (λ l. Lists c.args.rail (At owner) l c.args.arena.now) (sym wanted_is)
    (all c.loop-owner.owner-index none (omega arith)))

pub loop-owner-preserved : goal.loop-owner-preserved
loop-owner-preserved g c =
    let owner : Slot = get_or c.args.owners.now c.loop-owner.owner-index none in
    let wanted_is : c.list.result.now ≡ owned_by c.args.members.now owner =
    list_is c.args.rail owner c.args.arena.now c.args.members.now c.slot_count.result c.in_ok-owned.owned
    (c.requires.owners c.loop-owner.owner-index none (omega arith)) c.slot_count.ensures.count c.in_ok-owned.ensures
    c.list.result.now c.list.ensures in
    record {
      lists =
          All-more (λ o. Lists c.args.rail (At o) (owned_by c.args.members.now o) c.args.arena.now) c.args.owners.now
          c.loop-owner.owner-index none (omega arith) c.loop-owner.invariant.lists
          (subst (λ l. Lists c.args.rail (At owner) l c.args.arena.now) wanted_is
          (c.in_ok-is_listed.ensures.yes c.if-not-branch.false));
      few =
          reads_more c.args.members.now c.args.owners.now c.loop-owner.owner-index (omega arith) c.args.steps.now
          c.loop-owner.steps c.loop-owner.invariant.few none c.list.result.now c.is_listed.new.steps wanted_is
          (c.in_ok-is_listed.ensures.counted c.if-not-branch.false);
    }

pub returns-clause-yes : goal.returns-clause-yes
returns-clause-yes g c is =
    subst (All (λ o. Lists c.args.rail (At o) (owned_by c.args.members.now o) c.args.arena.now))
    (take_all c.loop-owner.owner-index c.args.owners.now (omega arith)) c.loop-owner.invariant.lists

pub returns-then-not-branch-clause-few : goal.returns-then-not-branch-clause-few
returns-then-not-branch-clause-few g c =
    reads_past c.args.members.now c.args.owners.now c.loop-owner.owner-index (omega arith) c.args.steps.now
    c.loop-owner.steps c.loop-owner.invariant.few (live_count c.args.arena.now) c.is_listed.new.steps
    c.in_ok-is_listed.ensures.few
