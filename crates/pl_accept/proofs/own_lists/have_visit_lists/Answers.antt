use Rattle.std.proofs.Common.{◌≡◌, ◌∙◌, ◌≤◌, List, Some, refl, subst, sym}
use Rattle.std.proofs.lemmas.List.Elements.{recursion_from_All}
use Rattle.std.proofs.lemmas.Result.{IfOk-weaker}
use Rattle.std.specs.List.{All}
use Rattle.pl_accept.proofs.OwnLinks.{pages_below}
use Rattle.pl_base.specs.declared.id.Slot.{Slot}
use Rattle.pl_load.proofs.RowLinks.{each_linked}
use Rattle.pl_owned.specs.declared.owned.Member.{Member}
use Rattle.pl_owned.specs.Owned.{owned_by}
use Rattle.pl_rail.specs.declared.owner.Owner.TheVariants.{At}
use Rattle.pl_rail.specs.Rails.{Lists}
use Rattle.pl_slot.specs.declared.kind.SlotKind.TheVariants as kinds
use Rattle.pl_slot.specs.declared.links.Link.TheVariants.{First}
use Rattle.pl_slot.specs.declared.links.Rail.TheVariants.{PageVisits}
use Rattle.pl_slot.specs.Arena.{slot_count}
use Rattle.pl_slot.specs.Links.{kind_at}
use Rattle.pl_accept.proofs.own_lists.have_visit_lists.Goals as goal

pub are_listed-requires-clause-owners : goal.are_listed-requires-clause-owners
are_listed-requires-clause-owners g c =
    each_linked c.args.arena.now PageVisits First kinds.Place 28 refl c.args.owners.now
    (recursion_from_All (λ (s : Slot). kind_at s.0 c.args.arena.now ≡ Some kinds.Place) c.args.owners.now
    c.requires.kinds)

pub are_listed-requires-clause-members : goal.are_listed-requires-clause-members
are_listed-requires-clause-members g c =
    subst (All (λ (m : Member). m.owner.0 ≤ slot_count c.args.arena.now))
    (sym (c.deref.ensures.value ∙ c.in_ok-members.ensures))
    (pages_below (slot_count c.args.arena.now) c.args.slots.now c.args.visits.now c.requires.below)

pub returns-clause-yes : goal.returns-clause-yes
returns-clause-yes g c =
    IfOk-weaker c.are_listed.result _ _
    (λ yes told is.
    subst (λ (ms : List Member).
    All (λ (s : Slot). Lists PageVisits (At s) (owned_by ms s) c.args.arena.now) c.args.owners.now)
    (c.deref.ensures.value ∙ c.in_ok-members.ensures) (told is))
    c.are_listed.ensures.yes

pub returns-clause-no : goal.returns-clause-no
returns-clause-no g c =
    IfOk-weaker c.are_listed.result _ _
    (λ yes told is lists.
    told is
    (subst (λ (ms : List Member).
    All (λ (s : Slot). Lists PageVisits (At s) (owned_by ms s) c.args.arena.now) c.args.owners.now)
    (sym (c.deref.ensures.value ∙ c.in_ok-members.ensures)) lists))
    c.are_listed.ensures.no
