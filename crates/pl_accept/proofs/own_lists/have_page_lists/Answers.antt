use Rattle.std.proofs.Common.{◌≡◌, ◌∙◌, ◌≤◌, List, Some, refl, subst, sym, true}
use Rattle.std.proofs.lemmas.Bool.{true≢false}
use Rattle.std.proofs.lemmas.List.Elements.{recursion_from_All}
use Rattle.std.specs.List.{All, list_all}
use Rattle.pl_accept.specs.OwnLists.{names_first}
use Rattle.pl_accept.proofs.OwnLinks.{all_named, all_some, owners_below}
use Rattle.pl_base.specs.declared.id.Slot.{Slot}
use Rattle.pl_load.proofs.RowLinks.{each_linked}
use Rattle.pl_owned.specs.declared.owned.Member.{Member}
use Rattle.pl_owned.specs.Owned.{owned_by}
use Rattle.pl_rail.specs.declared.owner.Owner.TheVariants.{At}
use Rattle.pl_rail.specs.Rails.{Lists}
use Rattle.pl_record.specs.declared.rows.Place.{Place}
use Rattle.pl_slot.specs.declared.kind.SlotKind.TheVariants as kinds
use Rattle.pl_slot.specs.declared.links.Link.TheVariants.{First}
use Rattle.pl_slot.specs.declared.links.Rail.TheVariants.{OriginPages}
use Rattle.pl_slot.specs.Arena.{slot_count}
use Rattle.pl_slot.specs.Links.{kind_at}
use Rattle.pl_accept.proofs.own_lists.have_page_lists.Goals as goal

pub are_listed-requires-clause-owners : goal.are_listed-requires-clause-owners
are_listed-requires-clause-owners g c =
    each_linked c.args.arena.now OriginPages First kinds.Origin 12 refl c.args.origins.now
    (recursion_from_All (λ (o : Slot). kind_at o.0 c.args.arena.now ≡ Some kinds.Origin) c.args.origins.now
    c.requires.kinds)

pub are_listed-requires-clause-members : goal.are_listed-requires-clause-members
are_listed-requires-clause-members g c =
    subst (All (λ (m : Member). m.owner.0 ≤ slot_count c.args.arena.now))
    (sym (c.deref.ensures.value ∙ c.in_ok-members.ensures))
    (owners_below (slot_count c.args.arena.now) (λ (p : Place). p.origin) c.args.slots.now c.args.places.now
    c.requires.below)

pub have_pages-requires : goal.have_pages-requires
have_pages-requires g c =
    each_linked c.args.arena.now OriginPages First kinds.Origin 12 refl c.args.origins.now
    (recursion_from_All (λ (o : Slot). kind_at o.0 c.args.arena.now ≡ Some kinds.Origin) c.args.origins.now
    c.requires.kinds)

pub returns-then-not-listed-clause-no : goal.returns-then-not-listed-clause-no
returns-then-not-listed-clause-no g c is has =
    c.in_ok-listed.ensures.no c.if-not-listed.true
    (subst (λ (ms : List Member).
    All (λ (o : Slot). Lists OriginPages (At o) (owned_by ms o) c.args.arena.now) c.args.origins.now)
    (sym (c.deref.ensures.value ∙ c.in_ok-members.ensures)) has.lists)

pub returns-clause-yes : goal.returns-clause-yes
returns-clause-yes g c is =
    let named : list_all (names_first c.args.arena.now) c.args.origins.now ≡ true = sym c.have_pages.ensures ∙ is in
    let lists =
    subst (λ (ms : List Member).
    All (λ (o : Slot). Lists OriginPages (At o) (owned_by ms o) c.args.arena.now) c.args.origins.now)
    (c.deref.ensures.value ∙ c.in_ok-members.ensures) (c.in_ok-listed.ensures.yes c.if-not-listed.false) in
    record {
      lists = lists;
      some_page = all_some c.args.arena.now c.args.slots.now c.args.places.now c.args.origins.now lists named;
    }

pub returns-clause-no : goal.returns-clause-no
returns-clause-no g c is has =
    true≢false
    (sym (all_named c.args.arena.now c.args.slots.now c.args.places.now c.args.origins.now has)
    ∙ sym c.have_pages.ensures ∙ is)
