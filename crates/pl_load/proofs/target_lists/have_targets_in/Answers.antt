use Rattle.std.proofs.Common.{◌≡◌, ◌∙◌, ◌≤◌, List, Some, map, subst, sym}
use Rattle.std.proofs.lemmas.List.Elements.{All-map}
use Rattle.std.specs.List.{All}
use Rattle.std.specs.Vec.{vec_items}
use Rattle.pl_base.specs.declared.id.Slot.{Slot}
use Rattle.pl_base.proofs.ListLaws.{All-from_map}
use Rattle.pl_load.proofs.TargetLinks.{lists_are, lists_found, one_lists, owners_there, sources_below}
use Rattle.pl_owned.specs.declared.owned.Member.{Member}
use Rattle.pl_owned.specs.Redirects.{HasRedirectsFirst}
use Rattle.pl_slot.specs.declared.kind.SlotKind.TheVariants as kinds
use Rattle.pl_slot.specs.Arena.{slot_count}
use Rattle.pl_slot.specs.Links.{kind_at}
use Rattle.pl_load.proofs.target_lists.have_targets_in.Goals as goal

pub listed_in_any_order-requires-clause-owners : goal.listed_in_any_order-requires-clause-owners
listed_in_any_order-requires-clause-owners g c =
    owners_there c.args.arena.now c.args.slots.now c.args.visits.now c.requires.kinds

pub listed_in_any_order-requires-clause-members : goal.listed_in_any_order-requires-clause-members
listed_in_any_order-requires-clause-members g c =
    subst (All (λ (m : Member). m.owner.0 ≤ slot_count c.args.arena.now))
    (sym (c.deref.ensures.value ∙ c.in_ok-members.ensures))
    (sources_below c.args.arena.now c.args.slots.now c.args.visits.now c.requires.below)

pub all_redirects_first-requires : goal.all_redirects_first-requires
all_redirects_first-requires g c =
    let pages = c.args.arena.now in
    let found = rw c.in-Some.is at c.in_ok-found.ensures.found in
    let listed =
    lists_found pages c.args.slots.now c.args.visits.now c.deref.result.now (map vec_items c.in-Some.lists.items)
    (c.deref.ensures.value ∙ c.in_ok-members.ensures) found in
    rw c.deref-2.ensures.value
    (All-from_map (All (λ (s : Slot). kind_at s.0 pages ≡ Some kinds.Visit)) vec_items c.in-Some.lists.items
    (lists_are pages c.args.slots.now c.args.visits.now (map vec_items c.in-Some.lists.items) listed))

pub returns-clause-yes : goal.returns-clause-yes
returns-clause-yes g c is =
    let pages = c.args.arena.now in
    let found = rw c.in-Some.is at c.in_ok-found.ensures.found in
    let first = rw c.deref-2.ensures.value at c.all_redirects_first.ensures.yes is in
    record {
      slots = map vec_items c.in-Some.lists.items;
      listed =
          lists_found pages c.args.slots.now c.args.visits.now c.deref.result.now
          (map vec_items c.in-Some.lists.items) (c.deref.ensures.value ∙ c.in_ok-members.ensures) found;
      first = All-map (λ (l : List Slot). HasRedirectsFirst l pages) vec_items c.in-Some.lists.items first;
    }

pub returns-clause-no : goal.returns-clause-no
returns-clause-no g c is has =
    let pages = c.args.arena.now in
    let found = rw c.in-Some.is at c.in_ok-found.ensures.found in
    let listed =
    lists_found pages c.args.slots.now c.args.visits.now c.deref.result.now (map vec_items c.in-Some.lists.items)
    (c.deref.ensures.value ∙ c.in_ok-members.ensures) found in
    c.all_redirects_first.ensures.no is
    (rw c.deref-2.ensures.value
    (All-from_map (λ (l : List Slot). HasRedirectsFirst l pages) vec_items c.in-Some.lists.items
    (subst (All (λ (l : List Slot). HasRedirectsFirst l pages))
    (one_lists pages c.args.slots.now c.args.visits.now has.slots (map vec_items c.in-Some.lists.items)
    has.listed listed)
    has.first)))
