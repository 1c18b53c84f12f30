-- A walk over the children of a folder for the first one that passes a test.
use Rattle.std.proofs.Common.{◌≡◌, ◌∙◌, ◌++◌, ◌==◌, Bool, true, false, List, [], ◌∷◌, Option, Some, None, ap, find}
use Rattle.std.proofs.Common.{length, refl, sym, ◌<◌}
use Rattle.std.specs.List.{filter_map}
use Rattle.std.specs.Option.{option_map, option_or}
use Rattle.std.proofs.lemmas.List.Elements.{filter_map-append}
use Rattle.std.proofs.lemmas.List.Folds.{find-append}
use Rattle.pl_base.specs.declared.id.ItemId.{ItemId}
use Rattle.pl_base.specs.Good.{IsTree}
use Rattle.pl_base.specs.Store.{Item}
use Rattle.pl_base.specs.Tree.{child_items, children_of, has_item, item_at, sibling_behind}
use Rattle.pl_base.proofs.LookUps.{found_passes}
use Rattle.pl_base.proofs.ItemLookUps.{same_item}
use Rattle.pl_base.proofs.ChildrenRun.{child_goes_on, child_here, child_names, children_run}
use Rattle.pl_base.proofs.Walk.{StandsAt, Walk, ends, holds_here, left, nears, no_more, stands}
use Rattle.pl_tree.proofs.CountedChildren.{children_known}

module _ (items : List Item) (test : Item → Bool) where
  -- none of the items by these ids passes
  abbrev pub NonePasses : List ItemId → Type 0
  NonePasses front = find test (filter_map (item_at items) front) ≡ None

  apart : (front rest : List ItemId) → NonePasses front
      → find test (filter_map (item_at items) (front ++ rest)) ≡ find test (filter_map (item_at items) rest)
  apart front rest none =
      ap (find test) (filter_map-append (item_at items) front rest)
      ∙ find-append test (filter_map (item_at items) front) (filter_map (item_at items) rest)
      ∙ ap (λ (o : Option Item). option_or o (find test (filter_map (item_at items) rest))) none

  pub none_more : (front : List ItemId) (id : ItemId) → Some false ≡ option_map test (item_at items id)
      → NonePasses front → NonePasses (front ++ id ∷ [])
  none_more front id fails none = apart front (id ∷ []) none ∙ choose (item_at items id) refl fails
    where
      choose : (o : Option Item) → item_at items id ≡ o → Some false ≡ option_map test o
          → find test (filter_map (item_at items) (id ∷ [])) ≡ None
      choose None at fails = absurd (cc)
      choose (Some i) at fails =
          let not_it : test i ≡ false = cc in
          rw (at, not_it) refl

  first_passes : (front : List ItemId) (id : ItemId) (rest : List ItemId)
      → Some true ≡ option_map test (item_at items id) → NonePasses front
      → Some id ≡ option_map (λ (i : Item). i.id) (find test (filter_map (item_at items) (front ++ id ∷ rest)))
  first_passes front id rest passes none =
      choose (item_at items id) refl passes
      ∙ ap (option_map (λ (i : Item). i.id)) (sym (apart front (id ∷ rest) none))
    where
      choose : (o : Option Item) → item_at items id ≡ o → Some true ≡ option_map test o
          → Some id ≡ option_map (λ (i : Item). i.id) (find test (filter_map (item_at items) (id ∷ rest)))
      choose None at passes = absurd (cc)
      choose (Some i) at passes =
          let it : test i ≡ true = cc in
          let same : i.id ≡ id = same_item i.id id (found_passes (λ (j : Item). j.id.0 == id.0) items i at) in
          rw (at, it) (ap (λ (c : ItemId). Some c) (sym same))

  -- a child that the walk stands at is an item
  pub walked_there : (parent : ItemId) (next : Option ItemId) (id : ItemId) → IsTree items
      → Walk child_names (children_of items parent) NonePasses next → next ≡ Some id → has_item items id ≡ true
  walked_there parent next id tree walk at =
      let w : StandsAt child_names (children_of items parent) NonePasses id =
      stands child_names (children_of items parent) NonePasses next id walk at in
      ap (has_item items) (sym w.is)
      ∙ holds_here child_names (children_of items parent) NonePasses (λ (c : ItemId). has_item items c ≡ true) id
      (children_known items parent tree) w

  pub walked_on : (parent : ItemId) (next : Option ItemId) (id : ItemId) (then : Option ItemId) → IsTree items
      → Walk child_names (children_of items parent) NonePasses next → next ≡ Some id → then ≡ sibling_behind items id
      → Some false ≡ option_map test (item_at items id) → Walk child_names (children_of items parent) NonePasses then
  walked_on parent next id then tree walk at is fails =
      let w : StandsAt child_names (children_of items parent) NonePasses id =
      stands child_names (children_of items parent) NonePasses next id walk at in
      child_goes_on items parent NonePasses id w NonePasses then tree is (none_more w.front id fails w.so_far)

  pub walked_near : (parent : ItemId) (next : Option ItemId) (id : ItemId) (then : Option ItemId) → IsTree items
      → Walk child_names (children_of items parent) NonePasses next → next ≡ Some id → then ≡ sibling_behind items id
      → left (sibling_behind items) (length (children_of items parent)) then
      < left (sibling_behind items) (length (children_of items parent)) next
  walked_near parent next id then tree walk at is =
      nears child_names (sibling_behind items) (children_of items parent) NonePasses next then id
      (children_run items parent tree) (stands child_names (children_of items parent) NonePasses next id walk at) at is

  pub found_here : (parent : ItemId) (next : Option ItemId) (id : ItemId)
      → Walk child_names (children_of items parent) NonePasses next → next ≡ Some id
      → Some true ≡ option_map test (item_at items id)
      → Some id ≡ option_map (λ (i : Item). i.id) (find test (child_items items parent))
  found_here parent next id walk at passes =
      let w : StandsAt child_names (children_of items parent) NonePasses id =
      stands child_names (children_of items parent) NonePasses next id walk at in
      first_passes w.front id w.rest passes w.so_far
      ∙ ap (λ (ids : List ItemId). option_map (λ (i : Item). i.id) (find test (filter_map (item_at items) ids)))
      (sym (child_here items parent NonePasses id w))

  pub found_none : (parent : ItemId) (next : Option ItemId) → Walk child_names (children_of items parent) NonePasses next
      → next ≡ None → None ≡ option_map (λ (i : Item). i.id) (find test (child_items items parent))
  found_none parent next w end =
      ap (option_map (λ (i : Item). i.id))
      (sym (ends child_names (children_of items parent) NonePasses next w (no_more next end)))
