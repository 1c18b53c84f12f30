-- What is found in a list of items where some change and keep their ids.
use Rattle.std.proofs.Common.{◌≡◌, ◌<◌, ◌++◌, ◌||◌, ◌==◌, ◌∙◌, Bool, true, false, List, [], ◌∷◌, Option, Some}
use Rattle.std.proofs.Common.{None, ap, refl, filter, if◌then◌else◌, map, subst, sym}
use Rattle.std.specs.List.{AllByRecursion}
use Rattle.std.specs.Option.{option_map}
use Rattle.std.proofs.lemmas.Bool.{both_ways, eqb-true}
use Rattle.pl_base.specs.declared.id.ItemId.{ItemId}
use Rattle.pl_base.specs.Good.{child_ids}
use Rattle.pl_base.specs.Store.{Item}
use Rattle.pl_base.specs.Tree.{has_item, item_at}
use Rattle.pl_base.proofs.ItemLaws.{bare}
use Rattle.pl_base.proofs.Among.{In}
use Rattle.pl_base.proofs.ItemLookUps.{same_item_number}
use Rattle.pl_base.proofs.KeyCounts.{Ascends}
use Rattle.pl_tree.proofs.LookedUp.{found_at, item_key}

-- an item, changed if it has the id
abbrev pub changed_at : ItemId → (Item → Item) → Item → Item
changed_at id change i = if i.id.0 == id.0 then change i else i

pub changed_id : (id : ItemId) (change : Item → Item) → ((i : Item) → (change i).id ≡ i.id) → (i : Item)
    → (changed_at id change i).id ≡ i.id
changed_id id change same i = choose (i.id.0 == id.0)
  where
    choose : (b : Bool) → (if b then change i else i).id ≡ i.id
    choose true = same i
    choose false = refl

pub changed_here : (id : ItemId) (change : Item → Item) (i : Item) → (i.id.0 == id.0) ≡ true
    → changed_at id change i ≡ change i
changed_here id change i is = ap (λ (b : Bool). if b then change i else i) is

pub changed_other : (id : ItemId) (change : Item → Item) (i : Item) → (i.id.0 == id.0) ≡ false
    → changed_at id change i ≡ i
changed_other id change i is = ap (λ (b : Bool). if b then change i else i) is

-- a change of items that keeps their ids
module _ (g : Item → Item) (same : (i : Item) → (g i).id ≡ i.id) where
  pub at_map : (items : List Item) (id : ItemId) → item_at (map g items) id ≡ option_map g (item_at items id)
  at_map [] id = refl
  at_map (i ∷ items) id =
      ap (λ (b : Bool). if b then Some (g i) else item_at (map g items) id)
      (ap (λ (c : ItemId). c.0 == id.0) (same i))
      ∙ choose (i.id.0 == id.0) (at_map items id)
    where
      choose : (b : Bool) → item_at (map g items) id ≡ option_map g (item_at items id)
          → (if b then Some (g i) else item_at (map g items) id)
          ≡ option_map g (if b then Some i else item_at items id)
      choose true rest = refl
      choose false rest = rest

  pub has_map : (items : List Item) (id : ItemId) → has_item (map g items) id ≡ has_item items id
  has_map [] id = refl
  has_map (i ∷ items) id =
      ap (λ (b : Bool). b || has_item (map g items) id) (ap (λ (c : ItemId). c.0 == id.0) (same i))
      ∙ ap (λ (b : Bool). (i.id.0 == id.0) || b) (has_map items id)

  -- an item that stays as it was is found as it was
  pub same_at : (items : List Item) (id : ItemId) → ((i : Item) → In i items → i.id ≡ id → g i ≡ i)
      → item_at (map g items) id ≡ item_at items id
  same_at items id stays = at_map items id ∙ choose (item_at items id) refl
    where
      choose : (o : Option Item) → item_at items id ≡ o → option_map g o ≡ o
      choose None is = refl
      choose (Some i) is =
          let r = found_at items id i is in
          ap (λ (j : Item). Some j) (stays i r.0 r.1)

  -- an item that stays but for its children
  pub bare_at : (items : List Item) (id : ItemId) → ((i : Item) → In i items → i.id ≡ id → bare (g i) ≡ bare i)
      → option_map bare (item_at (map g items) id) ≡ option_map bare (item_at items id)
  bare_at items id stays = ap (option_map bare) (at_map items id) ∙ choose (item_at items id) refl
    where
      choose : (o : Option Item) → item_at items id ≡ o → option_map bare (option_map g o) ≡ option_map bare o
      choose None is = refl
      choose (Some i) is =
          let r = found_at items id i is in
          ap (λ (j : Item). Some j) (stays i r.0 r.1)

  pub ascends_map : (items : List Item) → Ascends item_key items → Ascends item_key (map g items)
  ascends_map [] up = tt
  ascends_map (i ∷ items) up = (
    subst (λ (c : ItemId). AllByRecursion (λ (j : Item). c.0 < j.id.0) (map g items)) (sym (same i))
        (all_above items up.0),
    ascends_map items up.1,
  )
    where
      all_above : (js : List Item) → AllByRecursion (λ (j : Item). i.id.0 < j.id.0) js
          → AllByRecursion (λ (j : Item). i.id.0 < j.id.0) (map g js)
      all_above [] above = tt
      all_above (j ∷ js) above =
          (subst (λ (c : ItemId). i.id.0 < c.0) (sym (same j)) above.0, all_above js above.1)

-- where no children change
pub child_ids_map : (g : Item → Item) → ((i : Item) → (g i).children ≡ i.children) → (items : List Item)
    → child_ids (map g items) ≡ child_ids items
child_ids_map g same [] = refl
child_ids_map g same (i ∷ items) = rw (same i, child_ids_map g same items) refl

-- one more item at the end, with another id
pub at_push : (items : List Item) (new : Item) (id : ItemId) → (new.id.0 == id.0) ≡ false
    → item_at (items ++ new ∷ []) id ≡ item_at items id
at_push [] new id other = ap (λ (b : Bool). if b then Some new else None) other
at_push (i ∷ items) new id other =
    ap (λ (o : Option Item). if i.id.0 == id.0 then Some i else o) (at_push items new id other)

-- items of which some went, by a test of their ids
pub at_filter : (q : ItemId → Bool) (items : List Item) (id : ItemId) → q id ≡ true
    → item_at (filter (λ (i : Item). q i.id) items) id ≡ item_at items id
at_filter q [] id passes = refl
at_filter q (i ∷ items) id passes = choose (q i.id) (i.id.0 == id.0) refl refl (at_filter q items id passes)
  where
    choose : (b c : Bool) → q i.id ≡ b → (i.id.0 == id.0) ≡ c
        → item_at (filter (λ (j : Item). q j.id) items) id ≡ item_at items id
        → item_at (if b then i ∷ filter (λ (j : Item). q j.id) items else filter (λ (j : Item). q j.id) items) id
        ≡ (if c then Some i else item_at items id)
    choose true true is here rest = ap (λ (t : Bool). if t then Some i else
        item_at (filter (λ (j : Item). q j.id) items) id) here
    choose true false is here rest = ap (λ (t : Bool). if t then Some i else
        item_at (filter (λ (j : Item). q j.id) items) id) here ∙ rest
    choose false true is here rest =
        absurd (both_ways (q i.id) is (ap q (same_item_number i.id id (eqb-true i.id.0 id.0 here)) ∙ passes))
    choose false false is here rest = rest
