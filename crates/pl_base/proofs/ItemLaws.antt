-- What stays of items where some change: their ids and titles.
use Rattle.std.proofs.Common.{◌≡◌, ◌+◌, ◌==◌, ◌∙◌, ℕ, All, Bool, true, false, List, []}
use Rattle.std.proofs.Common.{◌∷◌, ◌++◌, Option, Some, None, ap, arith, filter, find, get_or}
use Rattle.std.proofs.Common.{◌<◌, if◌then◌else◌, length, map, refl, subst, suc, sym}
use Rattle.std.specs.Prelude.{not}
use Rattle.std.specs.List.{AllPairs, sum_by}
use Rattle.std.specs.List.Sorted.{IsStrictlyIncreasing}
use Rattle.std.proofs.lemmas.Bool.{eqb-true, ne_eqb}
use Rattle.std.proofs.lemmas.List.{get_or-map, length-map, length_push, map_push}
use Rattle.std.proofs.lemmas.List.Elements.{All-filter, All-head, All-map, All-push, All-tail, All-weaker}
use Rattle.std.proofs.lemmas.List.Kept.{AllPairs-from_increasing}
use Rattle.std.proofs.lemmas.List.Sums.{sum_by-cons, sum_by_push}
use Rattle.pl_base.specs.declared.id.ItemId.{ItemId}
use Rattle.pl_base.specs.declared.item.ItemRow.{ItemRow}
use Rattle.pl_base.specs.Live.{chunks}
use Rattle.pl_base.specs.Store.{Item}
use Rattle.pl_base.specs.Tree.{adopted, adopting, inserted, item_at, leaving, moved, new_item, put_behind}
use Rattle.pl_base.specs.Tree.{removed, with_changed}
use Rattle.pl_base.proofs.ListLaws.{All-from_map, map-alike, map-map, sum_by-map}

-- an item but for its children
abbrev pub bare : Item → Item
bare i = record i { children = [] }

bare_adopting : (parent : ItemId) (after : Option ItemId) (id : ItemId) (i : Item)
    → bare (adopting parent after id i) ≡ bare i
bare_adopting parent after id i = choose (i.id.0 == parent.0)
  where
    choose : (b : Bool)
        → bare (if b then record i { children = put_behind after id i.children } else i) ≡ bare i
    choose true = refl
    choose false = refl

-- a child more or less changes nothing else
pub bare_adopted : (parent : Option ItemId) (after : Option ItemId) (id : ItemId) (items : List Item)
    → map bare (adopted parent after id items) ≡ map bare items
bare_adopted None after id items = refl
bare_adopted (Some parent) after id items =
    map-map bare (adopting parent after id) items ∙ map-alike (λ i. bare (adopting parent after id i)) bare items
    (bare_adopting parent after id)

pub bare_leaving : (id : ItemId) (items : List Item) → map bare (map (leaving id) items) ≡ map bare items
bare_leaving id items = map-map bare (leaving id) items

pub bare_moved : (id parent : ItemId) (after : Option ItemId) (items : List Item)
    → map bare (moved id parent after items) ≡ map bare items
bare_moved id parent after items =
    bare_adopted (Some parent) after id (map (leaving id) items) ∙ bare_leaving id items

-- ---- ids

-- the ids of items
abbrev pub ids_of : List Item → List ℕ
ids_of items = map (λ (i : Item). i.id.0) items

same_ids : (new old : List Item) → map bare new ≡ map bare old → ids_of new ≡ ids_of old
same_ids new old same =
    sym (map-map (λ (i : Item). i.id.0) bare new) ∙ ap ids_of same ∙ map-map (λ (i : Item). i.id.0) bare old

pub ids_moved : (id parent : ItemId) (after : Option ItemId) (items : List Item)
    → ids_of (moved id parent after items) ≡ ids_of items
ids_moved id parent after items = same_ids (moved id parent after items) items (bare_moved id parent after items)

pub ids_inserted : (id : ItemId) (row : ItemRow) (title : List ℕ) (after : Option ItemId) (items : List Item)
    → ids_of (inserted id row title after items) ≡ ids_of items ++ id.0 ∷ []
ids_inserted id row title after items =
    map_push (λ (i : Item). i.id.0) (adopted row.parent after id items) (new_item id row title)
    ∙ ap (λ ids. ids ++ id.0 ∷ [])
    (same_ids (adopted row.parent after id items) items (bare_adopted row.parent after id items))

pub ids_changed : (id : ItemId) (change : Item → Item) (items : List Item) → ((i : Item) → (change i).id ≡ i.id)
    → ids_of (with_changed id change items) ≡ ids_of items
ids_changed id change items same =
    map-map (λ (i : Item). i.id.0) (λ (i : Item). if i.id.0 == id.0 then change i else i) items
    ∙ map-alike (λ (i : Item). (if i.id.0 == id.0 then change i else i).id.0) (λ (i : Item). i.id.0) items
    (λ i. choose i (i.id.0 == id.0))
  where
    choose : (i : Item) (b : Bool) → (if b then change i else i).id.0 ≡ i.id.0
    choose i true = ap (λ (c : ItemId). c.0) (same i)
    choose i false = refl

-- what passes a test on a number of each is what the numbers that pass are of
pub map-filter : {X : Type 0} (n : X → ℕ) (q : ℕ → Bool) (xs : List X)
    → map n (filter (λ x. q (n x)) xs) ≡ filter q (map n xs)
map-filter n q [] = refl
map-filter {X} n q (x ∷ xs) = choose (q (n x)) (map-filter n q xs)
  where
    choose : (b : Bool) → map n (filter (λ y. q (n y)) xs) ≡ filter q (map n xs)
        → map n (if b then x ∷ filter (λ y. q (n y)) xs else filter (λ y. q (n y)) xs)
        ≡ (if b then n x ∷ filter q (map n xs) else filter q (map n xs))
    choose true rest = ap (λ ns. n x ∷ ns) rest
    choose false rest = rest

pub ids_removed : (id : ItemId) (items : List Item)
    → ids_of (removed id items) ≡ filter (λ n. not (n == id.0)) (ids_of items)
ids_removed id items =
    map-map (λ (i : Item). i.id.0) (leaving id) (filter (λ (i : Item). not (i.id.0 == id.0)) items)
    ∙ map-filter (λ (i : Item). i.id.0) (λ n. not (n == id.0)) items

-- ---- the slots of titles

-- the slots of the items' titles
abbrev pub title_slots : List Item → ℕ
title_slots items = sum_by (λ (i : Item). chunks i.title) items

same_slots : (new old : List Item) → map bare new ≡ map bare old → title_slots new ≡ title_slots old
same_slots new old same =
    sym (sum_by-map (λ (i : Item). chunks i.title) bare new) ∙ ap title_slots same
    ∙ sum_by-map (λ (i : Item). chunks i.title) bare old

pub slots_moved : (id parent : ItemId) (after : Option ItemId) (items : List Item)
    → title_slots (moved id parent after items) ≡ title_slots items
slots_moved id parent after items = same_slots (moved id parent after items) items (bare_moved id parent after items)

pub slots_inserted : (id : ItemId) (row : ItemRow) (title : List ℕ) (after : Option ItemId) (items : List Item)
    → title_slots (inserted id row title after items) ≡ title_slots items + chunks title
slots_inserted id row title after items =
    sum_by_push (λ (i : Item). chunks i.title) (adopted row.parent after id items) (new_item id row title)
    ∙ ap (λ n. n + chunks title)
    (same_slots (adopted row.parent after id items) items (bare_adopted row.parent after id items))

-- ---- how many there are

pub count_moved : (id parent : ItemId) (after : Option ItemId) (items : List Item)
    → length (moved id parent after items) ≡ length items
count_moved id parent after items =
    length-map (map (leaving id) items) (adopting parent after id) ∙ length-map items (leaving id)

pub count_inserted : (id : ItemId) (row : ItemRow) (title : List ℕ) (after : Option ItemId) (items : List Item)
    → length (inserted id row title after items) ≡ length items + 1
count_inserted id row title after items =
    length_push (adopted row.parent after id items) (new_item id row title)
    ∙ ap (λ n. n + 1) (same_count row.parent)
  where
    same_count : (parent : Option ItemId) → length (adopted parent after id items) ≡ length items
    same_count None = refl
    same_count (Some parent) = length-map items (adopting parent after id)

-- ---- titles

-- what holds of each title holds where only children change
pub titles_moved : (P : List ℕ → Type 0) (id parent : ItemId) (after : Option ItemId) (items : List Item)
    → All (λ (i : Item). P i.title) items → All (λ (i : Item). P i.title) (moved id parent after items)
titles_moved P id parent after items all =
    All-from_map (λ (i : Item). P i.title) bare (moved id parent after items)
    (subst (All (λ (i : Item). P i.title)) (sym (bare_moved id parent after items))
    (All-map (λ (i : Item). P i.title) bare items all))

pub titles_inserted : (P : List ℕ → Type 0) (id : ItemId) (row : ItemRow) (title : List ℕ) (after : Option ItemId)
    (items : List Item) → P title → All (λ (i : Item). P i.title) items
    → All (λ (i : Item). P i.title) (inserted id row title after items)
titles_inserted P id row title after items own all =
    All-push (λ (i : Item). P i.title) (adopted row.parent after id items) (new_item id row title)
    (All-from_map (λ (i : Item). P i.title) bare (adopted row.parent after id items)
    (subst (All (λ (i : Item). P i.title)) (sym (bare_adopted row.parent after id items))
    (All-map (λ (i : Item). P i.title) bare items all)))
    own

pub titles_changed : (P : List ℕ → Type 0) (id : ItemId) (change : Item → Item) (items : List Item)
    → ((i : Item) → P i.title → P (change i).title) → All (λ (i : Item). P i.title) items
    → All (λ (i : Item). P i.title) (with_changed id change items)
titles_changed P id change items still all =
    All-map (λ (i : Item). P i.title) (λ (i : Item). if i.id.0 == id.0 then change i else i) items
    (All-weaker (λ (i : Item). P i.title) (λ (i : Item). P (if i.id.0 == id.0 then change i else i).title)
    (λ i own. choose i (i.id.0 == id.0) own) items all)
  where
    choose : (i : Item) (b : Bool) → P i.title → P (if b then change i else i).title
    choose i true own = still i own
    choose i false own = own

pub titles_removed : (P : List ℕ → Type 0) (id : ItemId) (items : List Item) → All (λ (i : Item). P i.title) items
    → All (λ (i : Item). P i.title) (removed id items)
titles_removed P id items all =
    All-map (λ (i : Item). P i.title) (leaving id) (filter (λ (i : Item). not (i.id.0 == id.0)) items)
    (All-filter (λ (i : Item). not (i.id.0 == id.0)) (λ (i : Item). P i.title) items all)

-- ---- one item less

module _ {X : Type 0} (q : X → Bool) where
  -- at most one element passes the test
  abbrev pub AtMostOne : List X → Type 0
  AtMostOne xs = AllPairs (λ a b. q a ≡ true → q b ≡ false) xs

  none_left : (xs : List X) → All (λ x. q x ≡ false) xs → filter (λ x. not (q x)) xs ≡ xs
  none_left [] none = refl
  none_left (x ∷ xs) none =
      rw (All-head (λ y. q y ≡ false) x xs none, none_left xs (All-tail (λ y. q y ≡ false) x xs none)) refl

  -- a sum without the only element that passes
  pub sum_without : (n : X → ℕ) (xs : List X) (x : X) → AtMostOne xs → find q xs ≡ Some x
      → sum_by n (filter (λ y. not (q y)) xs) + n x ≡ sum_by n xs
  sum_without n [] x once found = absurd (cc)
  sum_without n (y ∷ ys) x once found =
      choose (q y) refl found
      (sum_without n ys x (λ i j d before within. once (suc i) (suc j) d (omega arith) (omega arith)))
    where
      choose : (b : Bool) → q y ≡ b → (if b then Some y else find q ys) ≡ Some x
          → (find q ys ≡ Some x → sum_by n (filter (λ z. not (q z)) ys) + n x ≡ sum_by n ys)
          → sum_by n (if not b then y ∷ filter (λ z. not (q z)) ys else filter (λ z. not (q z)) ys) + n x
          ≡ sum_by n (y ∷ ys)
      choose true passes here rest =
          let same : y ≡ x = cc in
          let others : filter (λ z. not (q z)) ys ≡ ys =
          none_left ys (λ k d within. once 0 (suc k) d (omega arith) (omega arith) passes) in
          omega (arith, sum_by-cons n y ys, ap (sum_by n) others, ap n same)
      choose false fails here rest =
          omega (arith, sum_by-cons n y (filter (λ z. not (q z)) ys), sum_by-cons n y ys, rest here)

length-sum : {X : Type 0} (xs : List X) → length xs ≡ sum_by (λ x. 1) xs
length-sum [] = refl
length-sum (x ∷ xs) = omega (arith, sum_by-cons (λ y. 1) x xs, length-sum xs)

-- a list without the only element that passes is one shorter
pub one_less : {X : Type 0} (q : X → Bool) (xs : List X) (x : X) → AtMostOne q xs → find q xs ≡ Some x
    → length (filter (λ y. not (q y)) xs) + 1 ≡ length xs
one_less q xs x once found =
    omega (
      arith,
      length-sum (filter (λ y. not (q y)) xs),
      length-sum xs,
      sum_without q (λ y. 1) xs x once found,
    )

pub once : (id : ItemId) (items : List Item) → IsStrictlyIncreasing (ids_of items)
    → AtMostOne (λ (i : Item). i.id.0 == id.0) items
once id items ascending i j d before within passes =
    let pairs = AllPairs-from_increasing (ids_of items) ascending in
    let below : (get_or items i d).id.0 < (get_or items j d).id.0 =
    rw (
      get_or-map (λ (x : Item). x.id.0) items i d d.id.0 (omega arith),
      get_or-map (λ (x : Item). x.id.0) items j d d.id.0 within,
    ) at
    (pairs i j d.id.0 before (rw (length-map items (λ (x : Item). x.id.0)) within)) in
    ne_eqb (get_or items j d).id.0 id.0
    (λ same. omega (arith, eqb-true (get_or items i d).id.0 id.0 passes))

pub slots_removed : (id : ItemId) (items : List Item) (i : Item) → IsStrictlyIncreasing (ids_of items)
    → item_at items id ≡ Some i → title_slots (removed id items) + chunks i.title ≡ title_slots items
slots_removed id items i ascending found =
    omega (
      arith,
      sum_by-map (λ (x : Item). chunks x.title) (leaving id) (filter (λ (x : Item). not (x.id.0 == id.0)) items),
      sum_without (λ (x : Item). x.id.0 == id.0) (λ (x : Item). chunks x.title) items i (once id items ascending) found,
    )

pub count_removed : (id : ItemId) (items : List Item) (i : Item) → IsStrictlyIncreasing (ids_of items)
    → item_at items id ≡ Some i → length (removed id items) + 1 ≡ length items
count_removed id items i ascending found =
    omega (
      arith,
      length-map (filter (λ (x : Item). not (x.id.0 == id.0)) items) (leaving id),
      one_less (λ (x : Item). x.id.0 == id.0) items i (once id items ascending) found,
    )
