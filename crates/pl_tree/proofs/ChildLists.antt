-- Lists of children with one more, or with one less.
use Rattle.std.proofs.Common.{◌≡◌, ◌≢◌, ◌+◌, ◌<◌, ◌≤◌, ◌++◌, ◌==◌, ◌⊎◌, inl, inr, ℕ, Bool, true, false}
use Rattle.std.proofs.Common.{List, [], ◌∷◌, ap, sym, subst, arith, refl, drop, eqb, eq-eqb, filter}
use Rattle.std.proofs.Common.{if◌then◌else◌, length, map, take}
use Rattle.std.specs.Prelude.{not}
use Rattle.std.specs.List.{AllByRecursion}
use Rattle.std.proofs.lemmas.Bool.{eqb-false, eqb-true, ne_eqb, not-true, not_from_false}
use Rattle.std.proofs.lemmas.List.{take-append-drop}
use Rattle.std.proofs.lemmas.List.Sums.{sum_by-take-drop}
use Rattle.pl_base.specs.declared.id.ItemId.{ItemId}
use Rattle.pl_base.specs.Good.{child_ids}
use Rattle.pl_base.specs.Store.{Item}
use Rattle.pl_base.specs.Tree.{leaving, without_id}
use Rattle.pl_base.proofs.ItemLaws.{bare}
use Rattle.pl_base.proofs.Among.{In, from_filter, in_back, in_drop, in_either, in_filter, in_front, in_take}
use Rattle.pl_tree.specs.declared.place.Place.{Place}
use Rattle.pl_tree.specs.Changes.{position, put, put_at}
use Rattle.pl_base.proofs.KeyCounts.{Ascends, count, count-append, count-cons}
use Rattle.pl_base.proofs.KeyCounts.{not_counted, tick}
use Rattle.pl_tree.proofs.LookedUp.{id_key, item_key}
use Rattle.pl_tree.proofs.MappedItems.{changed_at, changed_here, changed_other}

-- ---- one more

module _ (place : Place) (id : ItemId) (ids : List ItemId) where
  pub put_new : In id (put place id ids)
  put_new =
      let n = position place (length ids) in
      in_back (take n ids) (id ∷ drop n ids) id (inl refl)

  pub put_old : (c : ItemId) → In c ids → In c (put place id ids)
  put_old c h =
      let n = position place (length ids) in
      elim (in_either (take n ids) (drop n ids) c (subst (In c) (sym (take-append-drop n ids)) h))
      as (λ _. In c (put_at n id ids)) [
        | inl g ↦ in_front (take n ids) (id ∷ drop n ids) c g
        | inr g ↦ in_back (take n ids) (id ∷ drop n ids) c (inr g)
      ]

  pub from_put : (c : ItemId) → In c (put place id ids) → In c ids ⊎ (c ≡ id)
  from_put c h =
      let n = position place (length ids) in
      elim (in_either (take n ids) (id ∷ drop n ids) c h) as (λ _. In c ids ⊎ (c ≡ id)) [
        | inl g ↦ inl (in_take n ids c g)
        | inr (inl e) ↦ inr e
        | inr (inr g) ↦ inl (in_drop n ids c g)
      ]

  pub count_put : (k : ℕ) → count id_key k (put place id ids) ≡ count id_key k ids + tick (eqb id.0 k)
  count_put k =
      let n = position place (length ids) in
      omega (
        arith,
        count-append id_key k (take n ids) (id ∷ drop n ids),
        count-cons id_key k id (drop n ids),
        sum_by-take-drop (λ (c : ItemId). tick (eqb c.0 k)) ids n,
      )

-- ---- one less

pub without_other : (id : ItemId) (ids : List ItemId) (c : ItemId) → In c ids → c.0 ≢ id.0 → In c (without_id id ids)
without_other id ids c h other =
    in_filter (λ (d : ItemId). not (d.0 == id.0)) ids c h (not_from_false (c.0 == id.0) (ne_eqb c.0 id.0 other))

pub from_without : (id : ItemId) (ids : List ItemId) (c : ItemId) → In c (without_id id ids) → In c ids × (c.0 ≢ id.0)
from_without id ids c h =
    let r = from_filter (λ (d : ItemId). not (d.0 == id.0)) ids c h in
    (r.0, eqb-false c.0 id.0 (not-true (c.0 == id.0) r.1))

-- where it is none of them
pub without_none : (id : ItemId) (ids : List ItemId) → (In id ids → ⊥) → without_id id ids ≡ ids
without_none id [] none = refl
without_none id (c ∷ cs) none = choose (c.0 == id.0) refl (without_none id cs (λ h. none (inr h)))
  where
    choose : (b : Bool) → (c.0 == id.0) ≡ b → without_id id cs ≡ cs
        → (if not b then c ∷ without_id id cs else without_id id cs) ≡ c ∷ cs
    choose true is rest =
        let same : id ≡ c = ap (λ (k : ℕ). record { 0 = k }) (sym (eqb-true c.0 id.0 is)) in
        absurd (none (inl same))
    choose false is rest = ap (λ (ds : List ItemId). c ∷ ds) rest

pub left_other : (id : ItemId) (i : Item) → (In id i.children → ⊥) → leaving id i ≡ i
left_other id i none = ap (λ (cs : List ItemId). record i { children = cs }) (without_none id i.children none)

count_filter : (q : ItemId → Bool) (k : ℕ) (ids : List ItemId) → count id_key k (filter q ids) ≤ count id_key k ids
count_filter q k [] = omega arith
count_filter q k (c ∷ cs) = choose (q c) (count_filter q k cs)
  where
    choose : (b : Bool) → count id_key k (filter q cs) ≤ count id_key k cs
        → count id_key k (if b then c ∷ filter q cs else filter q cs) ≤ count id_key k (c ∷ cs)
    choose true rest = omega (arith, count-cons id_key k c (filter q cs), count-cons id_key k c cs)
    choose false rest = omega (arith, count-cons id_key k c cs)

pub count_without : (id : ItemId) (k : ℕ) (ids : List ItemId)
    → count id_key k (without_id id ids) ≤ count id_key k ids
count_without id k ids = count_filter (λ (d : ItemId). not (d.0 == id.0)) k ids

-- ---- in all items

-- none has it as a child any more
pub count_left : (id : ItemId) (k : ℕ) (items : List Item)
    → count id_key k (child_ids (map (leaving id) items)) ≤ count id_key k (child_ids items)
count_left id k [] = omega arith
count_left id k (i ∷ items) =
    omega (
      arith,
      count-append id_key k (without_id id i.children) (child_ids (map (leaving id) items)),
      count-append id_key k i.children (child_ids items),
      count_without id k i.children,
      count_left id k items,
    )

pub none_left : (id : ItemId) (items : List Item) → count id_key id.0 (child_ids (map (leaving id) items)) ≡ 0
none_left id [] = refl
none_left id (i ∷ items) =
    omega (
      arith,
      count-append id_key id.0 (without_id id i.children) (child_ids (map (leaving id) items)),
      not_counted id_key id.0 (without_id id i.children) (λ c h. (from_without id i.children c h).1),
      none_left id items,
    )

pub count_kept : (q : Item → Bool) (k : ℕ) (items : List Item)
    → count id_key k (child_ids (filter q items)) ≤ count id_key k (child_ids items)
count_kept q k [] = omega arith
count_kept q k (i ∷ items) = choose (q i) (count_kept q k items)
  where
    choose : (b : Bool) → count id_key k (child_ids (filter q items)) ≤ count id_key k (child_ids items)
        → count id_key k (child_ids (if b then i ∷ filter q items else filter q items))
        ≤ count id_key k (child_ids (i ∷ items))
    choose true rest =
        omega (
          arith,
          count-append id_key k i.children (child_ids (filter q items)),
          count-append id_key k i.children (child_ids items),
        )
    choose false rest = omega (arith, count-append id_key k i.children (child_ids items))

-- ---- one folder has one more

module _ (parent : ItemId) (place : Place) (id : ItemId) where
  -- the item, with one more child if it is the folder
  abbrev pub grown : Item → Item
  grown = changed_at parent (λ i. record i { children = put place id i.children })

  pub grown_id : (i : Item) → (grown i).id ≡ i.id
  grown_id i = choose (i.id.0 == parent.0)
    where
      choose : (b : Bool) → (if b then record i { children = put place id i.children } else i).id ≡ i.id
      choose true = refl
      choose false = refl

  pub bare_grown : (i : Item) → bare (grown i) ≡ bare i
  bare_grown i = choose (i.id.0 == parent.0)
    where
      choose : (b : Bool) → bare (if b then record i { children = put place id i.children } else i) ≡ bare i
      choose true = refl
      choose false = refl

  pub grown_old : (i : Item) (c : ItemId) → In c i.children → In c (grown i).children
  grown_old i c h = choose (i.id.0 == parent.0)
    where
      choose : (b : Bool) → In c (if b then record i { children = put place id i.children } else i).children
      choose true = put_old place id i.children c h
      choose false = h

  pub grown_new : (i : Item) → i.id ≡ parent → In id (grown i).children
  grown_new i e =
      let same = changed_here parent (λ (j : Item). record j { children = put place id j.children }) i
      (eq-eqb i.id.0 parent.0 (ap id_key e))
      in
      subst (λ (j : Item). In id j.children) (sym same) (put_new place id i.children)

  pub from_grown : (i : Item) (c : ItemId) → In c (grown i).children → In c i.children ⊎ (c ≡ id)
  from_grown i c h = choose (i.id.0 == parent.0) h
    where
      choose : (b : Bool) → In c (if b then record i { children = put place id i.children } else i).children
          → In c i.children ⊎ (c ≡ id)
      choose true h = from_put place id i.children c h
      choose false h = inl h

  others_same : (items : List Item) → AllByRecursion (λ (j : Item). parent.0 < j.id.0) items → map grown items ≡ items
  others_same [] above = refl
  others_same (i ∷ items) above =
      rw (
        changed_other parent (λ (j : Item). record j { children = put place id j.children }) i
            (ne_eqb i.id.0 parent.0 (λ same. omega (arith, above.0))),
        others_same items above.1,
      ) refl

  pub count_grown : (k : ℕ) (items : List Item) → Ascends item_key items
      → count id_key k (child_ids (map grown items)) ≤ count id_key k (child_ids items) + tick (eqb id.0 k)
  count_grown k [] up = omega arith
  count_grown k (i ∷ items) up = choose (i.id.0 == parent.0) refl (count_grown k items up.1)
    where
      choose : (b : Bool) → (i.id.0 == parent.0) ≡ b
          → count id_key k (child_ids (map grown items)) ≤ count id_key k (child_ids items) + tick (eqb id.0 k)
          → count id_key k ((if b then record i { children = put place id i.children } else i).children
          ++ child_ids (map grown items))
          ≤ count id_key k (child_ids (i ∷ items)) + tick (eqb id.0 k)
      choose true is rest =
          let above : AllByRecursion (λ (j : Item). parent.0 < j.id.0) items =
          subst (λ (n : ℕ). AllByRecursion (λ (j : Item). n < j.id.0) items) (eqb-true i.id.0 parent.0 is) up.0 in
          omega (
            arith,
            count-append id_key k (put place id i.children) (child_ids (map grown items)),
            ap (λ (js : List Item). count id_key k (child_ids js)) (others_same items above),
            count_put place id i.children k,
            count-append id_key k i.children (child_ids items),
          )
      choose false is rest =
          omega (
            arith,
            count-append id_key k i.children (child_ids (map grown items)),
            count-append id_key k i.children (child_ids items),
            rest,
          )
