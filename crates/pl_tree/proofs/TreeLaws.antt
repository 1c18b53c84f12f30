-- What a tree of items is, by elements of its lists and by counts of its ids.
use Rattle.std.proofs.Common.{◌≡◌, ◌≢◌, ◌+◌, ◌<◌, ◌≤◌, ◌∙◌, inl, inr, ℕ, Bool, true, List, ◌∷◌}
use Rattle.std.proofs.Common.{ap, sym, subst, arith, refl, eqb, map}
use Rattle.std.specs.List.{All}
use Rattle.std.specs.List.Sorted.{IsStrictlyIncreasing}
use Rattle.std.specs.Prelude.{IsTrue}
use Rattle.std.proofs.lemmas.Bool.{cases_eq}
use Rattle.std.proofs.lemmas.List.Elements.{All-from_recursion, recursion_from_All}
use Rattle.std.proofs.lemmas.List.Kept.{AllPairs-from_increasing}
use Rattle.pl_base.specs.declared.id.ItemId.{ItemId}
use Rattle.pl_base.specs.Good.{IsReached, IsTree, child_ids}
use Rattle.pl_base.specs.Store.{Item, item_id}
use Rattle.pl_base.specs.Tree.{has_item}
use Rattle.pl_base.proofs.ItemLookUps.{same_item_number}
use Rattle.pl_base.proofs.ListLaws.{AllPairs-from_map}
use Rattle.pl_base.proofs.Among.{In, all_from_in, at_in}
use Rattle.pl_base.proofs.KeyCounts.{Ascends, Once, ascends_from_pairs, count}
use Rattle.pl_base.proofs.KeyCounts.{count-cons, counted, once_from_pairs, pairs_from_once, tick, tick_other, tick_same}
use Rattle.pl_tree.proofs.LookedUp.{id_key, in_child_ids, in_has, item_key}

pub ids_ascend : (items : List Item) → IsStrictlyIncreasing (map (λ (i : Item). i.id.0) items)
    → Ascends item_key items
ids_ascend items up =
    ascends_from_pairs item_key items
    (AllPairs-from_map (λ m n. m < n) (λ (i : Item). i.id.0) items
    (AllPairs-from_increasing (map (λ (i : Item). i.id.0) items) up))

-- what holds of item 1, and of each child of an item that it holds of, holds of all
abbrev pub Reaches : List Item → Type 0
Reaches items =
    (holds : ItemId → Bool) → holds (item_id 1) ≡ true
    → ((i : Item) → In i items → holds i.id ≡ true → (c : ItemId) → In c i.children → holds c ≡ true)
    → (i : Item) → In i items → holds i.id ≡ true

pub reaches : (items : List Item) → IsTree items → Reaches items
reaches items tree holds one closed i h =
    at_in (λ (j : Item). holds j.id ≡ true) items i
    (recursion_from_All (λ (j : Item). IsTrue (holds j.id)) items
    (tree.reached holds one
    (All-from_recursion (λ (j : Item). IsTrue (holds j.id) → All (λ c. IsTrue (holds c)) j.children) items
    (all_from_in (λ (j : Item). IsTrue (holds j.id) → All (λ c. IsTrue (holds c)) j.children) items (λ j g there.
    All-from_recursion (λ c. IsTrue (holds c)) j.children
    (all_from_in (λ c. IsTrue (holds c)) j.children (λ c f. closed j g there c f)))))))
    h

is_reached : (items : List Item) → Reaches items → IsReached items
is_reached items reach holds one closed =
    All-from_recursion (λ (i : Item). IsTrue (holds i.id)) items
    (all_from_in (λ (i : Item). IsTrue (holds i.id)) items
    (reach holds one (λ i h there c g.
    at_in (λ d. IsTrue (holds d)) i.children c
    (recursion_from_All (λ d. IsTrue (holds d)) i.children
    (at_in (λ (j : Item). IsTrue (holds j.id) → All (λ d. IsTrue (holds d)) j.children) items i
    (recursion_from_All (λ (j : Item). IsTrue (holds j.id) → All (λ d. IsTrue (holds d)) j.children) items closed)
    h there)) g)))

pub child_known : (items : List Item) → IsTree items → (c : ItemId) → In c (child_ids items) → has_item items c ≡ true
child_known items tree c h =
    at_in (λ d. IsTrue (has_item items d)) (child_ids items) c
    (recursion_from_All (λ d. IsTrue (has_item items d)) (child_ids items) tree.known) h

-- where the ids of all items lie below a number, so do those of children
pub child_below : (items : List Item) (n : ℕ) → IsTree items → ((i : Item) → In i items → i.id.0 < n)
    → (c : ItemId) → In c (child_ids items) → c.0 < n
child_below items n tree below c h =
    let r = in_has items c (child_known items tree c h) in
    let i : Item = r.0 in
    subst (λ (d : ItemId). d.0 < n) r.2 (below i r.1)

pub each_once : (items : List Item) → IsTree items → Once id_key (item_id 1 ∷ child_ids items)
each_once items tree =
    once_from_pairs id_key (item_id 1 ∷ child_ids items)
    (λ i j d before within e. tree.once i j d before within (same_item_number _ _ e))

pub child_once : (items : List Item) → IsTree items → Once id_key (child_ids items)
child_once items tree k =
    omega (arith, count-cons id_key k (item_id 1) (child_ids items), each_once items tree k)

-- item 1 is no child
pub first_no_child : (items : List Item) → IsTree items → (i : Item) → In i items → In (item_id 1) i.children → ⊥
first_no_child items tree i h g =
    let there = counted id_key 1 (child_ids items) (item_id 1) (in_child_ids items i (item_id 1) h g) refl in
    let one : tick (eqb 1 1) ≡ 1 = tick_same 1 1 refl in
    omega (arith, count-cons id_key 1 (item_id 1) (child_ids items), each_once items tree 1)

pub is_tree : (items : List Item) → ((c : ItemId) → In c (child_ids items) → has_item items c ≡ true)
    → Once id_key (item_id 1 ∷ child_ids items) → Reaches items → IsTree items
is_tree items known once reach =
    let apart = pairs_from_once id_key (item_id 1 ∷ child_ids items) once in
    record {
      known = All-from_recursion (λ c. IsTrue (has_item items c)) (child_ids items)
          (all_from_in (λ c. IsTrue (has_item items c)) (child_ids items) known);
      once = λ i j d before within e. apart i j d before within (ap id_key e);
      reached = is_reached items reach;
    }

-- no more children than before
pub once_fewer : (olds news : List ItemId) → Once id_key (item_id 1 ∷ olds)
    → ((k : ℕ) → count id_key k news ≤ count id_key k olds) → Once id_key (item_id 1 ∷ news)
once_fewer olds news once fewer k =
    omega (arith, count-cons id_key k (item_id 1) olds, count-cons id_key k (item_id 1) news, once k, fewer k)

-- one child more, which was none
pub once_more : (id : ItemId) (olds news : List ItemId) → Once id_key (item_id 1 ∷ olds) → id.0 ≢ 1
    → count id_key id.0 olds ≡ 0
    → ((k : ℕ) → count id_key k news ≤ count id_key k olds + tick (eqb id.0 k)) → Once id_key (item_id 1 ∷ news)
once_more id olds news once other none more k =
    elim (cases_eq id.0 k) as (λ _. count id_key k (item_id 1 ∷ news) ≤ 1) [
      | inl e ↦
          let here : tick (eqb id.0 k) ≡ 1 = tick_same id.0 k e in
          let root : tick (eqb 1 k) ≡ 0 = tick_other 1 k (λ same. other (e ∙ sym same)) in
          let before : count id_key k olds ≡ 0 = subst (λ (n : ℕ). count id_key n olds ≡ 0) e none in
          omega (arith, count-cons id_key k (item_id 1) news, more k)
      | inr ne ↦
          let here : tick (eqb id.0 k) ≡ 0 = tick_other id.0 k ne in
          omega (
            arith,
            count-cons id_key k (item_id 1) olds,
            count-cons id_key k (item_id 1) news,
            once k,
            more k,
          )
    ]
