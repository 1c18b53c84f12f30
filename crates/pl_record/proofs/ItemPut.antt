-- Items of which one has a child more: which parents, children and references they have then.
use Rattle.std.proofs.Common.{◌≡◌, ◌≢◌, ◌+◌, ◌≤◌, ◌==◌, ◌||◌, ◌∙◌, ℕ, All, Bool, true, false, inl, inr}
use Rattle.std.proofs.Common.{List, [], ◌∷◌, Option, None, Some, ap, arith, count_by, eqb, filter}
use Rattle.std.proofs.Common.{find, if◌then◌else◌, map, refl, subst, sym}
use Rattle.std.specs.List.{AllByRecursion, AllPairs}
use Rattle.std.specs.List.Sorted.{IsStrictlyIncreasing}
use Rattle.std.specs.Option.{option_map}
use Rattle.std.proofs.lemmas.Bool.{cases_eq, eq-eqb, or_parts}
use Rattle.std.proofs.lemmas.List.Sums.{sum_by-cons}
use Rattle.std.proofs.lemmas.List.Elements.{All-from_recursion, All-map, All-weaker, recursion_from_All}
use Rattle.std.proofs.lemmas.List.Kept.{AllPairs-from_increasing}
use Rattle.pl_base.specs.declared.id.ItemId.{ItemId}
use Rattle.pl_base.specs.declared.id.PageId.{PageId}
use Rattle.pl_base.specs.Good.{child_ids}
use Rattle.pl_base.specs.Store.{Item}
use Rattle.pl_base.specs.Tree.{adopted, adopting, children_of, has_child, has_item, is_page, item_at, parent_of}
use Rattle.pl_base.specs.Tree.{put_behind, references}
use Rattle.pl_base.proofs.ItemLookUps.{same_item, same_item_number}
use Rattle.pl_base.proofs.KeyCounts.{Once, count, count-append, count-cons, once_from_pairs, pairs_from_once, tick}
use Rattle.pl_base.proofs.KeyCounts.{tick_other}
use Rattle.pl_base.proofs.ListLaws.{AllPairs-from_map, find-map, list_any-map, map-alike, map-map, weaker}
use Rattle.pl_base.proofs.LookUps.{find-alike, found_passes, none_pass}
use Rattle.pl_base.proofs.OneParent.{any_child, is_among}
use Rattle.pl_record.proofs.NamedSlots.{found_of}
use Rattle.pl_base.proofs.ListLaws.{filter-map}

-- ---- an id that is put among others

-- the number of an id
abbrev number : ItemId → ℕ
number c = c.0

count_put : (n : ℕ) (after : Option ItemId) (id : ItemId) (cs : List ItemId)
    → count number n (put_behind after id cs) ≡ tick (eqb id.0 n) + count number n cs
count_put n None id cs = count-cons number n id cs
count_put n (Some after) id [] = count-cons number n id []
count_put n (Some after) id (c ∷ cs) = choose (c.0 == after.0) (count_put n (Some after) id cs)
  where
    choose : (b : Bool) → count number n (put_behind (Some after) id cs) ≡ tick (eqb id.0 n) + count number n cs
        → count number n (if b then c ∷ id ∷ cs else c ∷ put_behind (Some after) id cs)
        ≡ tick (eqb id.0 n) + count number n (c ∷ cs)
    choose true rest =
        omega (arith, count-cons number n c (id ∷ cs), count-cons number n id cs, count-cons number n c cs)
    choose false rest =
        omega (arith, rest, count-cons number n c (put_behind (Some after) id cs), count-cons number n c cs)

among_put : (other : ItemId) (after : Option ItemId) (id : ItemId) (cs : List ItemId)
    → is_among other (put_behind after id cs) ≡ ((id.0 == other.0) || is_among other cs)
among_put other None id cs = refl
among_put other (Some after) id [] = refl
among_put other (Some after) id (c ∷ cs) = choose (c.0 == after.0) (among_put other (Some after) id cs)
  where
    swap : (a b c : Bool) → (a || (b || c)) ≡ (b || (a || c))
    swap true true c = refl
    swap true false c = refl
    swap false b c = refl

    choose : (b : Bool)
        → is_among other (put_behind (Some after) id cs) ≡ ((id.0 == other.0) || is_among other cs)
        → is_among other (if b then c ∷ id ∷ cs else c ∷ put_behind (Some after) id cs)
        ≡ ((id.0 == other.0) || ((c.0 == other.0) || is_among other cs))
    choose true rest = swap (c.0 == other.0) (id.0 == other.0) (is_among other cs)
    choose false rest =
        ap (λ (b : Bool). (c.0 == other.0) || b) rest
        ∙ swap (c.0 == other.0) (id.0 == other.0) (is_among other cs)

all_put : (P : ItemId → Type 0) (after : Option ItemId) (id : ItemId) (cs : List ItemId) → P id
    → AllByRecursion P cs → AllByRecursion P (put_behind after id cs)
all_put P None id cs own all = (own, all)
all_put P (Some after) id [] own all = (own, tt)
all_put P (Some after) id (c ∷ cs) own all = choose (c.0 == after.0) (all_put P (Some after) id cs own all.1)
  where
    choose : (b : Bool) → AllByRecursion P (put_behind (Some after) id cs)
        → AllByRecursion P (if b then c ∷ id ∷ cs else c ∷ put_behind (Some after) id cs)
    choose true rest = (all.0, (own, all.1))
    choose false rest = (all.0, rest)

-- an id that is not among others counts nothing there
pub none_counted : (id : ItemId) (cs : List ItemId) → is_among id cs ≡ false → count number id.0 cs ≡ 0
none_counted id [] none = refl
none_counted id (c ∷ cs) none =
    let parts : ((c.0 == id.0) ≡ false) × (is_among id cs ≡ false) = or_parts (c.0 == id.0) (is_among id cs) none in
    omega (arith, count-cons number id.0 c cs, ap tick parts.0, none_counted id cs parts.1)

-- ids that stand once, by their numbers
pub counted_once : (cs : List ItemId) → AllPairs (λ (a b : ItemId). a ≢ b) cs → Once number cs
counted_once cs pairs =
    once_from_pairs number cs
    (λ i j d before within same. pairs i j d before within (same_item_number _ _ same))

pub once_counted : (cs : List ItemId) → Once number cs → AllPairs (λ (a b : ItemId). a ≢ b) cs
once_counted cs once i j d before within same =
    pairs_from_once number cs once i j d before within (ap number same)

-- ---- an item that has one more child

-- the item is this one
abbrev pub is_parent : Option ItemId → ItemId → Bool
is_parent None id = false
is_parent (Some parent) id = id.0 == parent.0

-- the children of an item, with one more where it is the parent
abbrev pub grown_ids : Option ItemId → Option ItemId → ItemId → ItemId → List ItemId → List ItemId
grown_ids parent after id i cs = if is_parent parent i then put_behind after id cs else cs

abbrev pub grown : Option ItemId → Option ItemId → ItemId → Item → Item
grown parent after id i = record i { children = grown_ids parent after id i.id i.children }

map_self : {X : Type 0} (xs : List X) → map (λ x. x) xs ≡ xs
map_self [] = refl
map_self (x ∷ xs) = ap (λ ys. x ∷ ys) (map_self xs)

pub adopted_is : (parent after : Option ItemId) (id : ItemId) (items : List Item)
    → adopted parent after id items ≡ map (grown parent after id) items
adopted_is None after id items = sym (map_self items)
adopted_is (Some parent) after id items =
    map-alike (adopting parent after id) (grown (Some parent) after id) items (λ i. choose i (i.id.0 == parent.0))
  where
    choose : (i : Item) (b : Bool)
        → (if b then record i { children = put_behind after id i.children } else i)
        ≡ record i { children = if b then put_behind after id i.children else i.children }
    choose i true = refl
    choose i false = refl

-- where one is found by tests that agree
pub find_where : {X : Type 0} (p q : X → Bool) (xs : List X) → AllByRecursion (λ x. p x ≡ q x) xs
    → find p xs ≡ find q xs
find_where p q [] alike = refl
find_where p q (x ∷ xs) alike = rw (alike.0, find_where p q xs alike.1) refl

module _ (parent after : Option ItemId) (id : ItemId) where
  abbrev f : Item → Item
  f = grown parent after id

  -- ---- parents

  has_still : (other : ItemId) → (id.0 == other.0) ≡ false → (i : Item) → has_child other (f i) ≡ has_child other i
  has_still other apart i = choose (is_parent parent i.id)
    where
      choose : (b : Bool)
          → is_among other (if b then put_behind after id i.children else i.children) ≡ has_child other i
      choose true = among_put other after id i.children ∙ ap (λ (c : Bool). c || has_child other i) apart
      choose false = refl

  has_new : (i : Item) → has_child id i ≡ false → has_child id (f i) ≡ is_parent parent i.id
  has_new i none = choose (is_parent parent i.id)
    where
      choose : (b : Bool) → is_among id (if b then put_behind after id i.children else i.children) ≡ b
      choose true =
          among_put id after id i.children ∙ ap (λ (c : Bool). c || has_child id i) (eq-eqb id.0 id.0 refl)
      choose false = none

  id_still : (o : Option Item) → option_map (λ (i : Item). i.id) (option_map f o) ≡ option_map (λ (i : Item). i.id) o
  id_still None = refl
  id_still (Some i) = refl

  -- the parents of others are those of before
  pub parent_still : (items : List Item) (other : ItemId) → (id.0 == other.0) ≡ false
      → parent_of (map f items) other ≡ parent_of items other
  parent_still items other apart =
      ap (option_map (λ (i : Item). i.id)) (find-map (has_child other) f items)
      ∙ id_still (find (λ (i : Item). has_child other (f i)) items)
      ∙ ap (option_map (λ (i : Item). i.id))
      (find-alike (λ (i : Item). has_child other (f i)) (has_child other) items (has_still other apart))

  none_has : (items : List Item) → is_among id (child_ids items) ≡ false
      → AllByRecursion (λ (i : Item). has_child id i ≡ false) items
  none_has items none = none_pass (has_child id) items (any_child id items ∙ none)

  -- the new child has its parent
  pub parent_new : (items : List Item) → is_among id (child_ids items) ≡ false
      → parent_of (map f items) id ≡ option_map (λ (i : Item). i.id) (find (λ (i : Item). is_parent parent i.id) items)
  parent_new items none =
      ap (option_map (λ (i : Item). i.id)) (find-map (has_child id) f items)
      ∙ id_still (find (λ (i : Item). has_child id (f i)) items)
      ∙ ap (option_map (λ (i : Item). i.id))
      (find_where (λ (i : Item). has_child id (f i)) (λ (i : Item). is_parent parent i.id) items
      (weaker (λ (i : Item). has_child id i ≡ false) (λ (i : Item). has_child id (f i) ≡ is_parent parent i.id) items
      has_new (none_has items none)))

  -- ---- what is there

  pub item_still : (items : List Item) (other : ItemId)
      → item_at (map f items) other ≡ option_map f (item_at items other)
  item_still items other = find-map (λ (i : Item). i.id.0 == other.0) f items

  pub there_still : (items : List Item) (other : ItemId) → has_item (map f items) other ≡ has_item items other
  there_still items other = list_any-map (λ (i : Item). i.id.0 == other.0) f items

  -- the children of an item, with one more where it is the parent
  pub children_grown : (items : List Item) (other : ItemId) → has_item items other ≡ true
      → children_of (map f items) other ≡ grown_ids parent after id other (children_of items other)
  children_grown items other there =
      let found = found_of (λ (i : Item). i.id.0 == other.0) items there in
      let i : Item = found.0 in
      let here : item_at items other ≡ Some i = found.1 in
      let same : i.id ≡ other =
      same_item i.id other (found_passes (λ (j : Item). j.id.0 == other.0) items i here) in
      rw (item_still items other, here) (ap (λ (c : ItemId). grown_ids parent after id c i.children) same)

  pub references_still : (items : List Item) (page : PageId) → references (map f items) page ≡ references items page
  references_still items page =
      ap (map (λ (i : Item). i.id)) (filter-map (λ (i : Item). is_page page i.page) f items)
      ∙ map-map (λ (i : Item). i.id) f (filter (λ (i : Item). is_page page i.page) items)

  -- what holds of each child holds, where it holds of the new one
  pub children_all : (P : ItemId → Type 0) (items : List Item) → P id → All (λ (i : Item). All P i.children) items
      → All (λ (i : Item). All P i.children) (map f items)
  children_all P items own all =
      All-map (λ (i : Item). All P i.children) f items
      (All-weaker (λ (i : Item). All P i.children) (λ (i : Item). All P (f i).children) (λ i each.
      choose i (is_parent parent i.id) each) items all)
    where
      choose : (i : Item) (b : Bool) → All P i.children
          → All P (if b then put_behind after id i.children else i.children)
      choose i true each =
          All-from_recursion P (put_behind after id i.children)
          (all_put P after id i.children own (recursion_from_All P i.children each))
      choose i false each = each

  -- ---- children stand once

  -- other numbers count as often as before
  others_counted : (n : ℕ) (items : List Item) → id.0 ≢ n
      → count number n (child_ids (map f items)) ≡ count number n (child_ids items)
  others_counted n [] apart = refl
  others_counted n (i ∷ items) apart =
      omega (
        arith,
        count-append number n (f i).children (child_ids (map f items)),
        count-append number n i.children (child_ids items),
        choose (is_parent parent i.id),
        others_counted n items apart,
      )
    where
      choose : (b : Bool) → count number n (if b then put_behind after id i.children else i.children)
          ≡ count number n i.children
      choose true = omega (arith, count_put n after id i.children, tick_other id.0 n apart)
      choose false = refl

  -- the new one at each that is the parent
  own_counted : (items : List Item) → AllByRecursion (λ (i : Item). has_child id i ≡ false) items
      → count number id.0 (child_ids (map f items)) ≡ count_by (λ (i : Item). is_parent parent i.id) items
  own_counted [] none = refl
  own_counted (i ∷ items) none =
      omega (
        arith,
        count-append number id.0 (f i).children (child_ids (map f items)),
        choose (is_parent parent i.id),
        own_counted items none.1,
        sum_by-cons (λ (j : Item). tick (is_parent parent j.id)) i items,
      )
    where
      choose : (b : Bool) → count number id.0 (if b then put_behind after id i.children else i.children) ≡ tick b
      choose true =
          omega (
            arith,
            count_put id.0 after id i.children,
            ap tick (eq-eqb id.0 id.0 refl),
            none_counted id i.children none.0,
          )
      choose false = none_counted id i.children none.0

  one_parent : (o : Option ItemId) (items : List Item) → IsStrictlyIncreasing (map (λ (i : Item). i.id.0) items)
      → count_by (λ (i : Item). is_parent o i.id) items ≤ 1
  one_parent None items ascending = omega (arith, nobody items)
    where
      nobody : (is : List Item) → count_by (λ (i : Item). false) is ≡ 0
      nobody [] = refl
      nobody (i ∷ is) = omega (arith, sum_by-cons (λ (j : Item). tick false) i is, nobody is)
  one_parent (Some p) items ascending =
      once_from_pairs (λ (i : Item). i.id.0) items
      (AllPairs-from_map (λ m n. m ≢ n) (λ (i : Item). i.id.0) items
      (λ i j d before within same.
      omega (
        arith,
        same,
        AllPairs-from_increasing (map (λ (i : Item). i.id.0) items) ascending i j d before within,
      ))) p.0

  pub once_grown : (items : List Item) → IsStrictlyIncreasing (map (λ (i : Item). i.id.0) items)
      → is_among id (child_ids items) ≡ false → AllPairs (λ (a b : ItemId). a ≢ b) (child_ids items)
      → AllPairs (λ (a b : ItemId). a ≢ b) (child_ids (map f items))
  once_grown items ascending none pairs =
      once_counted (child_ids (map f items)) (λ n. elim (cases_eq id.0 n) [
        | inl same ↦
            subst (λ m. count number m (child_ids (map f items)) ≤ 1) same
            (omega (arith, own_counted items (none_has items none), one_parent parent items ascending))
        | inr apart ↦
            omega (arith, others_counted n items apart, counted_once (child_ids items) pairs n)
      ])
