-- Laws of the ancestors of items, and of what lies in an item.
use Rattle.std.proofs.Common.{◌≡◌, ◌≤◌, ◌<◌, ◌+◌, ◌∙◌, ◌==◌, ◌||◌, ◌⊎◌, ℕ, Bool, true, false, List, []}
use Rattle.std.proofs.Common.{◌∷◌, Option, Some}
use Rattle.std.proofs.Common.{None, All, ap, arith, count_by, eq-eqb, find, get_or, if◌then◌else◌, inl}
use Rattle.std.proofs.Common.{inr, length, refl, subst, suc}
use Rattle.std.proofs.Common.{sym, zero}
use Rattle.std.specs.Prelude.{IsTrue}
use Rattle.std.specs.List.{AllByRecursion, list_any}
use Rattle.std.specs.Option.{option_map}
use Rattle.std.proofs.lemmas.Bool.{cases_lt, false≢true, or_cases, or_left, or_right}
use Rattle.std.proofs.lemmas.List.Elements.{All-from_recursion, recursion_from_All}
use Rattle.std.proofs.lemmas.List.Sums.{count_by-le-length, sum_by-cons}
use Rattle.pl_base.specs.declared.id.ItemId.{ItemId}
use Rattle.pl_base.specs.Good.{IsTree, child_ids}
use Rattle.pl_base.specs.Store.{Item}
use Rattle.pl_base.specs.Tree.{ancestors, has_child, has_item, lies_in, parent_of}
use Rattle.pl_base.proofs.ListLaws.{weaker}
use Rattle.pl_base.proofs.LookUps.{both, found_some}
use Rattle.pl_base.proofs.ItemLookUps.{same_item}
use Rattle.pl_base.proofs.OneParent.{IsParent, any_child, is_among, parents, root_alone}

-- ---- counts of two tests, the first of which passes no more than the second

module _ {X : Type 0} (p q : X → Bool) (within : (x : X) → p x ≡ true → q x ≡ true) where
  one_le : (x : X) → (if p x then 1 else 0) ≤ (if q x then 1 else 0)
  one_le x = choose (p x) (q x) (within x)
    where
      choose : (a b : Bool) → (a ≡ true → b ≡ true) → (if a then 1 else 0) ≤ (if b then 1 else 0)
      choose true true h = omega arith
      choose true false h = absurd (false≢true (h refl))
      choose false b h = omega arith

  pub count_le : (xs : List X) → count_by p xs ≤ count_by q xs
  count_le [] = omega arith
  count_le (x ∷ xs) =
      omega (
        arith,
        one_le x,
        sum_by-cons (λ y. if p y then 1 else 0) x xs,
        sum_by-cons (λ y. if q y then 1 else 0) x xs,
        count_le xs,
      )

  -- where as many pass both, the same pass
  pub count_same : (xs : List X) → count_by q xs ≤ count_by p xs → AllByRecursion (λ x. q x ≡ true → p x ≡ true) xs
  count_same [] few = tt
  count_same (x ∷ xs) few = (
    choose (p x) (q x) refl refl (one_le x) (omega (arith, steps.0, steps.1, count_le xs)),
    count_same xs (omega (arith, steps.0, steps.1, one_le x)),
  )
    where
      steps : (count_by p (x ∷ xs) ≡ (if p x then 1 else 0) + count_by p xs)
          × (count_by q (x ∷ xs) ≡ (if q x then 1 else 0) + count_by q xs)
      steps = (sum_by-cons (λ y. if p y then 1 else 0) x xs, sum_by-cons (λ y. if q y then 1 else 0) x xs)

      choose : (a b : Bool) → p x ≡ a → q x ≡ b → (if p x then 1 else 0) ≤ (if q x then 1 else 0)
          → (if q x then 1 else 0) ≤ (if p x then 1 else 0) → q x ≡ true → p x ≡ true
      choose true b ps qs le ge qx = ps
      choose false true ps qs le ge qx = absurd (omega (arith, rw (ps, qs) at ge))
      choose false false ps qs le ge qx = absurd (false≢true (sym qs ∙ qx))

  all_pass : (xs : List X) → length xs ≤ count_by p xs → AllByRecursion (λ x. p x ≡ true) xs
  all_pass [] full = tt
  all_pass (x ∷ xs) full =
      choose (p x) refl (sum_by-cons (λ y. if p y then 1 else 0) x xs) (all_pass xs)
    where
      choose : (b : Bool) → p x ≡ b → count_by p (x ∷ xs) ≡ (if b then 1 else 0) + count_by p xs
          → (length xs ≤ count_by p xs → AllByRecursion (λ y. p y ≡ true) xs)
          → AllByRecursion (λ y. p y ≡ true) (x ∷ xs)
      choose true is step rest = (is, rest (omega (arith, step)))
      choose false is step rest = absurd (omega (arith, step, count_by-le-length p xs))

-- ---- the way up ends

-- the way up from here is over within so many steps
abbrev ends_within : ℕ → List Item → Option ItemId → Bool
ends_within zero items None = true
ends_within zero items (Some id) = false
ends_within (suc n) items None = true
ends_within (suc n) items (Some id) = ends_within n items (parent_of items id)

ended : (n : ℕ) (items : List Item) (at : Option ItemId) → ends_within n items at ≡ true
    → ancestors (suc n) items at ≡ ancestors n items at
ended zero items None is = refl
ended zero items (Some id) is = absurd (false≢true is)
ended (suc n) items None is = refl
ended (suc n) items (Some id) is = ap (λ (rest : List ItemId). id ∷ rest) (ended n items (parent_of items id) is)

longer : (n : ℕ) (items : List Item) (at : Option ItemId) → ends_within n items at ≡ true
    → ends_within (suc n) items at ≡ true
longer zero items None is = refl
longer zero items (Some id) is = absurd (false≢true is)
longer (suc n) items None is = refl
longer (suc n) items (Some id) is = longer n items (parent_of items id) is

over : (n : ℕ) (items : List Item) → ends_within n items None ≡ true
over zero items = refl
over (suc n) items = refl

-- what has a parent is an item
pub child_there : (items : List Item) (child parent : ItemId) → IsTree items → parent_of items child ≡ Some parent
    → has_item items child ≡ true
child_there items child parent tree is = choose (find (has_child child) items) refl is
  where
    choose : (o : Option Item) → find (has_child child) items ≡ o
        → option_map (λ (i : Item). i.id) o ≡ Some parent → has_item items child ≡ true
    choose None found is = absurd (cc)
    choose (Some p) found is =
        known (child_ids items) (recursion_from_All (λ c. IsTrue (has_item items c)) (child_ids items) tree.known)
        (sym (any_child child items) ∙ found_some (has_child child) items p found)
      where
        known : (cs : List ItemId) → AllByRecursion (λ c. IsTrue (has_item items c)) cs → is_among child cs ≡ true
            → has_item items child ≡ true
        known [] all some = absurd (false≢true some)
        known (c ∷ cs) all some =
            elim (or_cases (c.0 == child.0) (is_among child cs) some) [
              | inl here ↦ subst (λ (d : ItemId). has_item items d ≡ true) (same_item c child here) all.0
              | inr there ↦ known cs all.1 there
            ]

module _ (items : List Item) (tree : IsTree items) where
  -- the way up from this item is over within so many steps
  abbrev near : ℕ → ItemId → Bool
  near n id = ends_within n items (Some id)

  abbrev near_item : ℕ → Item → Bool
  near_item n i = near n i.id

  abbrev AllNear : ℕ → Type 0
  AllNear n = AllByRecursion (λ (i : Item). near n i.id ≡ true) items

  -- the children of an item of one step less
  below : (n : ℕ) (p : Item) (c : ItemId) → IsParent items p → has_child c p ≡ true → near n p.id ≡ true
      → near (suc n) c ≡ true
  below n p c is has up =
      let at : parent_of items c ≡ Some p.id = ap (option_map (λ (i : Item). i.id)) (is c has) in
      ap (ends_within n items) at ∙ up

  all_children : (n : ℕ) (p : Item) → IsParent items p → near n p.id ≡ true
      → All (λ c. IsTrue (near (suc n) c)) p.children
  all_children n p is up k d within = below n p (get_or p.children k d) is (among p.children k d within) up
    where
      among : (cs : List ItemId) (k : ℕ) (d : ItemId) → k < length cs → is_among (get_or cs k d) cs ≡ true
      among [] k d within = absurd (omega arith)
      among (c ∷ cs) zero d within = ap (λ (b : Bool). b || is_among c cs) (eq-eqb c.0 c.0 refl)
      among (c ∷ cs) (suc k) d within =
          or_right (c.0 == (get_or cs k d).0) (is_among (get_or cs k d) cs) (among cs k d (omega arith))

  -- where no item more is near at the next step, all are
  closed : (n : ℕ)
      → AllByRecursion (λ (i : Item). near (suc n) i.id ≡ true → near n i.id ≡ true) items → AllNear n
  closed n same =
      both (λ (i : Item). near (suc n) i.id ≡ true → near n i.id ≡ true) (λ (i : Item). near (suc n) i.id ≡ true)
      (λ (i : Item). near n i.id ≡ true) items (λ i less is. less is) same
      (recursion_from_All (λ (i : Item). near (suc n) i.id ≡ true) items
      (tree.reached (near (suc n)) (ap (ends_within n items) (root_alone items tree) ∙ over n items)
      (All-from_recursion
      (λ (i : Item). IsTrue (near (suc n) i.id) → All (λ c. IsTrue (near (suc n) c)) i.children) items
      (both (λ (i : Item). near (suc n) i.id ≡ true → near n i.id ≡ true) (IsParent items)
      (λ (i : Item). IsTrue (near (suc n) i.id) → All (λ c. IsTrue (near (suc n) c)) i.children) items
      (λ i less parent up. all_children n i parent (less up)) same (parents items tree)))))

  abbrev count : ℕ → ℕ
  count n = count_by (near_item n) items

  -- each step has one item more, until all are near
  grows : (n : ℕ) → AllNear n ⊎ (n ≤ count n)
  grows zero = inr (omega arith)
  grows (suc n) =
      elim (grows n) [
        | inl all ↦
            inl (weaker (λ (i : Item). near n i.id ≡ true) (λ (i : Item). near (suc n) i.id ≡ true) items
            (λ i is. longer n items (Some i.id) is) all)
        | inr some ↦ more some (cases_lt (count n) (count (suc n)))
      ]
    where
      more : n ≤ count n → (count n < count (suc n)) ⊎ (count (suc n) ≤ count n)
          → AllNear (suc n) ⊎ (suc n ≤ count (suc n))
      more some (inl less) = inr (omega arith)
      more some (inr few) =
          inl (weaker (λ (i : Item). near n i.id ≡ true) (λ (i : Item). near (suc n) i.id ≡ true) items
          (λ i is. longer n items (Some i.id) is)
          (closed n
          (count_same (near_item n) (near_item (suc n)) (λ i is. longer n items (Some i.id) is) items few)))

  all_near : AllNear (length items)
  all_near =
      elim (grows (length items)) [
        | inl all ↦ all
        | inr full ↦
            all_pass (near_item (length items)) (near_item (length items)) (λ i is. is) items full
      ]

  near_one : (id : ItemId) → has_item items id ≡ true → near (length items) id ≡ true
  near_one id has = choose items all_near has
    where
      choose : (xs : List Item) → AllByRecursion (λ (i : Item). near (length items) i.id ≡ true) xs
          → has_item xs id ≡ true → near (length items) id ≡ true
      choose [] all has = absurd (false≢true has)
      choose (x ∷ xs) all has =
          elim (or_cases (x.id.0 == id.0) (has_item xs id) has) [
            | inl here ↦ subst (λ (c : ItemId). near (length items) c ≡ true) (same_item x.id id here) all.0
            | inr there ↦ choose xs all.1 there
          ]

  -- no item has more ancestors than there are items
  pub ends : (id : ItemId) → has_item items id ≡ true
      → ancestors (suc (length items)) items (Some id) ≡ ancestors (length items) items (Some id)
  ends id has = ended (length items) items (Some id) (near_one id has)

  -- where there are items, the way up from each id is over within as many steps
  near_any : (id : ItemId) → 0 < length items → near (length items) id ≡ true
  near_any id some = choose (length items) refl (parent_of items id) refl
    where
      choose : (n : ℕ) → n ≡ length items → (at : Option ItemId) → parent_of items id ≡ at → near n id ≡ true
      choose zero len at found = absurd (omega arith)
      choose (suc n) len None found = ap (ends_within n items) found ∙ over n items
      choose (suc n) len (Some p) found =
          subst (λ m. near m id ≡ true) (sym len) (near_one id (child_there items id p tree found))

-- ---- what lies in an item

in_more : (p : ItemId → Bool) (n : ℕ) (items : List Item) (at : Option ItemId)
    → list_any p (ancestors n items at) ≡ true → list_any p (ancestors (suc n) items at) ≡ true
in_more p zero items at some = absurd (false≢true some)
in_more p (suc n) items None some = some
in_more p (suc n) items (Some id) some =
    elim (or_cases (p id) (list_any p (ancestors n items (parent_of items id))) some) [
      | inl here ↦ or_left (p id) (list_any p (ancestors (suc n) items (parent_of items id))) here
      | inr there ↦
          or_right (p id) (list_any p (ancestors (suc n) items (parent_of items id)))
          (in_more p n items (parent_of items id) there)
    ]

pub lies_in_self : (items : List Item) (id : ItemId) → has_item items id ≡ true → lies_in items id id ≡ true
lies_in_self [] id has = absurd (false≢true has)
lies_in_self (i ∷ items) id has =
    or_left (id.0 == id.0) (list_any (λ (a : ItemId). a.0 == id.0)
    (ancestors (length items) (i ∷ items) (parent_of (i ∷ items) id))) (eq-eqb id.0 id.0 refl)

pub lies_in_child : (items : List Item) (top child parent : ItemId) → IsTree items
    → parent_of items child ≡ Some parent → lies_in items top parent ≡ true → lies_in items top child ≡ true
lies_in_child items top child parent tree is up =
    let same : ancestors (suc (length items)) items (Some child) ≡ ancestors (length items) items (Some child) =
    ends items tree child (child_there items child parent tree is) in
    ap (list_any (λ (a : ItemId). a.0 == top.0)) (sym same)
    ∙ or_right (child.0 == top.0)
    (list_any (λ (a : ItemId). a.0 == top.0) (ancestors (length items) items (parent_of items child)))
    (ap (λ (at : Option ItemId). list_any (λ (a : ItemId). a.0 == top.0) (ancestors (length items) items at)) is ∙ up)

-- what lies in an item and is not the item itself has a parent that lies in it
pub lies_in_parent : (items : List Item) (top id : ItemId) → lies_in items top id ≡ true → (id.0 == top.0) ≡ false
    → (p : ItemId) × ((parent_of items id ≡ Some p) × (lies_in items top p ≡ true))
lies_in_parent items top id is other = choose (length items) refl is
  where
    test : ItemId → Bool
    test a = a.0 == top.0

    above : (m : ℕ) → suc m ≡ length items → (at : Option ItemId) → parent_of items id ≡ at
        → list_any (λ (a : ItemId). a.0 == top.0) (ancestors m items at) ≡ true
        → (p : ItemId) × ((parent_of items id ≡ Some p) × (lies_in items top p ≡ true))
    above zero len None found some = absurd (false≢true some)
    above (suc m) len None found some = absurd (false≢true some)
    above m len (Some p) found some = (
      p,
      (
        found,
        subst (λ n. list_any (λ (a : ItemId). a.0 == top.0) (ancestors n items (Some p)) ≡ true) len
            (in_more (λ (a : ItemId). a.0 == top.0) m items (Some p) some),
      ),
    )

    choose : (n : ℕ) → n ≡ length items → list_any (λ (a : ItemId). a.0 == top.0) (ancestors n items (Some id)) ≡ true
        → (p : ItemId) × ((parent_of items id ≡ Some p) × (lies_in items top p ≡ true))
    choose zero len some = absurd (false≢true some)
    choose (suc m) len some =
        elim (or_cases (id.0 == top.0)
        (list_any (λ (a : ItemId). a.0 == top.0) (ancestors m items (parent_of items id))) some) [
          | inl here ↦ absurd (false≢true (sym other ∙ here))
          | inr there ↦ above m len (parent_of items id) refl there
        ]

-- ---- one step up at a time

-- what is met from here on up lies in the item
abbrev pub lies_at : List Item → ItemId → Option ItemId → Bool
lies_at items top at = list_any (λ (a : ItemId). a.0 == top.0) (ancestors (length items) items at)

-- how many items are met from here on up
abbrev pub left_above : List Item → Option ItemId → ℕ
left_above items at = length (ancestors (length items) items at)

none_above : (n : ℕ) (items : List Item) → ancestors n items None ≡ []
none_above zero items = refl
none_above (suc n) items = refl

pub lies_at_none : (items : List Item) (top : ItemId) → lies_at items top None ≡ false
lies_at_none items top = ap (list_any (λ (a : ItemId). a.0 == top.0)) (none_above (length items) items)

pub climbed : (items : List Item) (id : ItemId) → IsTree items → 0 < length items
    → ancestors (length items) items (Some id) ≡ id ∷ ancestors (length items) items (parent_of items id)
climbed items id tree some = sym (ended (length items) items (Some id) (near_any items tree id some))

-- at the item itself
pub lies_at_top : (items : List Item) (top id : ItemId) → IsTree items → 0 < length items → (id.0 == top.0) ≡ true
    → lies_at items top (Some id) ≡ true
lies_at_top items top id tree some is =
    ap (list_any (λ (a : ItemId). a.0 == top.0)) (climbed items id tree some)
    ∙ or_left (id.0 == top.0) (lies_at items top (parent_of items id)) is

-- at another one
pub lies_at_other : (items : List Item) (top id : ItemId) → IsTree items → 0 < length items
    → (id.0 == top.0) ≡ false → lies_at items top (Some id) ≡ lies_at items top (parent_of items id)
lies_at_other items top id tree some other =
    ap (list_any (λ (a : ItemId). a.0 == top.0)) (climbed items id tree some)
    ∙ ap (λ (b : Bool). b || lies_at items top (parent_of items id)) other

pub less_above : (items : List Item) (id : ItemId) → IsTree items → 0 < length items
    → left_above items (parent_of items id) < left_above items (Some id)
less_above items id tree some = omega (arith, ap length (climbed items id tree some))
