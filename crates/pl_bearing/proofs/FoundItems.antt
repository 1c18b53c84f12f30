-- What is found in lists: in front of others, among those that stay, and by ids.
use Rattle.std.proofs.Common.{◌≡◌, ◌∙◌, ◌++◌, Bool, true, false, List, [], ◌∷◌}
use Rattle.std.proofs.Common.{Option, Some, None, ap, filter, find, if◌then◌else◌, refl, sym}
use Rattle.std.specs.List.{AllByRecursion}
use Rattle.std.specs.Option.{option_map}
use Rattle.std.proofs.lemmas.Bool.{both_ways}
use Rattle.std.proofs.lemmas.List.{append-nil}
use Rattle.std.proofs.lemmas.List.Elements.{filter-append}
use Rattle.std.proofs.lemmas.Option.{same_Some}
use Rattle.pl_base.specs.declared.id.ItemId.{ItemId}
use Rattle.pl_base.specs.Store.{Item}
use Rattle.pl_base.specs.Tree.{has_child, item_at, parent_of}
use Rattle.pl_base.proofs.Among.{In, at_in, from_found}
use Rattle.pl_base.proofs.ItemLookUps.{same_item_number}
use Rattle.pl_base.proofs.LookUps.{none_kept}

-- ---- elements in front of others that do not pass

module _ {X : Type 0} (test : X → Bool) where
  pub find_front : (xs ys : List X) → AllByRecursion (λ y. test y ≡ false) ys → find test (xs ++ ys) ≡ find test xs
  find_front [] [] fail = refl
  find_front [] (y ∷ ys) fail = rw fail.0 (find_front [] ys fail.1)
  find_front (x ∷ xs) ys fail = ap (λ (o : Option X). if test x then Some x else o) (find_front xs ys fail)

  pub filter_front : (xs ys : List X) → AllByRecursion (λ y. test y ≡ false) ys
      → filter test (xs ++ ys) ≡ filter test xs
  filter_front xs ys fail =
      filter-append test xs ys ∙ ap (λ (zs : List X). filter test xs ++ zs) (none_kept test ys fail)
      ∙ append-nil (filter test xs)

-- ---- lists without elements that do not pass

module _ {X : Type 0} (stays test : X → Bool) where
  pub find_among : (xs : List X) → AllByRecursion (λ x. test x ≡ true → stays x ≡ true) xs
      → find test (filter stays xs) ≡ find test xs
  find_among [] all = refl
  find_among (x ∷ xs) all = choose (stays x) (test x) refl refl (find_among xs all.1)
    where
      choose : (b c : Bool) → stays x ≡ b → test x ≡ c → find test (filter stays xs) ≡ find test xs
          → find test (if b then x ∷ filter stays xs else filter stays xs) ≡ (if c then Some x else find test xs)
      choose true c stay pass rest = rw pass (ap (λ (o : Option X). if c then Some x else o) rest)
      choose false true gone pass rest = absurd (both_ways (stays x) gone (all.0 pass))
      choose false false gone pass rest = rest

  pub filter_among : (xs : List X) → AllByRecursion (λ x. test x ≡ true → stays x ≡ true) xs
      → filter test (filter stays xs) ≡ filter test xs
  filter_among [] all = refl
  filter_among (x ∷ xs) all = choose (stays x) (test x) refl refl (filter_among xs all.1)
    where
      choose : (b c : Bool) → stays x ≡ b → test x ≡ c → filter test (filter stays xs) ≡ filter test xs
          → filter test (if b then x ∷ filter stays xs else filter stays xs)
          ≡ (if c then x ∷ filter test xs else filter test xs)
      choose true c stay pass rest =
          rw pass (ap (λ (ys : List X). if c then x ∷ ys else ys) rest)
      choose false true gone pass rest = absurd (both_ways (stays x) gone (all.0 pass))
      choose false false gone pass rest = rest

-- ---- items by their ids

-- each item is found by its id
abbrev pub AreFound : List Item → Type 0
AreFound items = AllByRecursion (λ (i : Item). item_at items i.id ≡ Some i) items

pub at_its_id : (items : List Item) (i : Item) → AreFound items → In i items → item_at items i.id ≡ Some i
at_its_id items i found there = at_in (λ (j : Item). item_at items j.id ≡ Some j) items i found there

-- so items with one id are one
pub one_item_at : (items : List Item) (id : ItemId) (i : Item) → AreFound items → In i items → i.id.0 ≡ id.0
    → item_at items id ≡ Some i
one_item_at items id i found there same =
    ap (item_at items) (sym (same_item_number i.id id same)) ∙ at_its_id items i found there

-- the parent is there, and has the child
pub parent_there : (items : List Item) (c p : ItemId) → parent_of items c ≡ Some p
    → (i : Item) × In i items × (i.id ≡ p) × (has_child c i ≡ true)
parent_there items c p is = choose (find (has_child c) items) refl is
  where
    choose : (o : Option Item) → find (has_child c) items ≡ o → option_map (λ (i : Item). i.id) o ≡ Some p
        → (i : Item) × In i items × (i.id ≡ p) × (has_child c i ≡ true)
    choose None found is = absurd (cc)
    choose (Some i) found is =
        let r = from_found (has_child c) items i found in
        (i, r.0, same_Some i.id p is, r.1)
