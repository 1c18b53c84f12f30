-- Lists, split where an element passes first.
use Rattle.std.proofs.Common.{◌≡◌, ◌∙◌, ◌∷◌, ◌++◌, ◌||◌, ◌==◌, ◌≤◌, [], ℕ, Bool, List, Some, None, ap, arith, eqb-true}
use Rattle.std.proofs.Common.{false, filter, find, get_or, if◌then◌else◌, inl, inr, not, suc}
use Rattle.std.proofs.lemmas.Bool.{cases_Bool, or_right, true≢false}
use Rattle.std.proofs.lemmas.List.Elements.{recursion_from_All}
use Rattle.std.specs.List.Sorted.{IsPermutation}
use Rattle.std.proofs.lemmas.List.Sorted.{All-permutation}
use Rattle.pl_base.proofs.LookUps.{any_none, none_at}
use Rattle.std.proofs.Common.{refl, sym, true}
use Rattle.std.specs.List.{AllByRecursion, AllPairs, list_any}
use Rattle.pl_base.specs.declared.id.ItemId.{ItemId}
use Rattle.pl_base.specs.declared.id.VisitId.{VisitId}
use Rattle.pl_base.specs.Rows.{first_id, id_behind}
use Rattle.pl_base.specs.Store.{Visit}
use Rattle.pl_base.specs.Tree.{first_item, item_behind}
use Rattle.pl_base.proofs.KeyCounts.{count, pairs_from_once}
use Rattle.pl_base.proofs.ListLaws.{all_stay, weaker}
use Rattle.pl_base.proofs.Truths.{no_test}
use Rattle.pl_record.proofs.NamedSlots.{found_of}

pub record Split {X : Type 0} (test : X → Bool) (xs : List X) : Type 0 where
  pub front : List X
  pub element : X
  pub rest : List X
  pub whole : xs ≡ front ++ element ∷ rest
  pub passes : test element ≡ true
  pub none : AllByRecursion (λ y. test y ≡ false) front

pub split : {X : Type 0} (test : X → Bool) (xs : List X) → list_any test xs ≡ true → Split test xs
split test [] some = absurd (cc)
split {X} test (x ∷ xs) some = choose (test x) refl some (split test xs)
  where
    choose : (b : Bool) → test x ≡ b → (b || list_any test xs) ≡ true
        → (list_any test xs ≡ true → Split test xs) → Split test (x ∷ xs)
    choose true is some later =
        record { front = []; element = x; rest = xs; whole = refl; passes = is; none = tt }
    choose false is some later =
        let s = later some in
        record {
          front = x ∷ s.front;
          element = s.element;
          rest = s.rest;
          whole = ap (λ (ys : List X). x ∷ ys) s.whole;
          passes = s.passes;
          none = (is, s.none);
        }

pub visit_behind : (id : VisitId) (front : List Visit) (v : Visit) (rest : List Visit)
    → AllByRecursion (λ (w : Visit). (w.id.0 == id.0) ≡ false) front → (v.id.0 == id.0) ≡ true
    → id_behind id (front ++ v ∷ rest) ≡ first_id rest
visit_behind id [] v rest none is = ap (λ b. if b then first_id rest else id_behind id rest) is
visit_behind id (w ∷ front) v rest none is =
    ap (λ b. if b then first_id (front ++ v ∷ rest) else id_behind id (front ++ v ∷ rest)) none.0
    ∙ visit_behind id front v rest none.1 is

pub behind_item : (id : ItemId) (front : List ItemId) (c : ItemId) (rest : List ItemId)
    → AllByRecursion (λ (d : ItemId). (d.0 == id.0) ≡ false) front → (c.0 == id.0) ≡ true
    → item_behind id (front ++ c ∷ rest) ≡ first_item rest
behind_item id [] c rest none is = ap (λ b. if b then first_item rest else item_behind id rest) is
behind_item id (d ∷ front) c rest none is =
    ap (λ b. if b then first_item (front ++ c ∷ rest) else item_behind id (front ++ c ∷ rest)) none.0
    ∙ behind_item id front c rest none.1 is

-- ---- the only one that passes, and the others

pub record Only {X : Type 0} (test : X → Bool) (xs : List X) (x : X) : Type 0 where
  pub front : List X
  pub back : List X
  pub whole : xs ≡ front ++ x ∷ back
  pub others : filter (λ y. not (test y)) xs ≡ front ++ back

pub only : {X : Type 0} (test : X → Bool) (xs : List X) (x : X) → AllPairs (λ a b. test a ≡ true → test b ≡ false) xs
    → find test xs ≡ Some x → Only test xs x
only test [] x once found = absurd (cc)
only {X} test (y ∷ ys) x once found =
    choose (test y) refl found
    (only test ys x (λ i j d before within. once (suc i) (suc j) d (omega arith) (omega arith)))
  where
    choose : (b : Bool) → test y ≡ b → (if b then Some y else find test ys) ≡ Some x
        → (find test ys ≡ Some x → Only test ys x) → Only test (y ∷ ys) x
    choose true passes here rest =
        let same : y ≡ x = cc in
        record {
          front = [];
          back = ys;
          whole = ap (λ z. z ∷ ys) same;
          others =
              ap (λ b. if not b then y ∷ filter (λ z. not (test z)) ys else filter (λ z. not (test z)) ys) passes
              ∙ all_stay (λ z. not (test z)) ys
              (weaker (λ z. test z ≡ false) (λ z. not (test z) ≡ true) ys (λ z fails. ap not fails)
              (recursion_from_All (λ z. test z ≡ false) ys
              (λ k d within. once 0 (suc k) d (omega arith) (omega arith) passes)));
        }
    choose false fails here rest =
        let s = rest here in
        record {
          front = y ∷ s.front;
          back = s.back;
          whole = ap (λ (zs : List X). y ∷ zs) s.whole;
          others =
              ap (λ b. if not b then y ∷ filter (λ z. not (test z)) ys else filter (λ z. not (test z)) ys) fails
              ∙ ap (λ (zs : List X). y ∷ zs) s.others;
        }

-- those with one number are one, where their slots tell so
pub only_slot : {X : Type 0} (key slot : X → ℕ) (n : ℕ) (xs : List X) (x : X) → ((m : ℕ) → count slot m xs ≤ 1)
    → ((a b : X) → key a ≡ key b → slot a ≡ slot b) → find (λ y. key y == n) xs ≡ Some x
    → Only (λ y. key y == n) xs x
only_slot key slot n xs x few same found =
    only (λ y. key y == n) xs x
    (λ i j d before within passes.
    no_test (key (get_or xs j d) == n) (λ also.
    pairs_from_once slot xs few i j d before within
    (same (get_or xs i d) (get_or xs j d)
    (eqb-true (key (get_or xs i d)) n passes ∙ sym (eqb-true (key (get_or xs j d)) n also))))) found

-- ---- what passes among some

-- one that is found, and passes another test, is among those that pass it
pub any_kept : {X : Type 0} (p q : X → Bool) (xs : List X) (x : X) → find p xs ≡ Some x → q x ≡ true
    → list_any p (filter q xs) ≡ true
any_kept p q [] x found passes = absurd (cc)
any_kept {X} p q (y ∷ ys) x found passes = choose (p y) refl found (any_kept p q ys x)
  where
    more : (b : Bool) → list_any p (filter q ys) ≡ true → list_any p (if b then y ∷ filter q ys else filter q ys) ≡ true
    more true any = or_right (p y) (list_any p (filter q ys)) any
    more false any = any

    choose : (b : Bool) → p y ≡ b → (if b then Some y else find p ys) ≡ Some x
        → (find p ys ≡ Some x → q x ≡ true → list_any p (filter q ys) ≡ true) → list_any p (filter q (y ∷ ys)) ≡ true
    choose true is here rest =
        let same : y ≡ x = cc in
        let there : q y ≡ true = ap q same ∙ passes in
        ap (λ b. list_any p (if b then y ∷ filter q ys else filter q ys)) there
        ∙ ap (λ b. b || list_any p (filter q ys)) is
    choose false is here rest = more (q y) (rest here passes)

pub not_there : {X : Type 0} (test : X → Bool) (xs : List X) → find test xs ≡ None → list_any test xs ≡ false
not_there test xs none = elim (cases_Bool (list_any test xs)) [
  | inl some ↦
      let found = found_of test xs some in
      let never : None ≡ Some found.0 = sym none ∙ found.1 in
      absurd (cc)
  | inr none_passes ↦ none_passes
]

-- some that are the same in another order
pub any_permuted : {X : Type 0} (test : X → Bool) (xs ys : List X) → IsPermutation xs ys → list_any test ys ≡ true
    → list_any test xs ≡ true
any_permuted test xs ys same any = elim (cases_Bool (list_any test xs)) [
  | inl some ↦ some
  | inr nothing ↦
      absurd (true≢false (sym any
      ∙ any_none test ys
      (recursion_from_All (λ x. test x ≡ false) ys
      (All-permutation (λ x. test x ≡ false) xs ys same (none_at test xs nothing)))))
]
