-- Look-ups by a number that stands once.
use Rattle.std.proofs.Common.{◌≡◌, ◌≢◌, ◌<◌, ◌++◌, ◌||◌, ◌==◌, ◌∙◌, ℕ, Bool, true, false, List, [], ◌∷◌}
use Rattle.std.proofs.Common.{None, Ok, Err, Result, is_some}
use Rattle.std.proofs.Common.{All, Option, Some, ap, arith, eq-eqb, filter, find, if◌then◌else◌, map, refl, subst, suc, sym}
use Rattle.std.specs.List.{AllByRecursion, AllPairs, list_any}
use Rattle.std.specs.List.Sorted.{IsStrictlyIncreasing}
use Rattle.std.specs.Option.{IsSome, option_map}
use Rattle.std.specs.Prelude.{IfOk}
use Rattle.std.specs.Result.{result_ok}
use Rattle.std.proofs.lemmas.Bool.{eqb-true, false≢true, ne_eqb, or_left, or_parts, or_right}
use Rattle.std.proofs.lemmas.List.Elements.{All-from_recursion, recursion_from_All}
use Rattle.std.proofs.lemmas.List.Kept.{AllPairs-from_increasing}
use Rattle.pl_base.proofs.ListLaws.{from_map, weaker}

-- ---- what holds of each

pub both : {X : Type 0} (P Q R : X → Type 0) (xs : List X) → ((x : X) → P x → Q x → R x) → AllByRecursion P xs
    → AllByRecursion Q xs → AllByRecursion R xs
both P Q R [] join ps qs = tt
both P Q R (x ∷ xs) join ps qs = (join x ps.0 qs.0, both P Q R xs join ps.1 qs.1)

-- of a list, where it holds of a longer one
pub front : {X : Type 0} (P : X → Type 0) (xs ys : List X) → AllByRecursion P (xs ++ ys) → AllByRecursion P xs
front P [] ys all = tt
front P (x ∷ xs) ys all = (all.0, front P xs ys all.1)

pub rest_of : {X : Type 0} (P : X → Type 0) (xs ys : List X) → AllByRecursion P (xs ++ ys) → AllByRecursion P ys
rest_of P [] ys all = all
rest_of P (x ∷ xs) ys all = rest_of P xs ys all.1

pub part : {X : Type 0} (P : X → Type 0) (front : List X) (x : X) (rest : List X)
    → AllByRecursion P (front ++ x ∷ rest) → P x
part P front x rest all = (rest_of P front (x ∷ rest) all).0

-- of those that pass a test
pub where_passes : {X : Type 0} (P : X → Type 0) (test : X → Bool) (xs : List X)
    → AllByRecursion (λ x. test x ≡ true → P x) xs → AllByRecursion P (filter test xs)
where_passes P test [] all = tt
where_passes P test (x ∷ xs) all = choose (test x) refl (where_passes P test xs all.1)
  where
    choose : (b : Bool) → test x ≡ b → AllByRecursion P (filter test xs)
        → AllByRecursion P (if b then x ∷ filter test xs else filter test xs)
    choose true is rest = (all.0 is, rest)
    choose false is rest = rest

pub where_passed : {X : Type 0} (P : X → Type 0) (test : X → Bool) (xs : List X) → AllByRecursion P (filter test xs)
    → AllByRecursion (λ x. test x ≡ true → P x) xs
where_passed P test [] all = tt
where_passed P test (x ∷ xs) all = choose (test x) refl all (where_passed P test xs)
  where
    choose : (b : Bool) → test x ≡ b → AllByRecursion P (if b then x ∷ filter test xs else filter test xs)
        → (AllByRecursion P (filter test xs) → AllByRecursion (λ y. test y ≡ true → P y) xs)
        → AllByRecursion (λ y. test y ≡ true → P y) (x ∷ xs)
    choose true is each rest = (λ _. each.0, rest each.1)
    choose false is each rest = (λ passes. absurd (false≢true (sym is ∙ passes)), rest each)

-- none passes a test that fails of all together
pub none_pass : {X : Type 0} (test : X → Bool) (xs : List X) → list_any test xs ≡ false
    → AllByRecursion (λ x. test x ≡ false) xs
none_pass test [] none = tt
none_pass test (x ∷ xs) none =
    let parts : (test x ≡ false) × (list_any test xs ≡ false) = or_parts (test x) (list_any test xs) none in
    (parts.0, none_pass test xs parts.1)

pub none_at : {X : Type 0} (test : X → Bool) (xs : List X) → list_any test xs ≡ false → All (λ x. test x ≡ false) xs
none_at test xs none = All-from_recursion (λ x. test x ≡ false) xs (none_pass test xs none)

pub any_none : {X : Type 0} (test : X → Bool) (xs : List X) → AllByRecursion (λ x. test x ≡ false) xs
    → list_any test xs ≡ false
any_none test [] all = refl
any_none test (x ∷ xs) all = ap (λ b. b || list_any test xs) all.0 ∙ any_none test xs all.1

pub none_kept : {X : Type 0} (test : X → Bool) (xs : List X) → AllByRecursion (λ x. test x ≡ false) xs
    → filter test xs ≡ []
none_kept test [] all = refl
none_kept test (x ∷ xs) all = rw all.0 (none_kept test xs all.1)

-- ---- what is found

pub find-alike : {X : Type 0} (p q : X → Bool) (xs : List X) → ((x : X) → p x ≡ q x) → find p xs ≡ find q xs
find-alike p q [] alike = refl
find-alike p q (x ∷ xs) alike = rw (alike x, find-alike p q xs alike) refl

pub found_holds : {X : Type 0} (P : X → Type 0) (test : X → Bool) (xs : List X) (x : X) → AllByRecursion P xs
    → find test xs ≡ Some x → P x
found_holds P test [] x all found = absurd (cc)
found_holds P test (y ∷ ys) x all found = choose (test y) found (found_holds P test ys x all.1)
  where
    choose : (b : Bool) → (if b then Some y else find test ys) ≡ Some x → (find test ys ≡ Some x → P x) → P x
    choose true here rest =
        let same : y ≡ x = cc in
        subst P same all.0
    choose false here rest = rest here

pub found_passes : {X : Type 0} (test : X → Bool) (xs : List X) (x : X) → find test xs ≡ Some x → test x ≡ true
found_passes test [] x found = absurd (cc)
found_passes test (y ∷ ys) x found = choose (test y) refl found (found_passes test ys x)
  where
    choose : (b : Bool) → test y ≡ b → (if b then Some y else find test ys) ≡ Some x
        → (find test ys ≡ Some x → test x ≡ true) → test x ≡ true
    choose true is here rest =
        let same : y ≡ x = cc in
        subst (λ z. test z ≡ true) same is
    choose false is here rest = rest here

-- where one is found, one passes
pub found_some : {X : Type 0} (test : X → Bool) (xs : List X) (x : X) → find test xs ≡ Some x → list_any test xs ≡ true
found_some test [] x found = absurd (cc)
found_some test (y ∷ ys) x found = choose (test y) found (found_some test ys x)
  where
    choose : (b : Bool) → (if b then Some y else find test ys) ≡ Some x
        → (find test ys ≡ Some x → list_any test ys ≡ true) → (b || list_any test ys) ≡ true
    choose true here rest = refl
    choose false here rest = rest here

-- so where something is told of it
pub there_told : {A B : Type 0} (test : A → Bool) (f : A → B) (xs : List A) (y : B)
    → Some y ≡ option_map f (find test xs) → list_any test xs ≡ true
there_told test f [] y told = absurd (cc)
there_told test f (x ∷ xs) y told = choose (test x) told (there_told test f xs y)
  where
    choose : (b : Bool) → Some y ≡ option_map f (if b then Some x else find test xs)
        → (Some y ≡ option_map f (find test xs) → list_any test xs ≡ true) → (b || list_any test xs) ≡ true
    choose true here rest = refl
    choose false here rest = rest here

pub there_some : {A B : Type 0} (test : A → Bool) (f : A → B) (xs : List A) (told : Option B) (some : Bool)
    → told ≡ option_map f (find test xs) → some ≡ is_some told → some ≡ true → list_any test xs ≡ true
there_some test f xs None some is of holds = absurd (false≢true (sym of ∙ holds))
there_some test f xs (Some y) some is of holds = there_told test f xs y is

pub there_ok : {A B E : Type 0} (test : A → Bool) (f : A → B) (xs : List A) (told : Option B) (result : Result B E)
    → told ≡ option_map f (find test xs) → told ≡ result_ok result → IfOk result (λ _. list_any test xs ≡ true)
there_ok test f xs told (Ok y) is ok = there_told test f xs y (sym ok ∙ is)
there_ok test f xs told (Err e) is ok = tt

-- where none is found, none passes
pub none_found : {X : Type 0} (test : X → Bool) (xs : List X) → find test xs ≡ None
    → AllByRecursion (λ x. test x ≡ false) xs
none_found test [] none = tt
none_found test (x ∷ xs) none = choose (test x) refl none (none_found test xs)
  where
    choose : (b : Bool) → test x ≡ b → (if b then Some x else find test xs) ≡ None
        → (find test xs ≡ None → AllByRecursion (λ y. test y ≡ false) xs)
        → AllByRecursion (λ y. test y ≡ false) (x ∷ xs)
    choose true is here rest = absurd (cc)
    choose false is here rest = (is, rest here)

-- what is found passes another test
pub found_any : {X : Type 0} (p q : X → Bool) (xs : List X) (x : X) → find p xs ≡ Some x → q x ≡ true
    → list_any q xs ≡ true
found_any p q [] x found passes = absurd (cc)
found_any {X} p q (y ∷ ys) x found passes = choose (p y) found (λ h. found_any p q ys x h passes)
  where
    choose : (b : Bool) → (if b then Some y else find p ys) ≡ Some x
        → (find p ys ≡ Some x → list_any q ys ≡ true) → (q y || list_any q ys) ≡ true
    choose true here rest =
        let same : y ≡ x = cc in
        or_left (q y) (list_any q ys) (ap q same ∙ passes)
    choose false here rest = or_right (q y) (list_any q ys) (rest here)

-- one behind is not found before one in front
pub find_push : {X : Type 0} (test : X → Bool) (xs ys : List X) → list_any test xs ≡ true
    → find test (xs ++ ys) ≡ find test xs
find_push test [] ys some = absurd (cc)
find_push test (x ∷ xs) ys some = choose (test x) some (find_push test xs ys)
  where
    choose : (b : Bool) → (b || list_any test xs) ≡ true
        → (list_any test xs ≡ true → find test (xs ++ ys) ≡ find test xs)
        → (if b then Some x else find test (xs ++ ys)) ≡ (if b then Some x else find test xs)
    choose true here rest = refl
    choose false here rest = rest here

-- ---- numbers that stand once

abbrev pub Apart : {X : Type 0} → (X → ℕ) → List X → Type 0
Apart key [] = Unit {0}
Apart key (x ∷ xs) = AllByRecursion (λ y. key y ≢ key x) xs × Apart key xs

pub apart_ascending : {X : Type 0} (key : X → ℕ) (xs : List X) → AllPairs (λ m n. m < n) (map key xs) → Apart key xs
apart_ascending key [] pairs = tt
apart_ascending key (x ∷ xs) pairs = (
  weaker (λ y. key x < key y) (λ y. key y ≢ key x) xs (λ y above same. omega arith)
      (from_map (λ n. key x < n) key xs
      (recursion_from_All (λ n. key x < n) (map key xs)
      (λ k d within. pairs 0 (suc k) d (omega arith) (omega arith)))),
  apart_ascending key xs (λ i j d before within. pairs (suc i) (suc j) d (omega arith) (omega arith)),
)

pub apart_increasing : {X : Type 0} (key : X → ℕ) (xs : List X) → IsStrictlyIncreasing (map key xs) → Apart key xs
apart_increasing key xs up = apart_ascending key xs (AllPairs-from_increasing (map key xs) up)

-- each is found by its own number
pub found_self : {X : Type 0} (key : X → ℕ) (xs : List X) → Apart key xs
    → AllByRecursion (λ x. find (λ y. key y == key x) xs ≡ Some x) xs
found_self key [] apart = tt
found_self key (x ∷ xs) apart = (
  rw (eq-eqb (key x) (key x) refl) refl,
  both (λ y. key y ≢ key x) (λ y. find (λ z. key z == key y) xs ≡ Some y)
      (λ y. find (λ z. key z == key y) (x ∷ xs) ≡ Some y) xs
      (λ y other found. rw (ne_eqb (key x) (key y) (λ same. other (sym same))) found) apart.0
      (found_self key xs apart.1),
)

-- the one that is found is the only one with its number
pub found_one : {X : Type 0} (key : X → ℕ) (n : ℕ) (xs : List X) (x : X) → Apart key xs
    → find (λ y. key y == n) xs ≡ Some x → AllByRecursion (λ y. (key y == n) ≡ true → y ≡ x) xs
found_one key n [] x apart found = tt
found_one key n (y ∷ ys) x apart found = choose (key y == n) refl found (found_one key n ys x apart.1)
  where
    choose : (b : Bool) → (key y == n) ≡ b → (if b then Some y else find (λ z. key z == n) ys) ≡ Some x
        → (find (λ z. key z == n) ys ≡ Some x → AllByRecursion (λ z. (key z == n) ≡ true → z ≡ x) ys)
        → AllByRecursion (λ z. (key z == n) ≡ true → z ≡ x) (y ∷ ys)
    choose true is here rest =
        let same : y ≡ x = cc in (
          λ _. same,
          weaker (λ z. key z ≢ key y) (λ z. (key z == n) ≡ true → z ≡ x) ys
              (λ z other at. absurd (other (eqb-true (key z) n at ∙ sym (eqb-true (key y) n is)))) apart.0,
        )
    choose false is here rest = (λ at. absurd (false≢true (sym is ∙ at)), rest here)

-- one is found where there is one
pub found_where : {A B : Type 0} (p : A → Bool) (f : A → B) (xs : List A) (found : Option B) → list_any p xs ≡ true
    → found ≡ option_map f (find p xs) → IsSome found
found_where p f [] found some is = absurd (cc)
found_where p f (x ∷ xs) found some is = choose (p x) some is (found_where p f xs found)
  where
    choose : (b : Bool) → (b || list_any p xs) ≡ true → found ≡ option_map f (if b then Some x else find p xs)
        → (list_any p xs ≡ true → found ≡ option_map f (find p xs) → IsSome found) → IsSome found
    choose true here is rest = rw is refl
    choose false here is rest = rest here is
