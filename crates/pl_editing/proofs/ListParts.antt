-- Lists by their parts, and lists of which no member passes a test.
use Rattle.std.proofs.Common.{◌≡◌, ◌+◌, ◌++◌, ℕ, All, Bool, false, List, [], ◌∷◌, ap, arith, count_by}
use Rattle.std.proofs.Common.{get_or, if◌then◌else◌, length, refl, subst, suc}
use Rattle.std.specs.List.{AllByRecursion, AllPairs}
use Rattle.std.proofs.lemmas.List.{get_or-append-add, get_or_append_left, length-append}
use Rattle.std.proofs.lemmas.List.Elements.{All-append, All-from_recursion, recursion_from_All}
use Rattle.std.proofs.lemmas.List.Kept.{AllPairs-cons}
use Rattle.std.proofs.lemmas.List.Sums.{sum_by-cons}

-- ---- parts

pub left : {X : Type 0} (P : X → Type 0) (xs ys : List X) → All P (xs ++ ys) → All P xs
left P xs ys all k d within =
    subst P (get_or_append_left xs ys d k within) (all k d (omega (arith, length-append xs ys)))

pub right : {X : Type 0} (P : X → Type 0) (xs ys : List X) → All P (xs ++ ys) → All P ys
right P xs ys all k d within =
    subst P (get_or-append-add xs ys k d) (all (length xs + k) d (omega (arith, length-append xs ys)))

-- ---- none

pub none_counted : {X : Type 0} (test : X → Bool) (xs : List X) → AllByRecursion (λ x. test x ≡ false) xs
    → count_by test xs ≡ 0
none_counted test [] all = refl
none_counted {X} test (x ∷ xs) all =
    omega (
      arith,
      sum_by-cons (λ (y : X). if test y then 1 else 0) x xs,
      ap {B = ℕ} (λ (b : Bool). if b then 1 else 0) all.0,
      none_counted test xs all.1,
    )

-- ---- pairs

module _ {X : Type 0} (R : X → X → Type 0) where
  later : (x : X) (xs : List X) → AllPairs R (x ∷ xs) → All (R x) xs
  later x xs pairs k d within = pairs 0 (suc k) d (omega arith) (omega (arith, within))

  others : (x : X) (xs : List X) → AllPairs R (x ∷ xs) → AllPairs R xs
  others x xs pairs i j d before within = pairs (suc i) (suc j) d (omega (arith, before)) (omega (arith, within))

  across : (xs ys : List X) → AllPairs R (xs ++ ys) → AllByRecursion (λ x. All (R x) ys) xs
  across [] ys pairs = tt
  across (x ∷ xs) ys pairs =
      (right (R x) xs ys (later x (xs ++ ys) pairs), across xs ys (others x (xs ++ ys) pairs))

  pairs_left : (xs ys : List X) → AllPairs R (xs ++ ys) → AllPairs R xs
  pairs_left [] ys pairs = λ i j d before within. absurd (omega (arith, within))
  pairs_left (x ∷ xs) ys pairs =
      AllPairs-cons R x xs (left (R x) xs ys (later x (xs ++ ys) pairs))
      (pairs_left xs ys (others x (xs ++ ys) pairs))

  pairs_right : (xs ys : List X) → AllPairs R (xs ++ ys) → AllPairs R ys
  pairs_right [] ys pairs = pairs
  pairs_right (x ∷ xs) ys pairs = pairs_right xs ys (others x (xs ++ ys) pairs)

  pairs_append : (xs ys : List X) → AllPairs R xs → AllPairs R ys → AllByRecursion (λ x. All (R x) ys) xs
      → AllPairs R (xs ++ ys)
  pairs_append [] ys first second both = second
  pairs_append (x ∷ xs) ys first second both =
      AllPairs-cons R x (xs ++ ys) (All-append (R x) xs ys (later x xs first) both.0)
      (pairs_append xs ys (others x xs first) second both.1)

  -- pairs in either order
  pub swapped : (xs ys : List X) → ((x y : X) → R x y → R y x) → AllPairs R (xs ++ ys) → AllPairs R (ys ++ xs)
  swapped xs ys turn pairs =
      let both : All (λ x. All (R x) ys) xs = All-from_recursion (λ x. All (R x) ys) xs (across xs ys pairs) in
      pairs_append ys xs (pairs_right xs ys pairs) (pairs_left xs ys pairs)
      (recursion_from_All (λ y. All (R y) xs) ys
      (λ j e inside k d within. turn (get_or xs k d) (get_or ys j e) (both k d within j e inside)))
