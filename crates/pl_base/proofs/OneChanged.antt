-- A sum over a list in which one element is changed, or goes.
use Rattle.std.proofs.Common.{◌≡◌, ◌+◌, ◌==◌, ℕ, All, Bool, true, false, List, [], ◌∷◌, Some, ap, arith}
use Rattle.std.proofs.Common.{filter, find, get_or, if◌then◌else◌, map, not, refl, subst, suc}
use Rattle.std.specs.List.{AllByRecursion, AllPairs, sum_by}
use Rattle.std.specs.List.Sorted.{IsStrictlyIncreasing}
use Rattle.std.proofs.lemmas.Bool.{eqb-true, ne_eqb}
use Rattle.std.proofs.lemmas.List.Elements.{All-head, All-tail}
use Rattle.std.proofs.lemmas.List.Sums.{sum_by-cons}
use Rattle.pl_base.proofs.LookUps.{found_passes}
use Rattle.pl_base.proofs.Searches.{rises}

-- ---- a sum in which one member counts otherwise

module _ {X : Type 0} (q : X → Bool) (f : X → X) (n g : X → ℕ) (same : (y : X) → q y ≡ false → g (f y) ≡ n y) where
  none_moved : (xs : List X) → All (λ y. q y ≡ false) xs → sum_by g (map f xs) ≡ sum_by n xs
  none_moved [] none = refl
  none_moved (x ∷ xs) none =
      omega (
        arith,
        sum_by-cons g (f x) (map f xs),
        sum_by-cons n x xs,
        same x (All-head (λ y. q y ≡ false) x xs none),
        none_moved xs (All-tail (λ y. q y ≡ false) x xs none),
      )

  pub sum_moved : (xs : List X) (x : X) → AllPairs (λ a b. q a ≡ true → q b ≡ false) xs → find q xs ≡ Some x
      → sum_by g (map f xs) + n x ≡ sum_by n xs + g (f x)
  sum_moved [] x once found = absurd (cc)
  sum_moved (y ∷ ys) x once found =
      choose (q y) refl found
      (sum_moved ys x (λ i j d before within. once (suc i) (suc j) d (omega arith) (omega arith)))
    where
      choose : (b : Bool) → q y ≡ b → (if b then Some y else find q ys) ≡ Some x
          → (find q ys ≡ Some x → sum_by g (map f ys) + n x ≡ sum_by n ys + g (f x))
          → sum_by g (f y ∷ map f ys) + n x ≡ sum_by n (y ∷ ys) + g (f x)
      choose true passes here rest =
          let is : y ≡ x = cc in
          omega (
            arith,
            sum_by-cons g (f y) (map f ys),
            sum_by-cons n y ys,
            none_moved ys (λ k d within. once 0 (suc k) d (omega arith) (omega arith) passes),
            ap n is,
            ap (λ z. g (f z)) is,
          )
      choose false fails here rest =
          omega (arith, sum_by-cons g (f y) (map f ys), sum_by-cons n y ys, same y fails, rest here)

-- a sum in which the only element that passes a test is changed
pub sum_changed : {X : Type 0} (q : X → Bool) (f : X → X) (n : X → ℕ) (xs : List X) (x : X)
    → AllPairs (λ a b. q a ≡ true → q b ≡ false) xs → find q xs ≡ Some x
    → sum_by n (map (λ y. if q y then f y else y) xs) + n x ≡ sum_by n xs + n (f x)
sum_changed q f n xs x once found =
    subst (λ (b : Bool). sum_by n (map (λ y. if q y then f y else y) xs) + n x
    ≡ sum_by n xs + n (if b then f x else x)) (found_passes q xs x found)
    (sum_moved q (λ y. if q y then f y else y) n n (λ y fails. ap (λ (b : Bool). n (if b then f y else y)) fails)
    xs x once found)

-- a number that ascends stands once
pub once_by_number : {X : Type 0} (key : X → ℕ) (n : ℕ) (xs : List X) → IsStrictlyIncreasing (map key xs)
    → AllPairs (λ a b. (key a == n) ≡ true → (key b == n) ≡ false) xs
once_by_number key n xs ascending i j d before within passes =
    ne_eqb (key (get_or xs j d)) n
    (λ same. omega (arith, eqb-true (key (get_or xs i d)) n passes, rises key xs ascending i j d before within))

-- a sum without the elements that add nothing
pub sum_but : {X : Type 0} (test : X → Bool) (f : X → ℕ) (xs : List X) → AllByRecursion (λ x. test x ≡ true → f x ≡ 0) xs
    → sum_by f (filter (λ x. not (test x)) xs) ≡ sum_by f xs
sum_but test f [] none = refl
sum_but {X} test f (x ∷ xs) none = choose (test x) refl (sum_but test f xs none.1)
  where
    choose : (b : Bool) → test x ≡ b → sum_by f (filter (λ y. not (test y)) xs) ≡ sum_by f xs
        → sum_by f (if not b then x ∷ filter (λ y. not (test y)) xs else filter (λ y. not (test y)) xs)
        ≡ sum_by f (x ∷ xs)
    choose true is rest = omega (arith, rest, none.0 is, sum_by-cons f x xs)
    choose false is rest =
        omega (arith, rest, sum_by-cons f x xs, sum_by-cons f x (filter (λ y. not (test y)) xs))
