-- Where a list has the members of another one in some order, so have those that pass a test.
use Rattle.std.proofs.Common.{◌<◌, ℕ, zero, suc, Bool, true, false, List, [], ◌∷◌, arith, filter, get_or}
use Rattle.std.proofs.Common.{if◌then◌else◌, length, set, swap}
use Rattle.std.specs.List.Sorted.{IsPermutation}
use Rattle.std.proofs.lemmas.List.Sorted.{IsPermutation-cons, IsPermutation-keeps, IsPermutation-middle}
use Rattle.std.proofs.lemmas.List.Sorted.{IsPermutation-refl, IsPermutation-trans}

module _ {X : Type 0} (q : X → Bool) where
  abbrev Moves : List X → List X → Type 0
  Moves xs ys = IsPermutation (filter q xs) (filter q ys)

  chain : (xs ys zs : List X) → Moves xs ys → Moves ys zs → Moves xs zs
  chain xs ys zs = IsPermutation-trans (filter q xs) (filter q ys) (filter q zs)

  -- one more in front of both
  skip : (x : X) (xs ys : List X) → Moves xs ys → Moves (x ∷ xs) (x ∷ ys)
  skip x xs ys moves = choose (q x)
    where
      choose : (b : Bool) → IsPermutation (if b then x ∷ filter q xs else filter q xs)
          (if b then x ∷ filter q ys else filter q ys)
      choose true = IsPermutation-cons x (filter q xs) (filter q ys) moves
      choose false = moves

  -- the first two change places
  turn : (x y : X) (xs : List X) → Moves (x ∷ y ∷ xs) (y ∷ x ∷ xs)
  turn x y xs = choose (q x) (q y)
    where
      choose : (a b : Bool) → let rest : List X = filter q xs in
          IsPermutation
          (if a then x ∷ (if b then y ∷ rest else rest) else (if b then y ∷ rest else rest))
          (if b then y ∷ (if a then x ∷ rest else rest) else (if a then x ∷ rest else rest))
      choose true true = IsPermutation-middle (x ∷ []) y (filter q xs)
      choose true false = IsPermutation-refl (x ∷ filter q xs)
      choose false true = IsPermutation-refl (y ∷ filter q xs)
      choose false false = IsPermutation-refl (filter q xs)

  -- the first one and another change places
  to_front : (xs : List X) (j : ℕ) (x d : X) → j < length xs → Moves (x ∷ xs) (get_or xs j d ∷ set xs j x)
  to_front [] j x d within = absurd (omega arith)
  to_front (y ∷ xs) zero x d within = turn x y xs
  to_front (y ∷ xs) (suc j) x d within =
      let one : X = get_or xs j d in
      let rest : List X = set xs j x in
      chain (x ∷ y ∷ xs) (y ∷ x ∷ xs) (one ∷ y ∷ rest) (turn x y xs)
      (chain (y ∷ x ∷ xs) (y ∷ one ∷ rest) (one ∷ y ∷ rest)
      (skip y (x ∷ xs) (one ∷ rest) (to_front xs j x d (omega arith))) (turn y one rest))

  exchanged : (xs : List X) (i j : ℕ) (d : X) → i < length xs → j < length xs
      → Moves xs (set (set xs i (get_or xs j d)) j (get_or xs i d))
  exchanged [] i j d first second = absurd (omega arith)
  exchanged (x ∷ xs) zero zero d first second = IsPermutation-refl (filter q (x ∷ xs))
  exchanged (x ∷ xs) zero (suc j) d first second = to_front xs j x d (omega arith)
  exchanged (x ∷ xs) (suc i) zero d first second = to_front xs i x d (omega arith)
  exchanged (x ∷ xs) (suc i) (suc j) d first second =
      skip x xs (set (set xs i (get_or xs j d)) j (get_or xs i d))
      (exchanged xs i j d (omega arith) (omega arith))

  swapped : (xs : List X) (i j : ℕ) → i < length xs → j < length xs → Moves xs (swap xs i j)
  swapped [] i j first second = IsPermutation-refl []
  swapped (x ∷ xs) i j first second = exchanged (x ∷ xs) i j x first second

  pub part_moves : (xs ys : List X) → IsPermutation xs ys → IsPermutation (filter q xs) (filter q ys)
  part_moves xs =
      IsPermutation-keeps xs (Moves xs) (IsPermutation-refl (filter q xs))
      (λ l i j first second moves. chain xs l (swap l i j) moves (swapped l i j first second))
