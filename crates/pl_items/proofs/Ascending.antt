-- Lists in which a key ascends: given elements make one such list.
use Rattle.std.proofs.Common.{◌≡◌, ◌≢◌, ◌<◌, ◌∙◌, inl, inr, ℕ, List, [], ◌∷◌}
use Rattle.std.proofs.Common.{ap, sym, arith, refl, get_or, suc, eqb, map}
use Rattle.std.specs.List.{AllByRecursion, AllPairs}
use Rattle.std.specs.List.Sorted.{IsNonDecreasingBy, IsPermutation}
use Rattle.std.proofs.lemmas.Bool.{eq-eqb}
use Rattle.std.proofs.lemmas.List.{get_or-map, length-map}
use Rattle.std.proofs.lemmas.List.Elements.{recursion_from_All}
use Rattle.pl_items.proofs.Members.{in_place}
use Rattle.std.proofs.lemmas.List.Sorted.{sum_by-IsPermutation, IsPermutation-sym}
use Rattle.pl_base.proofs.Among.{In, at_in, in_permutation}
use Rattle.pl_base.proofs.KeyCounts.{Ascends, Once, count-cons, counted, once_from_pairs, tick}

-- ---- one ascending list

module _ {X : Type 0} (key : X → ℕ) where
  same_first : (x y : X) (xs ys : List X) → Ascends key (x ∷ xs) → Ascends key (y ∷ ys) → In x (y ∷ ys)
      → In y (x ∷ xs) → x ≡ y
  same_first x y xs ys up_x up_y (inl e) back = e
  same_first x y xs ys up_x up_y (inr h) (inl e) = sym e
  same_first x y xs ys up_x up_y (inr h) (inr g) =
      let below = at_in (λ z. key y < key z) ys x up_y.0 h in
      let above = at_in (λ z. key x < key z) xs y up_x.0 g in
      absurd (omega arith)

  behind : (x y z : X) (xs ys : List X) → x ≡ y → AllByRecursion (λ w. key x < key w) xs → In z xs → In z (y ∷ ys)
      → In z ys
  behind x y z xs ys same up h (inr g) = g
  behind x y z xs ys same up h (inl e) =
      let above = at_in (λ w. key x < key w) xs z up h in
      let alike = ap key (same ∙ sym e) in
      absurd (omega arith)

  pub only : (xs ys : List X) → Ascends key xs → Ascends key ys → ((z : X) → In z xs → In z ys)
      → ((z : X) → In z ys → In z xs) → xs ≡ ys
  only [] [] up_x up_y to back = refl
  only [] (y ∷ ys) up_x up_y to back = absurd (back y (inl refl))
  only (x ∷ xs) [] up_x up_y to back = absurd (to x (inl refl))
  only (x ∷ xs) (y ∷ ys) up_x up_y to back =
      let first : x ≡ y = same_first x y xs ys up_x up_y (to x (inl refl)) (back y (inl refl)) in
      let rest : xs ≡ ys =
      only xs ys up_x.1 up_y.1
      (λ z h. behind x y z xs ys first up_x.0 h (to z (inr h)))
      (λ z h. behind y x z ys xs (sym first) up_y.0 h (back z (inr h)))
      in
      rw (first, rest)

  -- a list that ascends is the only one of its elements
  pub only_ascending : (xs ys : List X) → Ascends key xs → Ascends key ys → IsPermutation xs ys → xs ≡ ys
  only_ascending xs ys up_x up_y moves =
      only xs ys up_x up_y
      (λ z. in_permutation xs ys z moves)
      (λ z. in_permutation ys xs z (IsPermutation-sym xs ys moves))

  -- ---- from a sorted list

  ascends_once : (xs : List X) → IsNonDecreasingBy key xs → Once key xs → Ascends key xs
  ascends_once [] up once = tt
  ascends_once (x ∷ xs) up once =
      let first : AllByRecursion (λ y. key x < key y) xs =
      recursion_from_All (λ y. key x < key y) xs (λ k d lt.
      let le = up 0 (suc k) d (omega arith) (omega arith) in
      let apart : key (get_or xs k d) ≢ key x = λ e.
      let one : tick (eqb (key x) (key x)) ≡ 1 = ap tick (eq-eqb (key x) (key x) refl) in
      let more = counted key (key x) xs (get_or xs k d) (in_place xs k d lt) e in
      omega (arith, count-cons key (key x) x xs, once (key x))
      in
      omega arith)
      in
      let rest_once : Once key xs = λ k. omega (arith, count-cons key k x xs, once k) in
      (first, ascends_once xs (λ i j d le lt. up (suc i) (suc j) d (omega arith) (omega arith)) rest_once)

  once_permutation : (xs ys : List X) → IsPermutation xs ys → Once key xs → Once key ys
  once_permutation xs ys moves once k =
      omega (arith, sum_by-IsPermutation (λ y. tick (eqb (key y) k)) xs ys moves, once k)

  -- a sort of elements whose keys are distinct makes them ascend
  pub ascends_sorted : (xs ys : List X) → AllPairs (λ x y. key x ≢ key y) xs → IsPermutation xs ys
      → IsNonDecreasingBy key ys → Ascends key ys
  ascends_sorted xs ys apart moves up = ascends_once ys up (once_permutation xs ys moves (once_from_pairs key xs apart))

pub non_decreasing-map : {X Y : Type 0} (key : Y → ℕ) (f : X → Y) (xs : List X)
    → IsNonDecreasingBy (λ x. key (f x)) xs → IsNonDecreasingBy key (map f xs)
non_decreasing-map key f [] up i j d le lt = absurd (omega arith)
non_decreasing-map key f (x ∷ xs) up i j d le lt =
    let long = length-map (x ∷ xs) f in
    omega (
      arith,
      ap key (get_or-map f (x ∷ xs) i x d (omega arith)),
      ap key (get_or-map f (x ∷ xs) j x d (omega arith)),
      up i j x le (omega arith),
    )
