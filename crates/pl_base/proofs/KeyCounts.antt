-- How often a key stands in a list.
use Rattle.std.proofs.Common.{◌≡◌, ◌≢◌, ◌+◌, ◌<◌, ◌≤◌, ◌++◌, ◌∙◌, inl, inr, ℕ, Bool}
use Rattle.std.proofs.Common.{List, [], ◌∷◌, ap, sym, arith, refl, count_by, eqb}
use Rattle.std.proofs.Common.{if◌then◌else◌, suc}
use Rattle.std.specs.List.{AllByRecursion, AllPairs}
use Rattle.std.proofs.lemmas.Bool.{cases_eq, eq-eqb, ne_eqb}
use Rattle.std.proofs.lemmas.List.Elements.{All-from_recursion, recursion_from_All}
use Rattle.std.proofs.lemmas.List.Kept.{AllPairs-cons}
use Rattle.std.proofs.lemmas.List.Sums.{sum_by-append, sum_by-cons}
use Rattle.pl_base.proofs.Among.{In, all_from_in, at_in}

abbrev pub tick : Bool → ℕ
tick b = if b then 1 else 0

pub tick_same : (a b : ℕ) → a ≡ b → tick (eqb a b) ≡ 1
tick_same a b e = ap tick (eq-eqb a b e)

pub tick_other : (a b : ℕ) → a ≢ b → tick (eqb a b) ≡ 0
tick_other a b e = ap tick (ne_eqb a b e)

module _ {X : Type 0} (key : X → ℕ) where
  -- each key is below those behind it
  abbrev pub Ascends : List X → Type 0
  Ascends [] = Unit {0}
  Ascends (x ∷ xs) = AllByRecursion (λ y. key x < key y) xs × Ascends xs

  pub ascends_from_pairs : (xs : List X) → AllPairs (λ x y. key x < key y) xs → Ascends xs
  ascends_from_pairs [] pairs = tt
  ascends_from_pairs (x ∷ xs) pairs = (
    recursion_from_All (λ y. key x < key y) xs (λ k d lt. pairs 0 (suc k) d (omega arith) (omega arith)),
    ascends_from_pairs xs (λ i j d before within. pairs (suc i) (suc j) d (omega arith) (omega arith)),
  )

  abbrev pub count : ℕ → List X → ℕ
  count k xs = count_by (λ x. eqb (key x) k) xs

  -- no key stands twice
  abbrev pub Once : List X → Type 0
  Once xs = (k : ℕ) → count k xs ≤ 1

  pub count-cons : (k : ℕ) (x : X) (xs : List X) → count k (x ∷ xs) ≡ tick (eqb (key x) k) + count k xs
  count-cons k x xs = sum_by-cons (λ y. tick (eqb (key y) k)) x xs

  pub count-append : (k : ℕ) (xs ys : List X) → count k (xs ++ ys) ≡ count k xs + count k ys
  count-append k xs ys = sum_by-append (λ x. tick (eqb (key x) k)) xs ys

  pub counted : (k : ℕ) (xs : List X) (z : X) → In z xs → key z ≡ k → 1 ≤ count k xs
  counted k [] z h e = absurd h
  counted k (x ∷ xs) z (inl same) e =
      let one : tick (eqb (key x) k) ≡ 1 = tick_same (key x) k (ap key (sym same) ∙ e) in
      omega (arith, count-cons k x xs)
  counted k (x ∷ xs) z (inr h) e = omega (arith, count-cons k x xs, counted k xs z h e)

  pub not_counted : (k : ℕ) (xs : List X) → ((x : X) → In x xs → key x ≢ k) → count k xs ≡ 0
  not_counted k [] none = refl
  not_counted k (x ∷ xs) none =
      let one : tick (eqb (key x) k) ≡ 0 = tick_other (key x) k (none x (inl refl)) in
      omega (arith, count-cons k x xs, not_counted k xs (λ z h. none z (inr h)))

  pub once_from_pairs : (xs : List X) → AllPairs (λ x y. key x ≢ key y) xs → Once xs
  once_from_pairs [] pairs k = omega arith
  once_from_pairs (x ∷ xs) pairs k =
      elim (cases_eq (key x) k) as (λ _. count k (x ∷ xs) ≤ 1) [
        | inl e ↦
            let apart : AllByRecursion (λ y. key y ≢ k) xs =
            recursion_from_All (λ y. key y ≢ k) xs (λ j d lt same.
            pairs 0 (suc j) d (omega arith) (omega arith) (e ∙ sym same))
            in
            let one : tick (eqb (key x) k) ≡ 1 = tick_same (key x) k e in
            omega (arith, count-cons k x xs, not_counted k xs (λ z h. at_in (λ y. key y ≢ k) xs z apart h))
        | inr ne ↦
            let one : tick (eqb (key x) k) ≡ 0 = tick_other (key x) k ne in
            omega (
              arith,
              count-cons k x xs,
              once_from_pairs xs (λ i j d before within. pairs (suc i) (suc j) d (omega arith) (omega arith)) k,
            )
      ]

  pub pairs_from_once : (xs : List X) → Once xs → AllPairs (λ x y. key x ≢ key y) xs
  pairs_from_once [] once = λ i j d before within. absurd (omega arith)
  pairs_from_once (x ∷ xs) once =
      let apart : AllByRecursion (λ y. key x ≢ key y) xs =
      all_from_in (λ y. key x ≢ key y) xs (λ z h e.
      let here : tick (eqb (key x) (key z)) ≡ 1 = tick_same (key x) (key z) e in
      omega (arith, counted (key z) xs z h refl, count-cons (key z) x xs, once (key z)))
      in
      AllPairs-cons (λ y z. key y ≢ key z) x xs (All-from_recursion (λ y. key x ≢ key y) xs apart)
      (pairs_from_once xs (λ k. omega (arith, count-cons k x xs, once k)))
