-- What a search by halves finds among rows whose numbers ascend.
use Rattle.std.proofs.Common.{Bor, ◌≡◌, ◌<◌, ◌≤◌, ◌==◌, ◌∙◌, ℕ, Bool, true, false, cond, List, []}
use Rattle.std.proofs.Common.{◌∷◌, Option, Some, None, Result, Ok, Err, ap, arith, get_or}
use Rattle.std.proofs.Common.{MatchResult, find, inl, inr, length, map, nat_le, nat_lt, refl, sym}
use Rattle.std.specs.List.{HoldsAt, position, position_or_len, slice_get}
use Rattle.std.specs.List.Sorted.{IsBinarySearchResult, IsNonDecreasingBy}
use Rattle.std.specs.List.Sorted.{IsPartitionPoint, IsSearchInRange, IsStrictlyIncreasing}
use Rattle.std.specs.Option.{MatchOption, option_copied}
use Rattle.std.specs.declared.cmp.Ordering.TheVariants.{Less, Equal, Greater}
use Rattle.std.specs.Ordering.{nat_cmp, ordering_index}
use Rattle.std.specs.Result.{result_ok}
use Rattle.std.proofs.lemmas.Bool.{cases_lt, eq-eqb, le-ltb, leb-false, leb-true, lt-ltb, ne_eqb}
use Rattle.std.proofs.lemmas.Bool.Decides.{nat_tests}
use Rattle.std.proofs.lemmas.Cmp.{ranked}
use Rattle.std.proofs.lemmas.Grind.{common_steps}
use Rattle.std.proofs.lemmas.List.{get_or-map, length-map}
use Rattle.std.proofs.lemmas.List.Folds.{find_at}
use Rattle.std.proofs.lemmas.List.Kept.{AllPairs-from_increasing}
use Rattle.std.proofs.lemmas.List.Sums.{position_or_len_is}
use Rattle.std.proofs.lemmas.Option.{slice_get_past, slice_get_read}

module _ {X : Type 0} (n : X → ℕ) (xs : List X) (ascending : IsStrictlyIncreasing (map n xs)) where
  pub rises : (i j : ℕ) (d : X) → i < j → j < length xs → n (get_or xs i d) < n (get_or xs j d)
  rises i j d before within =
      let last : j < length (map n xs) = rw (length-map xs n) within in
      let pair : get_or (map n xs) i (n d) < get_or (map n xs) j (n d) =
      AllPairs-from_increasing (map n xs) ascending i j (n d) before last in
      rw (get_or-map n xs i d (n d) (omega arith), get_or-map n xs j d (n d) within) at pair

  pub never_falls : IsNonDecreasingBy n xs
  never_falls i j d before within =
      elim (cases_lt i j) [
        | inl less ↦ omega (arith, rises i j d less within)
        | inr past ↦
            let same : i ≡ j = omega arith in
            omega (arith, ap (λ k. n (get_or xs k d)) same)
      ]

  comparisons_rise : (k : ℕ) → IsNonDecreasingBy (λ x. ordering_index (nat_cmp (n x) k)) xs
  comparisons_rise k i j d before within =
      higher (n (get_or xs i d)) (n (get_or xs j d)) (never_falls i j d before within)
    where
      higher : (a b : ℕ) → a ≤ b → ordering_index (nat_cmp a k) ≤ ordering_index (nat_cmp b k)
      higher a b le = grind (arith, nat_tests)

place : {X : Type 0} (n : X → ℕ) (xs : List X) → IsStrictlyIncreasing (map n xs) → (k : ℕ) (r : Result ℕ ℕ)
    → IsSearchInRange r (length xs) → IsBinarySearchResult (λ x. nat_cmp (n x) k) xs r
    → MatchResult r (λ i. (i < length xs) × (position_or_len (λ x. n x == k) xs ≡ i))
    (λ _. position_or_len (λ x. n x == k) xs ≡ length xs)
place n [] ascending k (Ok i) range searched = absurd (omega arith)
place n [] ascending k (Err i) range searched = refl
place n (x ∷ xs) ascending k (Ok i) range searched =
    let at : n (get_or (x ∷ xs) i x) ≡ k = ranked (n (get_or (x ∷ xs) i x)) k Equal (sym (searched x)) in (
      range,
      position_or_len_is (λ y. n y == k) (x ∷ xs) i x (omega arith)
          (λ j before. ne_eqb (n (get_or (x ∷ xs) j x)) k
          (λ same. omega (arith, rises n (x ∷ xs) ascending j i x before range)))
          (λ _. eq-eqb (n (get_or (x ∷ xs) i x)) k at),
    )
place n (x ∷ xs) ascending k (Err i) range searched =
    let parts = searched (comparisons_rise n (x ∷ xs) ascending k) in
    position_or_len_is (λ y. n y == k) (x ∷ xs) (length (x ∷ xs)) x (omega arith)
    (λ j within.
    ne_eqb (n (get_or (x ∷ xs) j x)) k
    (λ same.
    elim (cases_lt j i) [
      | inl before ↦ omega (arith, ranked (n (get_or (x ∷ xs) j x)) k Less (sym (parts.0 j x (omega arith) before)))
      | inr behind ↦ omega (arith, ranked (n (get_or (x ∷ xs) j x)) k Greater (sym (parts.1 j x behind within)))
    ]))
    (λ past. absurd (omega arith))

-- a search by key gives the place of the number, if there is one
pub place_searched : {X : Type 0} (n : X → ℕ) (xs : List X) → IsStrictlyIncreasing (map n xs) → (k : ℕ) (r : Result ℕ ℕ)
    → IsSearchInRange r (length xs) → IsBinarySearchResult (λ x. nat_cmp (n x) k) xs r
    → result_ok r ≡ position (λ x. n x == k) xs
place_searched n xs ascending k r range searched =
    sym (placed (position_or_len (λ x. n x == k) xs) (length xs) r (place n xs ascending k r range searched))
  where
    placed : (at len : ℕ) (r : Result ℕ ℕ) → MatchResult r (λ i. (i < len) × (at ≡ i)) (λ _. at ≡ len)
        → cond (nat_lt at len) (Some at) None ≡ result_ok r
    placed at len (Ok i) h = rw (h.1, lt-ltb i len h.0) refl
    placed at len (Err i) h = rw (h, le-ltb len len (omega arith)) refl

-- what `get` of a slice gives
pub got_at : {X : Type 0} (xs : List X) (i : ℕ) (r : Option (Bor X))
    → MatchOption r (length xs ≤ i) (λ x. (i < length xs) × HoldsAt (λ y. x.now ≡ y) xs i)
    → option_copied r ≡ slice_get xs i
got_at xs i None past = sym (slice_get_past xs i past)
got_at xs i (Some x) at = sym (slice_get_read xs (length xs) i x.now refl at.0 (at.1 x.now))

-- the row at the place
pub found_at : {X : Type 0} (p : X → Bool) (xs : List X) (i : ℕ) → position p xs ≡ Some i → slice_get xs i ≡ find p xs
found_at p xs i found =
    let at : position_or_len p xs ≡ i = grind (arith, common_steps) in
    ap (slice_get xs) (sym at) ∙ sym (find_at p xs)

pub none_at : {X : Type 0} (p : X → Bool) (xs : List X) → position p xs ≡ None → None ≡ find p xs
none_at p xs none =
    let past : length xs ≤ position_or_len p xs = grind (arith, common_steps) in
    sym (slice_get_past xs (position_or_len p xs) past) ∙ sym (find_at p xs)

-- the first row above a number is where those at most the number end
pub above_at : {X : Type 0} (n : X → ℕ) (xs : List X) (k i : ℕ) → i ≤ length xs
    → IsPartitionPoint (λ x. nat_le (n x) k ≡ true) (λ x. nat_le (n x) k ≡ false) xs i
    → slice_get xs i ≡ find (λ x. nat_lt k (n x)) xs
above_at n [] k i range parts = refl
above_at n (x ∷ xs) k i range parts =
    let at : position_or_len (λ y. nat_lt k (n y)) (x ∷ xs) ≡ i =
    position_or_len_is (λ y. nat_lt k (n y)) (x ∷ xs) i x range
    (λ j before. le-ltb k (n (get_or (x ∷ xs) j x))
    (leb-true (n (get_or (x ∷ xs) j x)) k (parts.0 j x (omega arith) before)))
    (λ within. lt-ltb k (n (get_or (x ∷ xs) i x))
    (leb-false (n (get_or (x ∷ xs) i x)) k (parts.1 i x (omega arith) within))) in
    ap (slice_get (x ∷ xs)) (sym at) ∙ sym (find_at (λ y. nat_lt k (n y)) (x ∷ xs))
