-- The first of a list in order, so many: members with so many others before them may be left out.
use Rattle.std.proofs.Common.{◌≡◌, ◌∙◌, ◌≤◌, ◌++◌, ℕ, Bool, true, false, List, [], ◌∷◌, ap, arith, drop}
use Rattle.std.proofs.Common.{append_assoc, filter, if◌then◌else◌, length, refl, subst, suc, sym, take, zero}
use Rattle.std.specs.Cmp.{IsStrictWeakOrder}
use Rattle.std.specs.List.{AllByRecursion, IsDistinct}
use Rattle.std.specs.List.Sorted.{IsPermutation, ties}
use Rattle.std.proofs.lemmas.List.{length-take-le, take-append-drop}
use Rattle.std.proofs.lemmas.List.Sorted.{IsPermutation-append_comm, IsPermutation-append_left}
use Rattle.std.proofs.lemmas.List.Sorted.{length_permutation}
use Rattle.std.proofs.lemmas.Map.Keys.{IsDistinct-tail}
use Rattle.pl_base.specs.Sorting.{put_in_place, sorted_by}
use Rattle.pl_base.proofs.ListLaws.{weaker}
use Rattle.pl_base.proofs.SortLaws.{Ascends, ascends_sorted_by, distinct_moved, for_all, order_of_all, sorted_moves}
use Rattle.pl_indexed.proofs.SortedParts.{front_ahead, same_sorted}
use Rattle.pl_query.proofs.PartLists.{to_front}

module _ {X : Type 0} (before : X → X → Bool) (ranks : IsStrictWeakOrder before) where
  -- how many members come before one
  abbrev pub ahead_of : X → List X → ℕ
  ahead_of x xs = length (filter (λ y. before y x) xs)

  -- the first of the members in order, so many
  abbrev pub first_by : ℕ → List X → List X
  first_by n xs = take n (sorted_by before xs)

  -- no two members tie
  abbrev pub AreApart : List X → Type 0
  AreApart xs = IsDistinct (ties before) xs

  -- ---- counts

  count_cons : (p : X → Bool) (x : X) (xs : List X)
      → length (filter p (x ∷ xs)) ≡ (if p x then suc (length (filter p xs)) else length (filter p xs))
  count_cons p x xs = choose (p x)
    where
      choose : (b : Bool) → length (if b then x ∷ filter p xs else filter p xs)
          ≡ (if b then suc (length (filter p xs)) else length (filter p xs))
      choose true = refl
      choose false = refl

  count_placed : (p : X → Bool) (x : X) (ys : List X) → length (filter p (put_in_place before x ys)) ≡ length (filter p (x ∷ ys))
  count_placed p x [] = refl
  count_placed p x (y ∷ ys) = choose (before x y) (count_placed p x ys)
    where
      swap : (a b : Bool) (n : ℕ) → (if b then suc (if a then suc n else n) else if a then suc n else n)
          ≡ (if a then suc (if b then suc n else n) else if b then suc n else n)
      swap true true n = refl
      swap true false n = refl
      swap false true n = refl
      swap false false n = refl

      choose : (b : Bool) → length (filter p (put_in_place before x ys)) ≡ length (filter p (x ∷ ys))
          → length (filter p (if b then x ∷ y ∷ ys else y ∷ put_in_place before x ys)) ≡ length (filter p (x ∷ y ∷ ys))
      choose true rest = refl
      choose false rest =
          count_cons p y (put_in_place before x ys)
          ∙ ap (λ n. if p y then suc n else n) (rest ∙ count_cons p x ys)
          ∙ swap (p x) (p y) (length (filter p ys))
          ∙ sym (count_cons p x (y ∷ ys) ∙ ap (λ n. if p x then suc n else n) (count_cons p y ys))

  count_sorted : (p : X → Bool) (xs : List X) → length (filter p (sorted_by before xs)) ≡ length (filter p xs)
  count_sorted p [] = refl
  count_sorted p (x ∷ xs) =
      count_placed p x (sorted_by before xs) ∙ count_cons p x (sorted_by before xs)
      ∙ ap (λ n. if p x then suc n else n) (count_sorted p xs) ∙ sym (count_cons p x xs)

  -- ---- one member

  -- behind a member that comes after one, all do
  none_ahead : (x y : X) (ys : List X) → before x y ≡ true → AllByRecursion (λ z. before y z ≡ true) ys
      → ahead_of x (y ∷ ys) ≡ 0
  none_ahead x y ys first up =
      count_cons (λ z. before z x) y ys ∙ ap (λ b. if b then suc (ahead_of x ys) else ahead_of x ys)
      (ranks.one_way x y first)
      ∙ none ys up
    where
      none : (zs : List X) → AllByRecursion (λ z. before y z ≡ true) zs → ahead_of x zs ≡ 0
      none [] up = refl
      none (z ∷ zs) up =
          count_cons (λ w. before w x) z zs
          ∙ ap (λ b. if b then suc (ahead_of x zs) else ahead_of x zs)
          (ranks.one_way x z ((order_of_all before ranks).on x y z tt tt tt first up.0))
          ∙ none zs up.1

  placed_beyond : (n : ℕ) (x : X) (ys : List X) → Ascends before ys → n ≤ ahead_of x ys
      → take n (put_in_place before x ys) ≡ take n ys
  placed_beyond zero x ys up many = refl
  placed_beyond (suc n) x [] up many = absurd (omega (arith, many))
  placed_beyond (suc n) x (y ∷ ys) up many =
      choose (before x y) refl (placed_beyond n x ys up.1 (less_one (before y x) counted))
    where
      counted : suc n ≤ (if before y x then suc (ahead_of x ys) else ahead_of x ys)
      counted = subst (λ m. suc n ≤ m) (count_cons (λ z. before z x) y ys) many

      less_one : (b : Bool) → suc n ≤ (if b then suc (ahead_of x ys) else ahead_of x ys) → n ≤ ahead_of x ys
      less_one true le = omega (arith, le)
      less_one false le = omega (arith, le)

      choose : (b : Bool) → before x y ≡ b → take n (put_in_place before x ys) ≡ take n ys
          → take (suc n) (if b then x ∷ y ∷ ys else y ∷ put_in_place before x ys) ≡ y ∷ take n ys
      choose true is rest =
          let none = none_ahead x y ys is up.0 in
          absurd (omega (arith, many, none))
      choose false is rest = ap (λ zs. y ∷ zs) rest

  in_order : (xs : List X) → AreApart xs → Ascends before (sorted_by before xs)
  in_order xs apart = ascends_sorted_by (order_of_all before ranks) xs (for_all xs) apart

  skip : (n : ℕ) (x : X) (xs : List X) → AreApart xs → n ≤ ahead_of x xs → first_by n (x ∷ xs) ≡ first_by n xs
  skip n x xs apart many =
      placed_beyond n x (sorted_by before xs) (in_order xs apart)
      (subst (λ m. n ≤ m) (sym (count_sorted (λ y. before y x) xs)) many)

  -- ---- several members

  more_ahead : (x : X) (ys xs : List X) → ahead_of x xs ≤ ahead_of x (ys ++ xs)
  more_ahead x [] xs = omega arith
  more_ahead x (y ∷ ys) xs =
      subst (λ m. ahead_of x xs ≤ m) (sym (count_cons (λ z. before z x) y (ys ++ xs)))
      (either (before y x) (more_ahead x ys xs))
    where
      either : (b : Bool) → ahead_of x xs ≤ ahead_of x (ys ++ xs)
          → ahead_of x xs ≤ (if b then suc (ahead_of x (ys ++ xs)) else ahead_of x (ys ++ xs))
      either true le = omega (arith, le)
      either false le = le

  pub skip_all : (n : ℕ) (ys xs : List X) → AreApart (ys ++ xs) → AllByRecursion (λ y. n ≤ ahead_of y xs) ys
      → first_by n (ys ++ xs) ≡ first_by n xs
  skip_all n [] xs apart many = refl
  skip_all n (y ∷ ys) xs apart many =
      let rest : AreApart (ys ++ xs) = IsDistinct-tail (ties before) y (ys ++ xs) apart in
      let le = more_ahead y ys xs in
      let enough = many.0 in
      skip n y (ys ++ xs) rest (omega (arith, le, enough)) ∙ skip_all n ys xs rest many.1

  -- the order in which they are given does not matter
  pub same_first : (n : ℕ) (xs ys : List X) → AreApart xs → IsPermutation xs ys → first_by n xs ≡ first_by n ys
  same_first n xs ys apart moves = ap (take n) (same_sorted before ranks xs ys apart moves)

  -- ---- all of a list that come behind others

  all_ahead : (x : X) (xs : List X) → AllByRecursion (λ y. before y x ≡ true) xs → ahead_of x xs ≡ length xs
  all_ahead x [] all = refl
  all_ahead x (y ∷ xs) all =
      count_cons (λ z. before z x) y xs ∙ ap (λ b. if b then suc (ahead_of x xs) else ahead_of x xs) all.0
      ∙ ap suc (all_ahead x xs all.1)

  ahead_in_front : (x : X) (xs ys : List X) → ahead_of x xs ≤ ahead_of x (xs ++ ys)
  ahead_in_front x [] ys = omega arith
  ahead_in_front x (y ∷ xs) ys =
      subst (λ m. ahead_of x (y ∷ xs) ≤ m) (sym (count_cons (λ z. before z x) y (xs ++ ys)))
      (subst (λ m. m ≤ (if before y x then suc (ahead_of x (xs ++ ys)) else ahead_of x (xs ++ ys)))
      (sym (count_cons (λ z. before z x) y xs)) (either (before y x) (ahead_in_front x xs ys)))
    where
      either : (b : Bool) → ahead_of x xs ≤ ahead_of x (xs ++ ys)
          → (if b then suc (ahead_of x xs) else ahead_of x xs)
          ≤ (if b then suc (ahead_of x (xs ++ ys)) else ahead_of x (xs ++ ys))
      either true le = omega (arith, le)
      either false le = le

  -- where so many members come before each of others, these may be left out, wherever they stand
  pub left_out : (n : ℕ) (xs ys zs : List X) → AreApart (xs ++ (ys ++ zs)) → n ≤ length xs
      → AllByRecursion (λ y. AllByRecursion (λ x. before x y ≡ true) xs) ys
      → first_by n (xs ++ (ys ++ zs)) ≡ first_by n (xs ++ zs)
  left_out n xs ys zs apart many all =
      let moves : IsPermutation (xs ++ (ys ++ zs)) (ys ++ (xs ++ zs)) = to_front xs ys zs in
      same_first n (xs ++ (ys ++ zs)) (ys ++ (xs ++ zs)) apart moves
      ∙ skip_all n ys (xs ++ zs) (distinct_moved before (xs ++ (ys ++ zs)) (ys ++ (xs ++ zs)) moves apart)
      (weaker (λ y. AllByRecursion (λ x. before x y ≡ true) xs) (λ y. n ≤ ahead_of y (xs ++ zs)) ys
      (λ y each.
      let is = all_ahead y xs each in
      let le = ahead_in_front y xs zs in
      omega (arith, is, le, many))
      all)

  -- ---- the first of a list, and others

  swapped : (xs ys : List X) → AllByRecursion (λ x. AllByRecursion (λ y. before x y ≡ true) ys) xs
      → AllByRecursion (λ y. AllByRecursion (λ x. before x y ≡ true) xs) ys
  swapped xs [] all = tt
  swapped xs (y ∷ ys) all = (
    weaker (λ x. AllByRecursion (λ z. before x z ≡ true) (y ∷ ys)) (λ x. before x y ≡ true) xs (λ x each. each.0) all,
    swapped xs ys
        (weaker (λ x. AllByRecursion (λ z. before x z ≡ true) (y ∷ ys))
        (λ x. AllByRecursion (λ z. before x z ≡ true) ys) xs (λ x each. each.1) all),
  )

  pub apart_behind : (xs ys : List X) → AreApart (xs ++ ys) → AreApart ys
  apart_behind [] ys apart = apart
  apart_behind (x ∷ xs) ys apart = apart_behind xs ys (IsDistinct-tail (ties before) x (xs ++ ys) apart)

  pub apart_moved : (xs ys : List X) → IsPermutation xs ys → AreApart xs → AreApart ys
  apart_moved xs ys moves apart = distinct_moved before xs ys moves apart

  pub apart_front : (xs ys : List X) → AreApart (xs ++ ys) → AreApart xs
  apart_front xs ys apart =
      apart_behind ys xs (apart_moved (xs ++ ys) (ys ++ xs) (IsPermutation-append_comm xs ys) apart)

  module _ (n : ℕ) (xs zs : List X) where
    cut_moves : IsPermutation (xs ++ zs) (first_by n xs ++ (drop n (sorted_by before xs) ++ zs))
    cut_moves =
        subst (IsPermutation (xs ++ zs))
        (ap (λ ys. ys ++ zs) (sym (take-append-drop n (sorted_by before xs)))
        ∙ append_assoc (first_by n xs) (drop n (sorted_by before xs)) zs)
        (IsPermutation-append_left zs xs (sorted_by before xs) (sorted_moves before xs))

    pub apart_cut : AreApart (xs ++ zs) → AreApart (first_by n xs ++ zs)
    apart_cut apart =
        apart_behind (drop n (sorted_by before xs)) (first_by n xs ++ zs)
        (apart_moved (first_by n xs ++ (drop n (sorted_by before xs) ++ zs))
        (drop n (sorted_by before xs) ++ (first_by n xs ++ zs))
        (to_front (first_by n xs) (drop n (sorted_by before xs)) zs)
        (apart_moved (xs ++ zs) (first_by n xs ++ (drop n (sorted_by before xs) ++ zs)) cut_moves apart))

    -- a list with others may be cut before these come
    pub cut : AreApart (xs ++ zs) → n ≤ length xs → first_by n (first_by n xs ++ zs) ≡ first_by n (xs ++ zs)
    cut apart many =
        let long : length (sorted_by before xs) ≡ length xs =
        length_permutation xs (sorted_by before xs) (sorted_moves before xs) in
        let full : length (first_by n xs) ≡ n =
        length-take-le n (sorted_by before xs) (subst (λ m. n ≤ m) (sym long) many) in
        sym
        (same_first n (xs ++ zs) (first_by n xs ++ (drop n (sorted_by before xs) ++ zs)) apart cut_moves
        ∙ left_out n (first_by n xs) (drop n (sorted_by before xs)) zs
        (apart_moved (xs ++ zs) (first_by n xs ++ (drop n (sorted_by before xs) ++ zs)) cut_moves apart)
        (subst (λ m. n ≤ m) (sym full) (omega arith))
        (swapped (first_by n xs) (drop n (sorted_by before xs))
        (front_ahead before (first_by n xs) (drop n (sorted_by before xs))
        (subst (Ascends before) (sym (take-append-drop n (sorted_by before xs)))
        (in_order xs (apart_front xs zs apart))))))
