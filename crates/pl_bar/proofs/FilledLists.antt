-- Lists that are filled up to a number, and the front of a list in which so many pass a test.
use Rattle.std.proofs.Common.{◌≡◌, ◌∙◌, ◌==◌, ◌+◌, ◌-◌, ◌<◌, ◌≤◌, ◌++◌, ◌||◌, ℕ, Bool, true, false, List, [], ◌∷◌}
use Rattle.std.proofs.Common.{ap, append_assoc, arith, eqb-true, filter, if◌then◌else◌, length, map, min, not, refl}
use Rattle.std.proofs.Common.{subst, suc, sym, take, zero}
use Rattle.std.specs.List.{AllByRecursion, list_any, sum_by}
use Rattle.std.proofs.Math.Seq.{take-nil}
use Rattle.std.proofs.lemmas.Bool.{ne_eqb, or_right}
use Rattle.std.proofs.lemmas.List.{append-nil, length-append, length-take, take-take, take_all}
use Rattle.std.proofs.lemmas.List.Sums.{sum_by-cons}
use Rattle.pl_base.proofs.ListLaws.{all-filter, weaker}
use Rattle.pl_base.proofs.SortLaws.{Ascends}
use Rattle.pl_bar.specs.Offers.{filled_up, up_to}

-- ---- lists that are filled up

module _ {A : Type 0} where
  take_append : (n : ℕ) (xs ys : List A) → take n (xs ++ ys) ≡ take n xs ++ take (n - length xs) ys
  take_append zero xs ys =
      let none : zero - length xs ≡ 0 = omega arith in
      sym (ap (λ m. take m ys) none)
  take_append (suc n) [] ys =
      let all : suc n - 0 ≡ suc n = omega arith in
      sym (ap (λ m. take m ys) all)
  take_append (suc n) (x ∷ xs) ys =
      let less : suc n - suc (length xs) ≡ n - length xs = omega arith in
      ap (λ zs. x ∷ zs) (take_append n xs ys ∙ ap (λ m. take n xs ++ take m ys) (sym less))

  pub filled_more : (most : ℕ) (xs ys zs : List A)
      → filled_up most (filled_up most xs ys) zs ≡ filled_up most xs (ys ++ zs)
  filled_more most xs ys zs =
      let room : ℕ = most - length xs in
      let left : most - length (xs ++ take room ys) ≡ room - length ys =
      omega (arith, length-append xs (take room ys), length-take room ys) in
      append_assoc xs (take room ys) (take (most - length (xs ++ take room ys)) zs)
      ∙ ap (λ ts. xs ++ ts)
      (ap (λ m. take room ys ++ take m zs) left ∙ sym (take_append room ys zs))

  pub filled_full : (most : ℕ) (xs ys : List A) → most ≤ length xs → filled_up most xs ys ≡ xs
  filled_full most xs ys full =
      let none : most - length xs ≡ 0 = omega arith in
      ap (λ m. xs ++ take m ys) none ∙ append-nil xs

  pub filled_none : (most : ℕ) (xs : List A) → filled_up most xs [] ≡ xs
  filled_none most xs = ap (λ zs. xs ++ zs) (take-nil (most - length xs)) ∙ append-nil xs

  pub filled_all : (most : ℕ) (xs ys : List A) → length xs + length ys ≤ most → filled_up most xs ys ≡ xs ++ ys
  filled_all most xs ys within =
      let room : length ys ≤ most - length xs = omega arith in
      ap (λ zs. xs ++ zs) (take_all (most - length xs) ys room)

  pub filled_take : (most : ℕ) (xs ys : List A) → filled_up most (filled_up most [] xs) ys ≡ take most (xs ++ ys)
  filled_take most xs ys =
      let all : most - 0 ≡ most = omega arith in
      filled_more most [] xs ys ∙ ap (λ m. take m (xs ++ ys)) all

  -- of the others no more are taken than make so many, so it does not matter if they are cut before
  pub filled_cut : (most : ℕ) (xs ys : List A) → filled_up most xs (filled_up most [] ys) ≡ filled_up most xs ys
  filled_cut most xs ys = ap (λ zs. xs ++ zs) (take-take (most - length xs) (most - 0) ys (omega arith))

  pub filled_length : (most : ℕ) (xs : List A) → length (filled_up most [] xs) ≡ min most (length xs)
  filled_length most xs =
      let all : most - 0 ≡ most = omega arith in
      ap (λ m. length (take m xs)) all ∙ length-take most xs

  -- what is passed of one behind those of a list
  pub one_kept : (test : A → Bool) (x : A) → length (filter test (x ∷ [])) ≤ 1
  one_kept test x = choose (test x)
    where
      choose : (b : Bool) → length (if b then x ∷ [] else []) ≤ 1
      choose true = omega arith
      choose false = omega arith

-- ---- a front

module _ {A : Type 0} (test : A → Bool) where
  none_up_to : (xs : List A) → up_to test 0 xs ≡ []
  none_up_to [] = refl
  none_up_to (x ∷ xs) = refl

  pub next_up_to : (count : ℕ) (x : A) (xs : List A) → 0 < count
      → up_to test count (x ∷ xs) ≡ x ∷ up_to test (if test x then count - 1 else count) xs
  next_up_to count x xs some =
      ap (λ b. if b then [] else x ∷ up_to test (if test x then count - 1 else count) xs)
      (ne_eqb count 0 (λ none. absurd (omega (arith, some, none))))

  pub up_to_more : (count : ℕ) (xs ys : List A)
      → up_to test count (xs ++ ys)
      ≡ up_to test count xs ++ up_to test (count - length (filter test xs)) ys
  up_to_more count [] ys =
      let all : count - 0 ≡ count = omega arith in
      sym (ap (λ m. up_to test m ys) all)
  up_to_more count (x ∷ xs) ys =
      choose (count == 0) refl (test x) (up_to_more (count - 1) xs ys) (up_to_more count xs ys)
    where
      more : ℕ → Type 0
      more n = up_to test n (xs ++ ys) ≡ up_to test n xs ++ up_to test (n - length (filter test xs)) ys

      choose : (b : Bool) → (count == 0) ≡ b → (t : Bool) → more (count - 1) → more count
          → (if b then [] else x ∷ up_to test (if t then count - 1 else count) (xs ++ ys))
          ≡ (if b then [] else x ∷ up_to test (if t then count - 1 else count) xs)
          ++ up_to test (count - length (if t then x ∷ filter test xs else filter test xs)) ys
      choose true none t passed failed =
          let zeros : count ≡ 0 = eqb-true count 0 none in
          let left : count - length (if t then x ∷ filter test xs else filter test xs) ≡ 0 = omega arith in
          sym (ap (λ m. up_to test m ys) left ∙ none_up_to ys)
      choose false some true passed failed =
          let left : count - 1 - length (filter test xs) ≡ count - suc (length (filter test xs)) = omega arith in
          ap (λ zs. x ∷ zs) (passed
          ∙ ap (λ m. up_to test (count - 1) xs ++ up_to test m ys) left)
      choose false some false passed failed = ap (λ zs. x ∷ zs) failed

  -- what is passed until so many pass costs no more than what else passes a test that it passes
  pub up_to_cost : (cost : A → ℕ) (other : A → Bool) (count : ℕ) (xs : List A)
      → AllByRecursion (λ x. other x ≡ true) (up_to test count xs)
      → sum_by cost (up_to test count xs) ≤ sum_by cost (filter other xs)
  up_to_cost cost other count [] all = omega arith
  up_to_cost cost other count (x ∷ xs) all =
      choose (count == 0) all (up_to_cost cost other (if test x then count - 1 else count) xs)
    where
      left : ℕ
      left = if test x then count - 1 else count

      choose : (b : Bool) → AllByRecursion (λ x. other x ≡ true) (if b then [] else x ∷ up_to test left xs)
          → (AllByRecursion (λ x. other x ≡ true) (up_to test left xs)
          → sum_by cost (up_to test left xs) ≤ sum_by cost (filter other xs))
          → sum_by cost (if b then [] else x ∷ up_to test left xs)
          ≤ sum_by cost (if other x then x ∷ filter other xs else filter other xs)
      choose true all rest = omega arith
      choose false all rest =
          rw all.0
          (omega (
            arith,
            sum_by-cons cost x (up_to test left xs),
            sum_by-cons cost x (filter other xs),
            rest all.1,
          ))

-- of a list that is mapped
pub up_to_map : {A B : Type 0} (f : A → B) (test : B → Bool) (count : ℕ) (xs : List A)
    → up_to test count (map f xs) ≡ map f (up_to (λ x. test (f x)) count xs)
up_to_map f test count [] = refl
up_to_map f test count (x ∷ xs) =
    choose (count == 0) (up_to_map f test (if test (f x) then count - 1 else count) xs)
  where
    left : ℕ
    left = if test (f x) then count - 1 else count

    choose : (b : Bool) → up_to test left (map f xs) ≡ map f (up_to (λ x. test (f x)) left xs)
        → (if b then [] else f x ∷ up_to test left (map f xs))
        ≡ map f (if b then [] else x ∷ up_to (λ x. test (f x)) left xs)
    choose true rest = refl
    choose false rest = ap (λ zs. f x ∷ zs) rest

pub up_to_alike : {A : Type 0} (one other : A → Bool) (count : ℕ) (xs : List A)
    → AllByRecursion (λ x. one x ≡ other x) xs → up_to one count xs ≡ up_to other count xs
up_to_alike one other count [] alike = refl
up_to_alike one other count (x ∷ xs) alike =
    ap (λ b. if count == 0 then [] else x ∷ up_to one (if b then count - 1 else count) xs) alike.0
    ∙ ap (λ zs. if count == 0 then [] else x ∷ zs)
    (up_to_alike one other (if other x then count - 1 else count) xs alike.1)

-- ---- in a list that ascends, no member of the front comes behind the last one that passes

module _ {A : Type 0} (before : A → A → Bool) (test : A → Bool)
    (one_way : (x y : A) → before x y ≡ true → before y x ≡ false) where
  itself : (x : A) → before x x ≡ false
  itself x = choose (before x x) refl (one_way x x)
    where
      choose : (b : Bool) → before x x ≡ b → (before x x ≡ true → before x x ≡ false) → before x x ≡ false
      choose true is turned = turned is
      choose false is turned = is

  -- it does not come behind all of these
  abbrev reached : List A → A → Bool
  reached found x = list_any (λ q. not (before q x)) found

  -- the first of some that come behind
  first_behind : (count : ℕ) (x : A) (xs : List A) → 0 < count → count ≤ length (filter test xs)
      → AllByRecursion (λ y. before x y ≡ true) xs → reached (take count (filter test xs)) x ≡ true
  first_behind count x [] some enough behind = absurd (omega arith)
  first_behind zero x (y ∷ ys) some enough behind = absurd (omega arith)
  first_behind (suc n) x (y ∷ ys) some enough behind =
      choose (test y) enough (λ more. first_behind (suc n) x ys some more behind.1)
    where
      choose : (b : Bool) → suc n ≤ length (if b then y ∷ filter test ys else filter test ys)
          → (suc n ≤ length (filter test ys) → reached (take (suc n) (filter test ys)) x ≡ true)
          → reached (take (suc n) (if b then y ∷ filter test ys else filter test ys)) x ≡ true
      choose true enough rest = ap (λ b. not b || reached (take n (filter test ys)) x) (one_way x y behind.0)
      choose false enough rest = rest enough

  pub up_to_reached : (count : ℕ) (xs : List A) → Ascends before xs → count ≤ length (filter test xs)
      → AllByRecursion (λ x. reached (take count (filter test xs)) x ≡ true) (up_to test count xs)
  up_to_reached count [] up enough = tt
  up_to_reached zero (x ∷ xs) up enough = tt
  up_to_reached (suc n) (x ∷ xs) up enough =
      subst (AllByRecursion (λ y. reached (take (suc n) (filter test (x ∷ xs))) y ≡ true))
      (sym (next_up_to test (suc n) x xs (omega arith)))
      (choose (test x) enough (up_to_reached n xs up.1) (up_to_reached (suc n) xs up.1)
      (λ more. first_behind (suc n) x xs (omega arith) more up.0))
    where
      less : suc n - 1 ≡ n
      less = omega arith

      rest : ℕ → Type 0
      rest count = count ≤ length (filter test xs)
          → AllByRecursion (λ y. reached (take count (filter test xs)) y ≡ true) (up_to test count xs)

      choose : (b : Bool) → suc n ≤ length (if b then x ∷ filter test xs else filter test xs) → rest n → rest (suc n)
          → (suc n ≤ length (filter test xs) → reached (take (suc n) (filter test xs)) x ≡ true)
          → AllByRecursion (λ y. reached (take (suc n) (if b then x ∷ filter test xs else filter test xs)) y ≡ true)
          (x ∷ up_to test (if b then suc n - 1 else suc n) xs)
      choose true enough passed failed behind = (
        ap (λ b. not b || reached (take n (filter test xs)) x) (itself x),
        weaker (λ y. reached (take n (filter test xs)) y ≡ true)
            (λ y. reached (x ∷ take n (filter test xs)) y ≡ true) (up_to test (suc n - 1) xs)
            (λ y so. or_right (not (before x y)) (reached (take n (filter test xs)) y) so)
            (rw less (passed (omega arith))),
      )
      choose false enough passed failed behind = (behind enough, failed enough)

-- some of a list that ascends
pub ascends_kept : {A : Type 0} (before : A → A → Bool) (test : A → Bool) (xs : List A) → Ascends before xs
    → Ascends before (filter test xs)
ascends_kept before test [] up = tt
ascends_kept before test (x ∷ xs) up = choose (test x) (ascends_kept before test xs up.1)
  where
    choose : (b : Bool) → Ascends before (filter test xs)
        → Ascends before (if b then x ∷ filter test xs else filter test xs)
    choose true rest = (all-filter (λ y. before x y ≡ true) test xs up.0, rest)
    choose false rest = rest
