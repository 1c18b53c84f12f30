-- Lists put in order: some of the members, lists of the same members, and a list in two parts.
use Rattle.std.proofs.Common.{◌≡◌, ◌∙◌, ◌++◌, Bool, true, false, List, [], ◌∷◌, ap, filter, if◌then◌else◌, refl}
use Rattle.std.proofs.Common.{reverse, subst, sym}
use Rattle.std.specs.Cmp.{IsStrictWeakOrder}
use Rattle.std.specs.List.{AllByRecursion, IsDistinct, flat_map}
use Rattle.std.specs.List.Sorted.{IsPermutation, ties}
use Rattle.std.proofs.lemmas.Grind.{reverse_onto}
use Rattle.std.proofs.lemmas.List.Sorted.{IsPermutation-reverse, IsPermutation-sym, IsPermutation-trans}
use Rattle.std.proofs.lemmas.List.Sorted.{IsStrictWeakOrder-flip}
use Rattle.pl_base.specs.Sorting.{put_in_place, sorted_by}
use Rattle.pl_base.proofs.ListLaws.{all-filter, all_push}
use Rattle.pl_base.proofs.LookUps.{front, part, rest_of}
use Rattle.pl_base.proofs.SortLaws.{Ascends, all_sorted, ascends_sorted_by, distinct_moved, for_all}
use Rattle.pl_base.proofs.SortLaws.{only_ascending, order_of_all, sorted_moves}
use Rattle.pl_query.proofs.PartLists.{flat_sorted, same_moves}

module _ {X : Type 0} where
  -- ---- some of the members

  abbrev alone : (X → Bool) → X → List X
  alone test x = if test x then x ∷ [] else []

  filter_flat : (test : X → Bool) (xs : List X) → filter test xs ≡ flat_map (alone test) xs
  filter_flat test [] = refl
  filter_flat test (x ∷ xs) = choose (test x) (filter_flat test xs)
    where
      choose : (b : Bool) → filter test xs ≡ flat_map (alone test) xs
          → (if b then x ∷ filter test xs else filter test xs)
          ≡ (if b then x ∷ [] else []) ++ flat_map (alone test) xs
      choose true rest = ap (λ ys. x ∷ ys) rest
      choose false rest = rest

  -- the members that pass a test, of a list and of the sorted list
  pub filter_moves : (test : X → Bool) (before : X → X → Bool) (xs : List X)
      → IsPermutation (filter test xs) (filter test (sorted_by before xs))
  filter_moves test before xs =
      IsPermutation-trans (filter test xs) (flat_map (alone test) xs) (filter test (sorted_by before xs))
      (same_moves (filter test xs) (flat_map (alone test) xs) (filter_flat test xs))
      (IsPermutation-trans (flat_map (alone test) xs) (flat_map (alone test) (sorted_by before xs))
      (filter test (sorted_by before xs)) (flat_sorted (alone test) before xs)
      (same_moves (flat_map (alone test) (sorted_by before xs)) (filter test (sorted_by before xs))
      (sym (filter_flat test (sorted_by before xs)))))

  -- ---- a list in two parts

  module _ (before : X → X → Bool) where
    put_ahead : (x : X) (us ws : List X) → AllByRecursion (λ w. before x w ≡ true) ws
        → put_in_place before x (us ++ ws) ≡ put_in_place before x us ++ ws
    put_ahead x [] [] ahead = refl
    put_ahead x [] (w ∷ ws) ahead = ap (λ b. if b then x ∷ w ∷ ws else w ∷ put_in_place before x ws) ahead.0
    put_ahead x (u ∷ us) ws ahead = choose (before x u) (put_ahead x us ws ahead)
      where
        choose : (b : Bool) → put_in_place before x (us ++ ws) ≡ put_in_place before x us ++ ws
            → (if b then x ∷ u ∷ (us ++ ws) else u ∷ put_in_place before x (us ++ ws))
            ≡ (if b then x ∷ u ∷ us else u ∷ put_in_place before x us) ++ ws
        choose true rest = refl
        choose false rest = ap (λ ys. u ∷ ys) rest

    -- where each member of the first part comes before each of the second
    pub sorted_parts : (xs ys : List X) → AllByRecursion (λ x. AllByRecursion (λ y. before x y ≡ true) ys) xs
        → sorted_by before (xs ++ ys) ≡ sorted_by before xs ++ sorted_by before ys
    sorted_parts [] ys ahead = refl
    sorted_parts (x ∷ xs) ys ahead =
        ap (put_in_place before x) (sorted_parts xs ys ahead.1)
        ∙ put_ahead x (sorted_by before xs) (sorted_by before ys)
        (all_sorted before (λ y. before x y ≡ true) ys ahead.0)

    -- what stands in front of a member of a list in order, and behind it
    pub record StandsAmong (front : List X) (x : X) (rest : List X) : Type 0 where
      pub behind_all : AllByRecursion (λ u. before u x ≡ true) front
      pub ahead_of_all : AllByRecursion (λ w. before x w ≡ true) rest
      pub rest_ascends : Ascends before rest

    pub stands_among : (front : List X) (x : X) (rest : List X) → Ascends before (front ++ x ∷ rest)
        → StandsAmong front x rest
    stands_among [] x rest up = record { behind_all = tt; ahead_of_all = up.0; rest_ascends = up.1 }
    stands_among (u ∷ front) x rest up =
        let s : StandsAmong front x rest = stands_among front x rest up.1 in
        record {
          behind_all = (part (λ w. before u w ≡ true) front x rest up.0, s.behind_all);
          ahead_of_all = s.ahead_of_all;
          rest_ascends = s.rest_ascends;
        }

    -- some of the members of a list in order
    pub ascends_filter : (test : X → Bool) (xs : List X) → Ascends before xs → Ascends before (filter test xs)
    ascends_filter test [] up = tt
    ascends_filter test (x ∷ xs) up = choose (test x) (ascends_filter test xs up.1)
      where
        choose : (b : Bool) → Ascends before (filter test xs)
            → Ascends before (if b then x ∷ filter test xs else filter test xs)
        choose true rest = (all-filter (λ y. before x y ≡ true) test xs up.0, rest)
        choose false rest = rest

    pub ascends_front : (xs ys : List X) → Ascends before (xs ++ ys) → Ascends before xs
    ascends_front [] ys up = tt
    ascends_front (x ∷ xs) ys up = (front (λ y. before x y ≡ true) xs ys up.0, ascends_front xs ys up.1)

    -- each in the first part of a list in order comes before each in the second
    pub front_ahead : (xs ys : List X) → Ascends before (xs ++ ys)
        → AllByRecursion (λ x. AllByRecursion (λ y. before x y ≡ true) ys) xs
    front_ahead [] ys up = tt
    front_ahead (x ∷ xs) ys up = (rest_of (λ y. before x y ≡ true) xs ys up.0, front_ahead xs ys up.1)

    -- ---- lists of the same members

    module _ (ranks : IsStrictWeakOrder before) where
      -- a list that is in order is the sorted list of the same members
      pub already_sorted : (xs ys : List X) → IsDistinct (ties before) xs → IsPermutation xs ys → Ascends before ys
          → sorted_by before xs ≡ ys
      already_sorted xs ys apart moves up =
          only_ascending (order_of_all before ranks) (sorted_by before xs) ys (for_all (sorted_by before xs))
          (ascends_sorted_by (order_of_all before ranks) xs (for_all xs) apart) up
          (IsPermutation-trans (sorted_by before xs) xs ys
          (IsPermutation-sym xs (sorted_by before xs) (sorted_moves before xs)) moves)

      -- some of the members of the sorted list
      pub filter_sorted : (test : X → Bool) (xs : List X) → IsDistinct (ties before) xs
          → IsDistinct (ties before) (filter test xs)
          → filter test (sorted_by before xs) ≡ sorted_by before (filter test xs)
      filter_sorted test xs apart some =
          sym (already_sorted (filter test xs) (filter test (sorted_by before xs)) some (filter_moves test before xs)
          (ascends_filter test (sorted_by before xs)
          (ascends_sorted_by (order_of_all before ranks) xs (for_all xs) apart)))

      pub same_sorted : (xs ys : List X) → IsDistinct (ties before) xs → IsPermutation xs ys
          → sorted_by before xs ≡ sorted_by before ys
      same_sorted xs ys apart moves =
          already_sorted xs (sorted_by before ys) apart
          (IsPermutation-trans xs ys (sorted_by before ys) moves (sorted_moves before ys))
          (ascends_sorted_by (order_of_all before ranks) ys (for_all ys) (distinct_moved before xs ys moves apart))

-- ---- the other way round

ascends_push : {X : Type 0} (before : X → X → Bool) (xs : List X) (y : X) → Ascends before xs
    → AllByRecursion (λ x. before x y ≡ true) xs → Ascends before (xs ++ y ∷ [])
ascends_push before [] y up all = (tt, tt)
ascends_push before (x ∷ xs) y up all = (
  all_push (λ z. before x z ≡ true) xs y up.0 all.0,
  ascends_push before xs y up.1 all.1,
)

all_reversed : {X : Type 0} (P : X → Type 0) (xs : List X) → AllByRecursion P xs → AllByRecursion P (reverse xs)
all_reversed P [] all = tt
all_reversed P (x ∷ xs) all =
    subst (AllByRecursion P) (sym (reverse_onto xs x [])) (all_push P (reverse xs) x (all_reversed P xs all.1) all.0)

ascends_reversed : {X : Type 0} (before : X → X → Bool) (xs : List X) → Ascends before xs
    → Ascends (λ x y. before y x) (reverse xs)
ascends_reversed before [] up = tt
ascends_reversed before (x ∷ xs) up =
    subst (Ascends (λ x y. before y x)) (sym (reverse_onto xs x []))
    (ascends_push (λ x y. before y x) (reverse xs) x (ascends_reversed before xs up.1)
    (all_reversed (λ y. before x y ≡ true) xs up.0))

-- a list put in the other order
pub turned : {X : Type 0} (before : X → X → Bool) → IsStrictWeakOrder before → (xs : List X)
    → IsDistinct (ties before) xs → IsDistinct (ties (λ x y. before y x)) xs
    → sorted_by (λ x y. before y x) xs ≡ reverse (sorted_by before xs)
turned before ranks xs apart turned_apart =
    already_sorted (λ x y. before y x) (IsStrictWeakOrder-flip before ranks) xs (reverse (sorted_by before xs))
    turned_apart
    (IsPermutation-trans xs (sorted_by before xs) (reverse (sorted_by before xs)) (sorted_moves before xs)
    (IsPermutation-reverse (sorted_by before xs)))
    (ascends_reversed before (sorted_by before xs)
    (ascends_sorted_by (order_of_all before ranks) xs (for_all xs) apart))
