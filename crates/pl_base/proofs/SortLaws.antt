-- `sorted_by` sorts: the members are the same, each goes before those behind it, and no other list is so.
-- The test is an order of what has P, as the members of one list have (`members`), or of all (`order_of_all`).
--     sorted_moves, all_sorted, ascends_sorted_by      the members, what holds of each, and their order
--     sorted_is, weak_sorted_is      what a sort by the same test gives
--     stable_is              what a stable sort gives of a list that is in order by another test
--     sorted_map, sorted_alike, sorted_same      a mapped list, and two tests that agree on the members, or on all
--     none_tie, apart_sorted      members whose numbers differ do not tie, and differ when sorted
use Rattle.std.proofs.Common.{◌≡◌, ◌≢◌, ◌∙◌, ◌+◌, ◌==◌, ◌&&◌, ◌||◌, inl, inr, ℕ, Bool, true}
use Rattle.std.proofs.Common.{false, List, [], ◌∷◌, ap, arith, get_or, if◌then◌else◌, map, not, refl}
use Rattle.std.proofs.Common.{eqb, nat_lt, subst, suc, sym}
use Rattle.std.specs.Cmp.{IsStrictWeakOrder, nat_eq_equiv}
use Rattle.std.specs.List.{AllByRecursion, AllPairs, Contains, IsDistinct}
use Rattle.std.specs.List.Sorted.{IsPermutation, IsSortedBy, IsStableBy, ties}
use Rattle.std.proofs.lemmas.Bool.{cases_Bool, eqb-false, false≢true, false_from_ne_true, ne_eqb, or_parts}
use Rattle.std.proofs.lemmas.Bool.Decides.{nat_tests}
use Rattle.std.proofs.lemmas.List.Elements.{All-from_recursion, recursion_from_All}
use Rattle.std.proofs.lemmas.List.Sorted.{All-permutation, IsPermutation-cons}
use Rattle.std.proofs.lemmas.List.Sorted.{IsPermutation-middle, IsPermutation-refl, IsPermutation-sym}
use Rattle.std.proofs.lemmas.List.Sorted.{IsPermutation-trans, ties_stay_sorted}
use Rattle.std.proofs.lemmas.Map.Keys.{IsDistinct-IsPermutation, IsDistinct-from_apart, apart_from_distinct}
use Rattle.pl_base.specs.Sorting.{put_in_place, sorted_by}
use Rattle.std.specs.Ordering.{is_lt, nat_cmp}
use Rattle.pl_base.proofs.Among.{In, all_from_in, at_in, contains_from_in, in_permutation}
use Rattle.pl_base.proofs.ListLaws.{weaker}

-- ---- what is a member of a list

-- each member of a list is one
pub members : {A : Type 0} (xs : List A) → AllByRecursion (Contains xs) xs
members xs = all_from_in (Contains xs) xs (contains_from_in xs)

-- what holds of each holds in another order
pub all_moved : {A : Type 0} (P : A → Type 0) (xs ys : List A) → IsPermutation xs ys → AllByRecursion P xs
    → AllByRecursion P ys
all_moved P xs ys moves all =
    recursion_from_All P ys (All-permutation P xs ys moves (All-from_recursion P xs all))

-- ---- the same members

module _ {A : Type 0} (before : A → A → Bool) where
  placed_moves : (x : A) (ys : List A) → IsPermutation (x ∷ ys) (put_in_place before x ys)
  placed_moves x [] = IsPermutation-refl (x ∷ [])
  placed_moves x (y ∷ ys) =
      choose (before x y)
      (IsPermutation-trans _ _ _ (IsPermutation-sym _ _ (IsPermutation-middle (y ∷ []) x ys))
      (IsPermutation-cons y _ _ (placed_moves x ys)))
    where
      choose : (b : Bool) → IsPermutation (x ∷ y ∷ ys) (y ∷ put_in_place before x ys)
          → IsPermutation (x ∷ y ∷ ys) (if b then x ∷ y ∷ ys else y ∷ put_in_place before x ys)
      choose true further = IsPermutation-refl (x ∷ y ∷ ys)
      choose false further = further

  pub sorted_moves : (xs : List A) → IsPermutation xs (sorted_by before xs)
  sorted_moves [] = IsPermutation-refl []
  sorted_moves (x ∷ xs) =
      IsPermutation-trans _ _ _ (IsPermutation-cons x _ _ (sorted_moves xs)) (placed_moves x (sorted_by before xs))

  -- what holds of each member holds of the sorted ones
  pub all_placed : (P : A → Type 0) (x : A) (ys : List A) → P x → AllByRecursion P ys
      → AllByRecursion P (put_in_place before x ys)
  all_placed P x [] one all = (one, tt)
  all_placed P x (y ∷ ys) one all = choose (before x y) (all_placed P x ys one all.1)
    where
      choose : (b : Bool) → AllByRecursion P (put_in_place before x ys)
          → AllByRecursion P (if b then x ∷ y ∷ ys else y ∷ put_in_place before x ys)
      choose true further = (one, all)
      choose false further = (all.0, further)

  pub all_sorted : (P : A → Type 0) (xs : List A) → AllByRecursion P xs → AllByRecursion P (sorted_by before xs)
  all_sorted P [] all = tt
  all_sorted P (x ∷ xs) all = all_placed P x (sorted_by before xs) all.0 (all_sorted P xs all.1)

  -- two tie either way round
  ties-sym : (x y : A) → ties before x y ≡ ties before y x
  ties-sym x y = swap (before x y) (before y x)
    where
      swap : (a b : Bool) → (not a && not b) ≡ (not b && not a)
      swap true true = refl
      swap true false = refl
      swap false true = refl
      swap false false = refl

  -- no two members tie, however they are put in order
  pub distinct_moved : (xs ys : List A) → IsPermutation xs ys → IsDistinct (ties before) xs
      → IsDistinct (ties before) ys
  distinct_moved = IsDistinct-IsPermutation (ties before) ties-sym

  pub none_tie : (key : A → ℕ) → ((x y : A) → ties before x y ≡ true → key x ≡ key y) → (xs : List A)
      → AllPairs (λ x y. key x ≢ key y) xs → IsDistinct (ties before) xs
  none_tie key same xs apart =
      IsDistinct-from_apart (ties before) xs
      (λ i j d less within. false_from_ne_true _ (λ tie. apart i j d less within (same _ _ tie)))

  -- members whose numbers differ are such when sorted
  pub apart_sorted : (key : A → ℕ) (xs : List A) → AllPairs (λ x y. key x ≢ key y) xs
      → AllPairs (λ x y. key x ≢ key y) (sorted_by before xs)
  apart_sorted key xs apart i j d less within =
      eqb-false _ _ (apart_from_distinct alike (sorted_by before xs) i j d distinct less within)
    where
      alike : A → A → Bool
      alike x y = key x == key y

      distinct : IsDistinct alike (sorted_by before xs)
      distinct =
          IsDistinct-IsPermutation alike (λ x y. nat_eq_equiv.symm (key x) (key y)) xs (sorted_by before xs)
          (sorted_moves xs)
          (IsDistinct-from_apart alike xs (λ m n e above last. ne_eqb _ _ (apart m n e above last)))

-- ---- in order

-- of two that have P at most one goes before the other, and what goes before one goes before those behind it
pub record IsStrictOrderOn {A : Type 0} (P : A → Type 0) (before : A → A → Bool) : Type 0 where
  pub one_way : (x y : A) → P x → P y → before x y ≡ true → before y x ≡ false
  pub on : (x y z : A) → P x → P y → P z → before x y ≡ true → before y z ≡ true → before x z ≡ true

-- each member goes before those behind it
abbrev pub Ascends : {A : Type 0} → (A → A → Bool) → List A → Type 0
Ascends before [] = Unit {0}
Ascends before (x ∷ xs) = AllByRecursion (λ y. before x y ≡ true) xs × Ascends before xs

-- of two that do not tie one goes before the other
turned : {A : Type 0} (before : A → A → Bool) (x y : A) → ties before x y ≡ false → before x y ≡ false
    → before y x ≡ true
turned before x y apart test = choose (before x y) (before y x) apart test
  where
    choose : (a b : Bool) → (not a && not b) ≡ false → a ≡ false → b ≡ true
    choose true b apart test = absurd (false≢true (sym test))
    choose false true apart test = refl
    choose false false apart test = absurd (false≢true (sym apart))

module _ {A : Type 0} {P : A → Type 0} {before : A → A → Bool} (order : IsStrictOrderOn P before) where
  both_of : (Q R : A → Type 0) (xs : List A) → AllByRecursion Q xs → AllByRecursion R xs
      → AllByRecursion (λ x. Q x × R x) xs
  both_of Q R [] qs rs = tt
  both_of Q R (x ∷ xs) qs rs = ((qs.0, rs.0), both_of Q R xs qs.1 rs.1)

  -- what goes before one goes before what stands behind that
  before_all : (x y : A) (ys : List A) → P x → AllByRecursion P (y ∷ ys) → before x y ≡ true
      → AllByRecursion (λ z. before y z ≡ true) ys → AllByRecursion (λ z. before x z ≡ true) ys
  before_all x y ys px all first up =
      weaker (λ z. P z × (before y z ≡ true)) (λ z. before x z ≡ true) ys
      (λ z h. order.on x y z px all.0 h.0 first h.1) (both_of P (λ z. before y z ≡ true) ys all.1 up)

  ascends_placed : (x : A) (ys : List A) → P x → AllByRecursion P ys → AllByRecursion (λ y. ties before x y ≡ false) ys
      → Ascends before ys → Ascends before (put_in_place before x ys)
  ascends_placed x [] px all apart up = (tt, tt)
  ascends_placed x (y ∷ ys) px all apart up =
      choose (before x y) refl (ascends_placed x ys px all.1 apart.1 up.1)
    where
      choose : (b : Bool) → before x y ≡ b → Ascends before (put_in_place before x ys)
          → Ascends before (if b then x ∷ y ∷ ys else y ∷ put_in_place before x ys)
      choose true test further = ((test, before_all x y ys px all test up.0), up)
      choose false test further =
          (all_placed before (λ z. before y z ≡ true) x ys (turned before x y apart.0 test) up.0, further)

  pub ascends_sorted_by : (xs : List A) → AllByRecursion P xs → IsDistinct (ties before) xs
      → Ascends before (sorted_by before xs)
  unfolding IsDistinct
  ascends_sorted_by [] all apart = tt
  ascends_sorted_by (x ∷ xs) all apart =
      ascends_placed x (sorted_by before xs) all.0 (all_sorted before P xs all.1)
      (all_sorted before (λ y. ties before x y ≡ false) xs apart.0) (ascends_sorted_by xs all.1 apart.1)

  -- what a sort puts in order ascends
  pub ascends_from_sorted : (xs : List A) → AllByRecursion P xs → IsDistinct (ties before) xs → IsSortedBy before xs
      → Ascends before xs
  unfolding IsDistinct
  ascends_from_sorted [] all apart sorted = tt
  ascends_from_sorted (x ∷ []) all apart sorted = (tt, tt)
  ascends_from_sorted (x ∷ y ∷ ys) all apart sorted =
      let tail : IsSortedBy before (y ∷ ys) =
      λ k d low within.
      let next : suc k + 1 ≡ suc (k + 1) = omega arith in
      subst (λ j. before (get_or (x ∷ y ∷ ys) j d) (get_or (y ∷ ys) k d) ≡ false) next
      (sorted (suc k) d (omega arith) (omega arith)) in
      let rest : Ascends before (y ∷ ys) = ascends_from_sorted (y ∷ ys) all.1 apart.1 tail in
      let first : before x y ≡ true =
      turned before y x (ties-sym before y x ∙ apart.0.0) (sorted 0 x (omega arith) (omega arith)) in
      ((first, before_all x y ys all.0 all.1 first rest.0), rest)

  -- ---- one such list

  never : {X : Type 0} (x y : A) → P x → P y → before x y ≡ true → before y x ≡ true → X
  never x y px py here back = absurd (false≢true (sym (order.one_way x y px py here) ∙ back))

  same_first : (x y : A) (xs ys : List A) → AllByRecursion P (x ∷ xs) → P y → Ascends before (x ∷ xs)
      → Ascends before (y ∷ ys) → In x (y ∷ ys) → In y (x ∷ xs) → x ≡ y
  same_first x y xs ys all py up_x up_y (inl e) back = e
  same_first x y xs ys all py up_x up_y (inr h) (inl e) = sym e
  same_first x y xs ys all py up_x up_y (inr h) (inr g) =
      never x y all.0 py (at_in (λ z. before x z ≡ true) xs y up_x.0 g) (at_in (λ z. before y z ≡ true) ys x up_y.0 h)

  behind : (x y z : A) (xs ys : List A) → P x → x ≡ y → AllByRecursion (λ w. before x w ≡ true) xs → In z xs
      → In z (y ∷ ys) → In z ys
  behind x y z xs ys px same up h (inr g) = g
  behind x y z xs ys px same up h (inl e) =
      let above : before x z ≡ true = at_in (λ w. before x w ≡ true) xs z up h in
      let itself : before x x ≡ true = subst (λ w. before x w ≡ true) (e ∙ sym same) above in
      never x x px px itself itself

  only : (xs ys : List A) → AllByRecursion P xs → AllByRecursion P ys → Ascends before xs → Ascends before ys
      → ((z : A) → In z xs → In z ys) → ((z : A) → In z ys → In z xs) → xs ≡ ys
  only [] [] all_x all_y up_x up_y to back = refl
  only [] (y ∷ ys) all_x all_y up_x up_y to back = absurd (back y (inl refl))
  only (x ∷ xs) [] all_x all_y up_x up_y to back = absurd (to x (inl refl))
  only (x ∷ xs) (y ∷ ys) all_x all_y up_x up_y to back =
      let first : x ≡ y = same_first x y xs ys all_x all_y.0 up_x up_y (to x (inl refl)) (back y (inl refl)) in
      let rest : xs ≡ ys =
      only xs ys all_x.1 all_y.1 up_x.1 up_y.1
      (λ z h. behind x y z xs ys all_x.0 first up_x.0 h (to z (inr h)))
      (λ z h. behind y x z ys xs all_y.0 (sym first) up_y.0 h (back z (inr h)))
      in
      rw (first, rest)

  pub only_ascending : (xs ys : List A) → AllByRecursion P xs → Ascends before xs → Ascends before ys
      → IsPermutation xs ys → xs ≡ ys
  only_ascending xs ys all up_x up_y moves =
      only xs ys all (all_moved P xs ys moves all) up_x up_y
      (λ z. in_permutation xs ys z moves)
      (λ z. in_permutation ys xs z (IsPermutation-sym xs ys moves))

  -- what a sort gives is the sorted list
  pub sorted_is : (xs ys : List A) → AllByRecursion P xs → IsDistinct (ties before) xs → IsPermutation xs ys
      → IsSortedBy before ys → ys ≡ sorted_by before xs
  sorted_is xs ys all apart moves sorted =
      only_ascending ys (sorted_by before xs) (all_moved P xs ys moves all)
      (ascends_from_sorted ys (all_moved P xs ys moves all) (distinct_moved before xs ys moves apart) sorted)
      (ascends_sorted_by xs all apart)
      (IsPermutation-trans _ _ _ (IsPermutation-sym xs ys moves) (sorted_moves before xs))

-- ---- a mapped list, and another test

module _ {A B : Type 0} (f : A → B) (before : B → B → Bool) where
  abbrev pub test_of : A → A → Bool
  test_of x y = before (f x) (f y)

  placed_map : (x : A) (ys : List A) → map f (put_in_place test_of x ys) ≡ put_in_place before (f x) (map f ys)
  placed_map x [] = refl
  placed_map x (y ∷ ys) = choose (before (f x) (f y)) (placed_map x ys)
    where
      choose : (b : Bool) → map f (put_in_place test_of x ys) ≡ put_in_place before (f x) (map f ys)
          → map f (if b then x ∷ y ∷ ys else y ∷ put_in_place test_of x ys)
          ≡ (if b then f x ∷ f y ∷ map f ys else f y ∷ put_in_place before (f x) (map f ys))
      choose true rest = refl
      choose false rest = ap (λ zs. f y ∷ zs) rest

  pub sorted_map : (xs : List A) → map f (sorted_by test_of xs) ≡ sorted_by before (map f xs)
  sorted_map [] = refl
  sorted_map (x ∷ xs) = placed_map x (sorted_by test_of xs) ∙ ap (put_in_place before (f x)) (sorted_map xs)

module _ {A : Type 0} (P : A → Type 0) (before other : A → A → Bool)
    (alike : (x y : A) → P x → P y → before x y ≡ other x y) where
  placed_alike : (x : A) (ys : List A) → P x → AllByRecursion P ys
      → put_in_place before x ys ≡ put_in_place other x ys
  placed_alike x [] px all = refl
  placed_alike x (y ∷ ys) px all =
      ap (λ b. if b then x ∷ y ∷ ys else y ∷ put_in_place before x ys) (alike x y px all.0)
      ∙ ap (λ zs. if other x y then x ∷ y ∷ ys else y ∷ zs) (placed_alike x ys px all.1)

  -- two tests that agree on the members sort alike
  pub sorted_alike : (xs : List A) → AllByRecursion P xs → sorted_by before xs ≡ sorted_by other xs
  sorted_alike [] all = refl
  sorted_alike (x ∷ xs) all =
      placed_alike x (sorted_by before xs) all.0 (all_sorted before P xs all.1)
      ∙ ap (put_in_place other x) (sorted_alike xs all.1)

-- ---- a test that orders all there is

pub for_all : {A : Type 0} (xs : List A) → AllByRecursion (λ _. Unit {0}) xs
for_all [] = tt
for_all (x ∷ xs) = (tt, for_all xs)

pub order_of_all : {A : Type 0} (before : A → A → Bool) → IsStrictWeakOrder before
    → IsStrictOrderOn (λ _. Unit {0}) before
order_of_all {A = A} before ranks = record { one_way = λ x y px py. ranks.one_way x y; on = on }
  where
    on : (x y z : A) → Unit {0} → Unit {0} → Unit {0} → before x y ≡ true → before y z ≡ true → before x z ≡ true
    on x y z px py pz first second =
        elim (cases_Bool (before x z)) as (λ _. before x z ≡ true) [
          | inl is ↦ is
          | inr not_so ↦ absurd (false≢true (sym (ranks.chain y x z (ranks.one_way x y first) not_so) ∙ second))
        ]

pub weak_sorted_is : {A : Type 0} (before : A → A → Bool) → IsStrictWeakOrder before → (xs ys : List A)
    → IsDistinct (ties before) xs → IsPermutation xs ys → IsSortedBy before ys → ys ≡ sorted_by before xs
weak_sorted_is before ranks xs ys = sorted_is (order_of_all before ranks) xs ys (for_all xs)

pub sorted_same : {A : Type 0} (before other : A → A → Bool) → ((x y : A) → before x y ≡ other x y) → (xs : List A)
    → sorted_by before xs ≡ sorted_by other xs
sorted_same before other alike xs =
    sorted_alike (λ _. Unit {0}) before other (λ x y px py. alike x y) xs (for_all xs)

-- a test that another one gives is an order where that is one
pub ranks_alike : {A : Type 0} (before other : A → A → Bool) → ((x y : A) → before x y ≡ other x y)
    → IsStrictWeakOrder other → IsStrictWeakOrder before
ranks_alike before other alike ranks =
    record {
      one_way = λ x y first. alike y x ∙ ranks.one_way x y (sym (alike x y) ∙ first);
      chain = λ x y z xy yz. alike x z ∙ ranks.chain x y z (sym (alike x y) ∙ xy) (sym (alike y z) ∙ yz);
    }

-- two numbers tie where they are one
pub numbers_tie : (m n : ℕ) → (not (is_lt (nat_cmp m n)) && not (is_lt (nat_cmp n m))) ≡ eqb n m
numbers_tie m n = grind (arith, nat_tests)

pub tied_numbers : (m n : ℕ) → ties nat_lt m n ≡ true → m ≡ n
tied_numbers m n tie = grind (arith, nat_tests)

-- ---- by one test, and where it ties by another

abbrev pub then_by : {A : Type 0} → (A → A → Bool) → (A → A → Bool) → A → A → Bool
then_by first second x y = first x y || (not (first y x) && second x y)

neither : (a b c : Bool) → a ≡ false → (b ≡ false → c ≡ false) → (a || (not b && c)) ≡ false
neither true b c not_so rest = not_so
neither false true c not_so rest = refl
neither false false c not_so rest = rest refl

-- the greater number first, and of equal ones by another test
pub then_by_number : (m n : ℕ) (b : Bool) → (nat_lt n m || ((n == m) && b)) ≡ (nat_lt n m || (not (nat_lt m n) && b))
then_by_number m n b = grind (arith, nat_tests)

-- what ties in both ties by the second test
pub then_ties : {A : Type 0} (first second : A → A → Bool) (x y : A) → ties (then_by first second) x y ≡ true
    → ties second x y ≡ true
then_ties first second x y = choose (first x y) (first y x) (second x y) (second y x)
  where
    choose : (a b c d : Bool) → (not (a || (not b && c)) && not (b || (not a && d))) ≡ true
        → (not c && not d) ≡ true
    choose true b c d tie = absurd (false≢true tie)
    choose false true true d tie = absurd (false≢true tie)
    choose false true false d tie = absurd (false≢true tie)
    choose false false c d tie = tie

module _ {A : Type 0} (first second : A → A → Bool) (one : IsStrictWeakOrder first)
    (two : IsStrictWeakOrder second) where
  pub then_ranks : IsStrictWeakOrder (then_by first second)
  then_ranks = record { one_way = one_way; chain = chain }
    where
      one_way : (x y : A) → then_by first second x y ≡ true → then_by first second y x ≡ false
      one_way x y =
          choose (first x y) (first y x) (second x y) (second y x) (one.one_way x y) (two.one_way x y)
        where
          choose : (a b c d : Bool) → (a ≡ true → b ≡ false) → (c ≡ true → d ≡ false)
              → (a || (not b && c)) ≡ true → (b || (not a && d)) ≡ false
          choose true b c d here there is = rw (here refl) refl
          choose false true c d here there is = absurd (false≢true is)
          choose false false c d here there is = there is

      -- what is not before another in either way is not before it by the second test
      second_not : (x y : A) → then_by first second x y ≡ false → first y x ≡ false → second x y ≡ false
      second_not x y = choose (first x y) (first y x) (second x y)
        where
          choose : (a b c : Bool) → (a || (not b && c)) ≡ false → b ≡ false → c ≡ false
          choose true b c is back = absurd (false≢true (sym is))
          choose false true c is back = absurd (false≢true (sym back))
          choose false false c is back = is

      chain : (x y z : A) → then_by first second x y ≡ false → then_by first second y z ≡ false
          → then_by first second x z ≡ false
      chain x y z xy yz =
          let xy_not : first x y ≡ false = (or_parts (first x y) _ xy).0 in
          let yz_not : first y z ≡ false = (or_parts (first y z) _ yz).0 in
          neither (first x z) (first z x) (second x z) (one.chain x y z xy_not yz_not)
          (λ back.
          two.chain x y z
          (second_not x y xy (one.chain y z x yz_not back)) (second_not y z yz (one.chain z x y back xy_not)))

  -- what a stable sort by the first test gives of a list that the second has put in order
  pub stable_is : (xs ys : List A) → IsSortedBy second xs → IsDistinct (ties (then_by first second)) xs
      → IsPermutation xs ys → IsSortedBy first ys → IsStableBy first xs ys
      → ys ≡ sorted_by (then_by first second) xs
  stable_is xs ys up apart moves sorted stable =
      weak_sorted_is (then_by first second) then_ranks xs ys apart moves
      (λ k d low within.
      let behind_not = sorted k d low within in
      neither _ _ _ behind_not
      (λ ahead_not.
      ties_stay_sorted second first two one xs ys up stable k d within (rw (ahead_not, behind_not) refl)))
