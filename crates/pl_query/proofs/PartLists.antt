-- Lists that are gone through group by group: the same members come, in another order.
use Rattle.std.proofs.Common.{◌≡◌, ◌≢◌, ◌∙◌, ◌++◌, ◌&&◌, ◌||◌, ◌==◌, ℕ, Bool, true, false, List, [], ◌∷◌, Option}
use Rattle.std.proofs.Common.{Some, None, ap, append_assoc, arith, filter, if◌then◌else◌, map, refl, subst, sym}
use Rattle.std.specs.List.{AllByRecursion, AllPairs, IsDistinct, cons_option, filter_map, flat_map, list_any}
use Rattle.std.specs.List.Sorted.{IsPermutation}
use Rattle.std.specs.Option.{option_to_list}
use Rattle.std.specs.Cmp.{nat_eq_equiv}
use Rattle.std.proofs.lemmas.Bool.{eqb-false, false≢true, ne_eqb}
use Rattle.std.proofs.lemmas.List.Elements.{All-from_recursion}
use Rattle.std.proofs.lemmas.List.Kept.{AllPairs-cons}
use Rattle.std.proofs.lemmas.Map.Keys.{IsDistinct-IsPermutation, IsDistinct-from_apart, apart_from_distinct}
use Rattle.std.proofs.lemmas.List.Sorted.{IsPermutation-append_comm, IsPermutation-append_left}
use Rattle.std.proofs.lemmas.List.Sorted.{IsPermutation-append, IsPermutation-append_right, IsPermutation-refl}
use Rattle.std.proofs.lemmas.List.Sorted.{IsPermutation-trans}
use Rattle.pl_base.specs.Sorting.{put_in_place, sorted_by}
use Rattle.pl_base.proofs.ListLaws.{all-filter, to_map, weaker}
use Rattle.pl_base.proofs.LookUps.{Apart}

-- ---- equal lists in another order

pub same_moves : {X : Type 0} (xs ys : List X) → xs ≡ ys → IsPermutation xs ys
same_moves xs ys same = subst (IsPermutation xs) same (IsPermutation-refl xs)

-- what stands behind a list goes in front of it
pub to_front : {X : Type 0} (xs ys zs : List X) → IsPermutation (xs ++ (ys ++ zs)) (ys ++ (xs ++ zs))
to_front xs ys zs =
    subst (IsPermutation (xs ++ (ys ++ zs))) (append_assoc ys xs zs)
    (subst (λ (ws : List _). IsPermutation ws ((ys ++ xs) ++ zs)) (append_assoc xs ys zs)
    (IsPermutation-append_left zs (xs ++ ys) (ys ++ xs) (IsPermutation-append_comm xs ys)))

-- no member passes the tests of two groups
abbrev pub AreExclusive : {K X : Type 0} → (K → X → Bool) → List K → Type 0
AreExclusive test [] = Unit {0}
AreExclusive {X = X} test (k ∷ ks) =
    ((x : X) → test k x ≡ true → list_any (λ l. test l x) ks ≡ false) × AreExclusive test ks

module _ {X Y : Type 0} (g : X → List Y) where
  -- ---- a list put in order

  placed : (before : X → X → Bool) (x : X) (ys : List X)
      → IsPermutation (flat_map g (x ∷ ys)) (flat_map g (put_in_place before x ys))
  placed before x [] = IsPermutation-refl (flat_map g (x ∷ []))
  placed before x (y ∷ ys) = choose (before x y) (placed before x ys)
    where
      choose : (b : Bool) → IsPermutation (flat_map g (x ∷ ys)) (flat_map g (put_in_place before x ys))
          → IsPermutation (flat_map g (x ∷ y ∷ ys))
          (flat_map g (if b then x ∷ y ∷ ys else y ∷ put_in_place before x ys))
      choose true rest = IsPermutation-refl (flat_map g (x ∷ y ∷ ys))
      choose false rest =
          IsPermutation-trans (g x ++ (g y ++ flat_map g ys)) (g y ++ (g x ++ flat_map g ys))
          (g y ++ flat_map g (put_in_place before x ys)) (to_front (g x) (g y) (flat_map g ys))
          (IsPermutation-append_right (g y) (g x ++ flat_map g ys) (flat_map g (put_in_place before x ys)) rest)

  pub flat_sorted : (before : X → X → Bool) (xs : List X)
      → IsPermutation (flat_map g xs) (flat_map g (sorted_by before xs))
  flat_sorted before [] = IsPermutation-refl []
  flat_sorted before (x ∷ xs) =
      IsPermutation-trans (g x ++ flat_map g xs) (g x ++ flat_map g (sorted_by before xs))
      (flat_map g (put_in_place before x (sorted_by before xs)))
      (IsPermutation-append_right (g x) (flat_map g xs) (flat_map g (sorted_by before xs)) (flat_sorted before xs))
      (placed before x (sorted_by before xs))

  -- ---- a list group by group

  -- the members that pass one of two tests, of which none passes both
  split : (a b : X → Bool) → ((x : X) → a x ≡ true → b x ≡ false) → (xs : List X)
      → IsPermutation (flat_map g (filter (λ x. a x || b x) xs))
      (flat_map g (filter a xs) ++ flat_map g (filter b xs))
  split a b apart [] = IsPermutation-refl []
  split a b apart (x ∷ xs) = choose (a x) (b x) refl refl (split a b apart xs)
    where
      both : List Y
      both = flat_map g (filter (λ y. a y || b y) xs)

      first : List Y
      first = flat_map g (filter a xs)

      second : List Y
      second = flat_map g (filter b xs)

      choose : (p q : Bool) → a x ≡ p → b x ≡ q → IsPermutation both (first ++ second)
          → IsPermutation (flat_map g (if p || q then x ∷ filter (λ y. a y || b y) xs else filter (λ y. a y || b y) xs))
          (flat_map g (if p then x ∷ filter a xs else filter a xs)
          ++ flat_map g (if q then x ∷ filter b xs else filter b xs))
      choose true true is also rest = absurd (false≢true (sym (apart x is) ∙ also))
      choose true false is also rest =
          subst (IsPermutation (g x ++ both)) (sym (append_assoc (g x) first second))
          (IsPermutation-append_right (g x) both (first ++ second) rest)
      choose false true is also rest =
          IsPermutation-trans (g x ++ both) (g x ++ (first ++ second)) (first ++ (g x ++ second))
          (IsPermutation-append_right (g x) both (first ++ second) rest)
          (to_front (g x) first second)
      choose false false is also rest = rest

  none_left : (xs : List X) → filter (λ _. false) xs ≡ []
  none_left [] = refl
  none_left (x ∷ xs) = none_left xs

  pub grouped : {K : Type 0} (test : K → X → Bool) (ks : List K) (xs : List X) → AreExclusive test ks
      → IsPermutation (flat_map g (filter (λ x. list_any (λ k. test k x) ks) xs))
      (flat_map (λ k. flat_map g (filter (test k) xs)) ks)
  grouped test [] xs apart = same_moves (flat_map g (filter (λ _. false) xs)) [] (ap (flat_map g) (none_left xs))
  grouped test (k ∷ ks) xs apart =
      IsPermutation-trans (flat_map g (filter (λ x. test k x || list_any (λ l. test l x) ks) xs))
      (flat_map g (filter (test k) xs) ++ flat_map g (filter (λ x. list_any (λ l. test l x) ks) xs))
      (flat_map (λ l. flat_map g (filter (test l) xs)) (k ∷ ks))
      (split (test k) (λ x. list_any (λ l. test l x) ks) apart.0 xs)
      (IsPermutation-append_right (flat_map g (filter (test k) xs))
      (flat_map g (filter (λ x. list_any (λ l. test l x) ks) xs))
      (flat_map (λ l. flat_map g (filter (test l) xs)) ks) (grouped test ks xs apart.1))

  -- members that give nothing may go
  pub passing : (test : X → Bool) (xs : List X) → ((x : X) → test x ≡ false → g x ≡ [])
      → flat_map g (filter test xs) ≡ flat_map g xs
  passing test [] nothing = refl
  passing test (x ∷ xs) nothing = choose (test x) refl (passing test xs nothing)
    where
      choose : (b : Bool) → test x ≡ b → flat_map g (filter test xs) ≡ flat_map g xs
          → flat_map g (if b then x ∷ filter test xs else filter test xs) ≡ g x ++ flat_map g xs
      choose true is rest = ap (λ (ys : List Y). g x ++ ys) rest
      choose false is rest = rest ∙ ap (λ (ys : List Y). ys ++ flat_map g xs) (sym (nothing x is))

-- each group in another order
pub flat_moves : {K Y : Type 0} (f h : K → List Y) (ks : List K) → AllByRecursion (λ k. IsPermutation (f k) (h k)) ks
    → IsPermutation (flat_map f ks) (flat_map h ks)
flat_moves f h [] all = IsPermutation-refl []
flat_moves f h (k ∷ ks) all =
    IsPermutation-append (f k) (h k) (flat_map f ks) (flat_map h ks) all.0 (flat_moves f h ks all.1)

-- ---- what is there of some

pub flat_is : {X Y : Type 0} (f : X → Option Y) (xs : List X)
    → filter_map f xs ≡ flat_map (λ x. option_to_list (f x)) xs
flat_is f [] = refl
flat_is f (x ∷ xs) = choose (f x) (flat_is f xs)
  where
    choose : (o : Option _) → filter_map f xs ≡ flat_map (λ x. option_to_list (f x)) xs
        → cons_option o (filter_map f xs) ≡ option_to_list o ++ flat_map (λ x. option_to_list (f x)) xs
    choose None rest = rest
    choose (Some y) rest = ap (λ ys. y ∷ ys) rest

-- members that are there where they pass a test, and all of them where b holds
pub where_holds : {X Y : Type 0} (f : X → Option Y) (a : X → Bool) (b : Bool) (h : X → Y) (xs : List X)
    → AllByRecursion (λ x. f x ≡ (if a x && b then Some (h x) else None)) xs
    → flat_map (λ x. option_to_list (f x)) xs ≡ (if b then map h (filter a xs) else [])
where_holds f a true h [] all = refl
where_holds f a false h [] all = refl
where_holds f a b h (x ∷ xs) all =
    ap (λ o. option_to_list o ++ flat_map (λ y. option_to_list (f y)) xs) all.0
    ∙ choose (a x) b (where_holds f a b h xs all.1)
  where
    choose : (p q : Bool) → flat_map (λ y. option_to_list (f y)) xs ≡ (if q then map h (filter a xs) else [])
        → option_to_list (if p && q then Some (h x) else None) ++ flat_map (λ y. option_to_list (f y)) xs
        ≡ (if q then map h (if p then x ∷ filter a xs else filter a xs) else [])
    choose true true rest = ap (λ ys. h x ∷ ys) rest
    choose true false rest = rest
    choose false true rest = rest
    choose false false rest = rest

-- ---- numbers that stand once

pub all_there : {X Y : Type 0} (f : X → Option Y) (P : X → Type 0) (Q : Y → Type 0)
    → ((x : X) (y : Y) → f x ≡ Some y → P x → Q y) → (xs : List X) → AllByRecursion P xs
    → AllByRecursion Q (filter_map f xs)
all_there f P Q on [] all = tt
all_there {Y = Y} f P Q on (x ∷ xs) all = choose (f x) refl (all_there f P Q on xs all.1)
  where
    choose : (o : Option Y) → f x ≡ o → AllByRecursion Q (filter_map f xs)
        → AllByRecursion Q (cons_option o (filter_map f xs))
    choose None is rest = rest
    choose (Some y) is rest = (on x y is all.0, rest)

pub apart_there : {X Y : Type 0} (f : X → Option Y) (key : X → ℕ) (number : Y → ℕ)
    → ((x : X) (y : Y) → f x ≡ Some y → number y ≡ key x) → (xs : List X) → Apart key xs
    → Apart number (filter_map f xs)
apart_there f key number same [] apart = tt
apart_there {Y = Y} f key number same (x ∷ xs) apart = choose (f x) refl (apart_there f key number same xs apart.1)
  where
    choose : (o : Option Y) → f x ≡ o → Apart number (filter_map f xs)
        → Apart number (cons_option o (filter_map f xs))
    choose None is rest = rest
    choose (Some y) is rest = (
      all_there f (λ z. key z ≢ key x) (λ z. number z ≢ number y)
          (λ z w at other alike. other (sym (same z w at) ∙ alike ∙ same x y is)) xs apart.0,
      rest,
    )

pub apart_map : {X Y : Type 0} (h : X → Y) (key : X → ℕ) (number : Y → ℕ) → ((x : X) → number (h x) ≡ key x)
    → (a : X → Bool) (xs : List X) → Apart key xs → Apart number (map h (filter a xs))
apart_map h key number same a [] apart = tt
apart_map h key number same a (x ∷ xs) apart = choose (a x) (apart_map h key number same a xs apart.1)
  where
    choose : (b : Bool) → Apart number (map h (filter a xs))
        → Apart number (map h (if b then x ∷ filter a xs else filter a xs))
    choose true rest = (
      to_map (λ y. number y ≢ number (h x)) h (filter a xs)
          (weaker (λ z. key z ≢ key x) (λ z. number (h z) ≢ number (h x)) (filter a xs)
          (λ z other alike. other (sym (same z) ∙ alike ∙ same x))
          (all-filter (λ z. key z ≢ key x) a xs apart.0)),
      rest,
    )
    choose false rest = rest

pub apart_pairs : {X : Type 0} (key : X → ℕ) (xs : List X) → Apart key xs → AllPairs (λ x y. key x ≢ key y) xs
apart_pairs key [] apart = λ i j d before within. absurd (omega arith)
apart_pairs key (x ∷ xs) apart =
    AllPairs-cons (λ y z. key y ≢ key z) x xs
    (All-from_recursion (λ y. key x ≢ key y) xs
    (weaker (λ y. key y ≢ key x) (λ y. key x ≢ key y) xs (λ y other same. other (sym same)) apart.0))
    (apart_pairs key xs apart.1)

-- numbers that stand once do so in another order
pub pairs_moved : {X : Type 0} (key : X → ℕ) (xs ys : List X) → IsPermutation xs ys
    → AllPairs (λ x y. key x ≢ key y) xs → AllPairs (λ x y. key x ≢ key y) ys
pairs_moved {X = X} key xs ys moves apart i j d less within =
    eqb-false _ _ (apart_from_distinct alike ys i j d distinct less within)
  where
    alike : X → X → Bool
    alike x y = key x == key y

    distinct : IsDistinct alike ys
    distinct =
        IsDistinct-IsPermutation alike (λ x y. nat_eq_equiv.symm (key x) (key y)) xs ys moves
        (IsDistinct-from_apart alike xs (λ m n e above last. ne_eqb _ _ (apart m n e above last)))

-- what holds of the members of each group
pub all_flat : {K Y : Type 0} (P : Y → Type 0) (f : K → List Y) (ks : List K)
    → AllByRecursion (λ k. AllByRecursion P (f k)) ks → AllByRecursion P (flat_map f ks)
all_flat P f [] all = tt
all_flat {Y = Y} P f (k ∷ ks) all = all_behind (f k) (flat_map f ks) all.0 (all_flat P f ks all.1)
  where
    all_behind : (ys zs : List Y) → AllByRecursion P ys → AllByRecursion P zs → AllByRecursion P (ys ++ zs)
    all_behind [] zs here rest = rest
    all_behind (y ∷ ys) zs here rest = (here.0, all_behind ys zs here.1 rest)
