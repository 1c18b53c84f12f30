-- Facts of lists.
use Rattle.std.proofs.Common.{Some, ◌==◌, append_assoc, eqb-true, find, replicate, suc, zero}
use Rattle.std.proofs.Common.{◌≡◌, ◌+◌, ◌<◌, ◌≤◌, ◌++◌, ◌&&◌, ◌||◌, ◌∙◌, ℕ, All, Bool, true, false, List}
use Rattle.std.proofs.Common.{[], ◌∷◌, ap, arith, count_by, filter, if◌then◌else◌, length, map, refl, subst}
use Rattle.std.proofs.Common.{nat_eq, not, sym, take}
use Rattle.std.proofs.Math.Seq.{take-append_seam}
use Rattle.std.specs.List.{AllByRecursion, AllPairs, list_all, list_any, starts_with, sum_by, zip}
use Rattle.std.specs.Option.{IsSome, option_map}
use Rattle.std.proofs.lemmas.Bool.{and_from, and_parts, or_left, or_right}
use Rattle.std.proofs.lemmas.List.{get_or-map, length-map}
use Rattle.std.proofs.lemmas.List.Elements.{All-head, All-tail}
use Rattle.std.proofs.lemmas.List.Folds.{fold-map, list_any-append}
use Rattle.std.proofs.lemmas.List.Sums.{count_by-le-length, length-filter, sum_by-cons}
use Rattle.std.proofs.lemmas.Slice.Eq.{bytes_eq-Decides}

pub map-map : {X Y Z : Type 0} (g : Y → Z) (f : X → Y) (xs : List X) → map g (map f xs) ≡ map (λ x. g (f x)) xs
map-map g f [] = refl
map-map g f (x ∷ xs) = ap (λ zs. g (f x) ∷ zs) (map-map g f xs)

pub map-alike : {X Y : Type 0} (f g : X → Y) (xs : List X) → ((x : X) → f x ≡ g x) → map f xs ≡ map g xs
map-alike f g [] alike = refl
map-alike f g (x ∷ xs) alike = rw (alike x, map-alike f g xs alike)

pub All-from_map : {X Y : Type 0} (P : Y → Type 0) (f : X → Y) (xs : List X) → All P (map f xs) → All (λ x. P (f x)) xs
All-from_map P f xs all k d within =
    subst P (get_or-map f xs k d (f d) within) (all k (f d) (rw (length-map xs f) within))

pub AllPairs-map : {X Y : Type 0} (R : Y → Y → Type 0) (f : X → Y) (xs : List X) → AllPairs (λ x y. R (f x) (f y)) xs
    → AllPairs R (map f xs)
AllPairs-map R f [] pairs i j d before within = absurd (omega arith)
AllPairs-map R f (x ∷ xs) pairs i j d before within =
    let last : j < length (x ∷ xs) = rw (length-map (x ∷ xs) f) at within in
    let first : i < length (x ∷ xs) = omega arith in
    rw (get_or-map f (x ∷ xs) i x d first, get_or-map f (x ∷ xs) j x d last) (pairs i j x before last)

pub AllPairs-from_map : {X Y : Type 0} (R : Y → Y → Type 0) (f : X → Y) (xs : List X) → AllPairs R (map f xs)
    → AllPairs (λ x y. R (f x) (f y)) xs
AllPairs-from_map R f xs pairs i j d before within =
    let last : j < length (map f xs) = rw (length-map xs f) within in
    let first : i < length xs = omega arith in
    rw (get_or-map f xs i d (f d) first, get_or-map f xs j d (f d) within) at (pairs i j (f d) before last)

pub sum_by-map : {X Y : Type 0} (f : Y → ℕ) (g : X → Y) (xs : List X) → sum_by f (map g xs) ≡ sum_by (λ x. f (g x)) xs
sum_by-map f g xs = fold-map (λ a y. a + f y) g 0 xs

pub sum_by-agree : {X : Type 0} (f g : X → ℕ) (xs : List X) → All (λ x. f x ≡ g x) xs → sum_by f xs ≡ sum_by g xs
sum_by-agree f g [] agree = refl
sum_by-agree f g (x ∷ xs) agree =
    omega (
      arith,
      sum_by-cons f x xs,
      sum_by-cons g x xs,
      All-head (λ y. f y ≡ g y) x xs agree,
      sum_by-agree f g xs (All-tail (λ y. f y ≡ g y) x xs agree),
    )

pub sum_by-le : {X : Type 0} (f g : X → ℕ) (xs : List X) → ((x : X) → f x ≤ g x) → sum_by f xs ≤ sum_by g xs
sum_by-le f g [] below = omega arith
sum_by-le f g (x ∷ xs) below =
    omega (arith, sum_by-cons f x xs, sum_by-cons g x xs, below x, sum_by-le f g xs below)

pub list_any-map : {X Y : Type 0} (p : Y → Bool) (f : X → Y) (xs : List X)
    → list_any p (map f xs) ≡ list_any (λ x. p (f x)) xs
list_any-map p f [] = refl
list_any-map p f (x ∷ xs) = ap (λ b. p (f x) || b) (list_any-map p f xs)

pub list_any-alike : {X : Type 0} (p q : X → Bool) (xs : List X) → ((x : X) → p x ≡ q x) → list_any p xs ≡ list_any q xs
list_any-alike p q [] alike = refl
list_any-alike p q (x ∷ xs) alike = rw (alike x, list_any-alike p q xs alike)

pub list_all-alike : {X : Type 0} (p q : X → Bool) (xs : List X) → ((x : X) → p x ≡ q x) → list_all p xs ≡ list_all q xs
list_all-alike p q [] alike = refl
list_all-alike p q (x ∷ xs) alike =
    ap (λ (b : Bool). b && list_all p xs) (alike x) ∙ ap (λ (b : Bool). q x && b) (list_all-alike p q xs alike)

-- all pass where none fails
pub list_all-by_any : {X : Type 0} (p : X → Bool) (xs : List X) → list_all p xs ≡ not (list_any (λ x. not (p x)) xs)
list_all-by_any p [] = refl
list_all-by_any p (x ∷ xs) = ap (λ b. p x && b) (list_all-by_any p xs) ∙ both (p x) (list_any (λ y. not (p y)) xs)
  where
    both : (a b : Bool) → (a && not b) ≡ not (not a || b)
    both true b = refl
    both false b = refl

pub any-or : {X : Type 0} (p q : X → Bool) (xs : List X)
    → list_any (λ x. p x || q x) xs ≡ (list_any p xs || list_any q xs)
any-or p q [] = refl
any-or p q (x ∷ xs) =
    ap (λ (b : Bool). (p x || q x) || b) (any-or p q xs) ∙ mix (p x) (q x) (list_any p xs) (list_any q xs)
  where
    mix : (a b c d : Bool) → ((a || b) || (c || d)) ≡ ((a || c) || (b || d))
    mix true b c d = refl
    mix false true true d = refl
    mix false true false d = refl
    mix false false c d = refl

pub any-and : {X : Type 0} (p : X → Bool) (b : Bool) (xs : List X) → list_any (λ x. p x && b) xs ≡ (list_any p xs && b)
any-and p b [] = refl
any-and p b (x ∷ xs) = ap (λ (c : Bool). (p x && b) || c) (any-and p b xs) ∙ join (p x) b (list_any p xs)
  where
    join : (a b c : Bool) → ((a && b) || (c && b)) ≡ ((a || c) && b)
    join true true c = refl
    join true false true = refl
    join true false false = refl
    join false b c = refl

pub any-where : {X : Type 0} (p q : X → Bool) (xs : List X) → AllByRecursion (λ x. p x ≡ q x) xs
    → list_any p xs ≡ list_any q xs
any-where p q [] alike = refl
any-where p q (x ∷ xs) alike = rw (alike.0, any-where p q xs alike.1)

pub filter-where : {X : Type 0} (p q : X → Bool) (xs : List X) → AllByRecursion (λ x. p x ≡ q x) xs
    → filter p xs ≡ filter q xs
filter-where p q [] alike = refl
filter-where p q (x ∷ xs) alike = rw (alike.0, filter-where p q xs alike.1)

pub list_any_push : {X : Type 0} (p : X → Bool) (xs : List X) (x : X) → list_any p xs ≡ true
    → list_any p (xs ++ x ∷ []) ≡ true
list_any_push p xs x some = list_any-append p xs (x ∷ []) ∙ or_left (list_any p xs) (p x || false) some

pub list_any_last : {X : Type 0} (p : X → Bool) (xs : List X) (x : X) → p x ≡ true → list_any p (xs ++ x ∷ []) ≡ true
list_any_last p xs x passes =
    list_any-append p xs (x ∷ []) ∙ or_right (list_any p xs) (p x || false) (or_left (p x) false passes)

both-le : (a b : Bool) → (if a && b then 1 else 0) ≤ (if a then 1 else 0)
both-le true true = omega arith
both-le true false = omega arith
both-le false b = omega arith

-- fewer pass two tests than one of them
pub count_by-and-le : {X : Type 0} (p q : X → Bool) (xs : List X) → count_by (λ x. p x && q x) xs ≤ count_by p xs
count_by-and-le p q [] = omega arith
count_by-and-le p q (x ∷ xs) =
    omega (
      arith,
      both-le (p x) (q x),
      sum_by-cons (λ y. if p y && q y then 1 else 0) x xs,
      sum_by-cons (λ y. if p y then 1 else 0) x xs,
      count_by-and-le p q xs,
    )

-- ---- what holds of each element, by recursion

pub weaker : {X : Type 0} (P Q : X → Type 0) (xs : List X) → ((x : X) → P x → Q x) → AllByRecursion P xs
    → AllByRecursion Q xs
weaker P Q [] f all = tt
weaker P Q (x ∷ xs) f all = (f x all.0, weaker P Q xs f all.1)

pub from_map : {X Y : Type 0} (P : Y → Type 0) (f : X → Y) (xs : List X) → AllByRecursion P (map f xs)
    → AllByRecursion (λ x. P (f x)) xs
from_map P f [] all = tt
from_map P f (x ∷ xs) all = (all.0, from_map P f xs all.1)

pub to_map : {X Y : Type 0} (P : Y → Type 0) (f : X → Y) (xs : List X) → AllByRecursion (λ x. P (f x)) xs
    → AllByRecursion P (map f xs)
to_map P f [] all = tt
to_map P f (x ∷ xs) all = (all.0, to_map P f xs all.1)

pub all-filter : {X : Type 0} (P : X → Type 0) (q : X → Bool) (xs : List X) → AllByRecursion P xs
    → AllByRecursion P (filter q xs)
all-filter P q [] all = tt
all-filter P q (x ∷ xs) all = choose (q x) (all-filter P q xs all.1)
  where
    choose : (b : Bool) → AllByRecursion P (filter q xs) → AllByRecursion P (if b then x ∷ filter q xs else filter q xs)
    choose true rest = (all.0, rest)
    choose false rest = rest

pub list_all-filter : {X : Type 0} (p q : X → Bool) (xs : List X) → list_all p xs ≡ true
    → list_all p (filter q xs) ≡ true
list_all-filter p q [] all = refl
list_all-filter {X} p q (x ∷ xs) all =
    choose (q x) (and_parts _ _ all).0 (list_all-filter p q xs (and_parts _ _ all).1)
  where
    choose : (v : Bool) → p x ≡ true → list_all p (filter q xs) ≡ true
        → list_all p (if v then x ∷ filter q xs else filter q xs) ≡ true
    choose true this rest = and_from _ _ this rest
    choose false this rest = rest

pub filter-le : {X : Type 0} (q : X → Bool) (xs : List X) → length (filter q xs) ≤ length xs
filter-le q xs = omega (arith, length-filter q xs, count_by-le-length q xs)

pub everyone : {X : Type 0} (P : X → Type 0) (xs : List X) → ((x : X) → P x) → AllByRecursion P xs
everyone P [] holds = tt
everyone P (x ∷ xs) holds = (holds x, everyone P xs holds)

pub all_append : {X : Type 0} (P : X → Type 0) (xs ys : List X) → AllByRecursion P xs → AllByRecursion P ys
    → AllByRecursion P (xs ++ ys)
all_append P [] ys one two = two
all_append P (x ∷ xs) ys one two = (one.0, all_append P xs ys one.1 two)

pub all_push : {X : Type 0} (P : X → Type 0) (xs : List X) (x : X) → AllByRecursion P xs → P x
    → AllByRecursion P (xs ++ x ∷ [])
all_push P [] x all one = (one, tt)
all_push P (y ∷ ys) x all one = (all.0, all_push P ys x all.1 one)

pub all_take : {X : Type 0} (P : X → Type 0) (n : ℕ) (xs : List X) → AllByRecursion P xs → AllByRecursion P (take n xs)
all_take P zero xs all = tt
all_take P (suc n) [] all = tt
all_take P (suc n) (x ∷ xs) all = (all.0, all_take P n xs all.1)

-- of each on the right
pub all_second : {X Y : Type 0} (P : Y → Type 0) (xs : List X) (ys : List Y) → AllByRecursion P ys
    → AllByRecursion (λ (p : X × Y). P p.1) (zip xs ys)
all_second P [] ys all = tt
all_second P (x ∷ xs) [] all = tt
all_second P (x ∷ xs) (y ∷ ys) all = (all.0, all_second P xs ys all.1)

pub all_stay : {X : Type 0} (test : X → Bool) (xs : List X) → AllByRecursion (λ x. test x ≡ true) xs → filter test xs ≡ xs
all_stay test [] all = refl
all_stay test (x ∷ xs) all = rw (all.0, all_stay test xs all.1) refl

pub filter-map : {X Y : Type 0} (p : Y → Bool) (f : X → Y) (xs : List X)
    → filter p (map f xs) ≡ map f (filter (λ x. p (f x)) xs)
filter-map p f [] = refl
filter-map {X} {Y} p f (x ∷ xs) = choose (p (f x)) (filter-map p f xs)
  where
    choose : (b : Bool) → filter p (map f xs) ≡ map f (filter (λ y. p (f y)) xs)
        → (if b then f x ∷ filter p (map f xs) else filter p (map f xs))
        ≡ map f (if b then x ∷ filter (λ y. p (f y)) xs else filter (λ y. p (f y)) xs)
    choose true rest = ap (λ (ys : List Y). f x ∷ ys) rest
    choose false rest = rest

-- ---- what is found

pub find-map : {A B : Type 0} (p : B → Bool) (f : A → B) (xs : List A)
    → find p (map f xs) ≡ option_map f (find (λ x. p (f x)) xs)
find-map p f [] = refl
find-map p f (x ∷ xs) =
    elim (p (f x)) as (λ b. (if b then Some (f x) else find p (map f xs))
    ≡ option_map f (if b then Some x else find (λ x. p (f x)) xs)) [ true ↦ refl | false ↦ find-map p f xs ]

pub found_in : {A : Type 0} (p : A → Bool) (xs : List A) → list_any p xs ≡ true → IsSome (find p xs)
found_in p [] some = absurd (cc)
found_in p (x ∷ xs) some = choose (p x) some (found_in p xs)
  where
    choose : (b : Bool) → (b || list_any p xs) ≡ true → (list_any p xs ≡ true → IsSome (find p xs))
        → IsSome (if b then Some x else find p xs)
    choose true here rest = refl
    choose false here rest = rest here

pub some_in : {A : Type 0} (p : A → Bool) (xs : List A) → IsSome (find p xs) → list_any p xs ≡ true
some_in p [] found = absurd (cc)
some_in p (x ∷ xs) found = choose (p x) found (some_in p xs)
  where
    choose : (b : Bool) → IsSome (if b then Some x else find p xs) → (IsSome (find p xs) → list_any p xs ≡ true)
        → (b || list_any p xs) ≡ true
    choose true here rest = refl
    choose false here rest = rest here

-- ---- equal lists

pub same_somes : {X : Type 0} (xs ys : List X) → map Some xs ≡ map Some ys → xs ≡ ys
same_somes [] [] same = refl
same_somes [] (y ∷ ys) same = absurd (cc)
same_somes (x ∷ xs) [] same = absurd (cc)
same_somes (x ∷ xs) (y ∷ ys) same =
    let head : x ≡ y = cc in
    let tail : map Some xs ≡ map Some ys = cc in
    rw (head, same_somes xs ys tail)

-- ---- joined lists

pub starts_with-append : (xs ys : List ℕ) → starts_with nat_eq (xs ++ ys) xs ≡ true
starts_with-append xs ys = (bytes_eq-Decides xs (take (length xs) (xs ++ ys))).1 (sym (take-append_seam xs ys))

-- grouped from the back

-- one piece appended, and then another
pub append_twice : {X : Type 0} (xs ys zs one two : List X) → ys ≡ xs ++ one → zs ≡ ys ++ two
    → zs ≡ xs ++ (one ++ two)
append_twice {X} xs ys zs one two first second =
    second ∙ ap (λ (s : List X). s ++ two) first ∙ append_assoc xs one two

pub regroup_four : {X : Type 0} (a b c d : List X) → ((a ++ b) ++ c) ++ d ≡ a ++ (b ++ (c ++ d))
regroup_four a b c d = simp append_assoc

pub regroup_seven : {X : Type 0} (a b c d e f g : List X)
    → (((((a ++ b) ++ c) ++ d) ++ e) ++ f) ++ g ≡ a ++ (b ++ (c ++ (d ++ (e ++ (f ++ g)))))
regroup_seven a b c d e f g = simp append_assoc

-- ---- bytes that are 0

zeros_cons : (b : ℕ) (bs : List ℕ) → (b == 0) ≡ true → bs ≡ replicate (length bs) 0
    → b ∷ bs ≡ replicate (length (b ∷ bs)) 0
zeros_cons b bs is_zero rest =
    let first : b ≡ 0 = eqb-true b 0 is_zero in
    cc

-- bytes that all are 0 are so many zeros
pub zeros_are : (bs : List ℕ) → list_all (λ b. b == 0) bs ≡ true → bs ≡ replicate (length bs) 0
zeros_are [] all = refl
zeros_are (b ∷ bs) all =
    let parts = and_parts (b == 0) (list_all (λ b. b == 0) bs) all in
    zeros_cons b bs parts.0 (zeros_are bs parts.1)

pub all_zeros : (n : ℕ) → list_all (λ b. b == 0) (replicate n 0) ≡ true
all_zeros zero = refl
all_zeros (suc n) = all_zeros n
