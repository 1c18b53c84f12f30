-- Lists in two parts by a test, lists in another order, and lists that stand beside others.
use Rattle.std.proofs.Common.{◌≡◌, ◌∙◌, ◌∷◌, [], ◌++◌, ◌&&◌, Bool, true, false, List, ap, append-nil, filter, map}
use Rattle.std.proofs.Common.{if◌then◌else◌, not, refl}
use Rattle.std.specs.List.{AllByRecursion, AllZip, list_all}
use Rattle.std.proofs.lemmas.Bool.{and_from, and_parts}
use Rattle.std.proofs.lemmas.List.Elements.{filter-append}
use Rattle.pl_base.proofs.ListLaws.{all_stay, weaker}
use Rattle.pl_base.proofs.LookUps.{none_kept}

-- ---- what holds of each

pub all_pass : {X : Type 0} (test : X → Bool) (xs : List X) → list_all test xs ≡ true
    → AllByRecursion (λ x. test x ≡ true) xs
all_pass test [] all = tt
all_pass test (x ∷ xs) all =
    let parts = and_parts (test x) (list_all test xs) all in
    (parts.0, all_pass test xs parts.1)

pub pass_all : {X : Type 0} (test : X → Bool) (xs : List X) → AllByRecursion (λ x. test x ≡ true) xs
    → list_all test xs ≡ true
pass_all test [] all = refl
pass_all test (x ∷ xs) all = and_from (test x) (list_all test xs) all.0 (pass_all test xs all.1)

-- what is made of each, and made back of that
pub made_back : {X Y : Type 0} (f : X → Y) (g : Y → X) (xs : List X) → AllByRecursion (λ x. g (f x) ≡ x) xs
    → map g (map f xs) ≡ xs
made_back f g [] all = refl
made_back f g (x ∷ xs) all = λ i. all.0 i ∷ made_back f g xs all.1 i

-- ---- two parts by a test

-- what passes one test, of what passes another
pub kept_of_kept : {X : Type 0} (p q : X → Bool) (xs : List X)
    → filter p (filter q xs) ≡ filter (λ x. p x && q x) xs
kept_of_kept p q [] = refl
kept_of_kept {X} p q (x ∷ xs) = choose (q x) (kept_of_kept p q xs)
  where
    with_one : (a : Bool) (us vs : List X) → us ≡ vs
        → (if a then x ∷ us else us) ≡ (if a && true then x ∷ vs else vs)
    with_one true us vs same = ap (λ (zs : List X). x ∷ zs) same
    with_one false us vs same = same

    without : (a : Bool) (us vs : List X) → us ≡ vs → us ≡ (if a && false then x ∷ vs else vs)
    without true us vs same = same
    without false us vs same = same

    choose : (b : Bool) → filter p (filter q xs) ≡ filter (λ y. p y && q y) xs
        → filter p (if b then x ∷ filter q xs else filter q xs)
        ≡ (if p x && b then x ∷ filter (λ y. p y && q y) xs else filter (λ y. p y && q y) xs)
    choose true same = with_one (p x) (filter p (filter q xs)) (filter (λ y. p y && q y) xs) same
    choose false same = without (p x) (filter p (filter q xs)) (filter (λ y. p y && q y) xs) same

module _ {X : Type 0} (test : X → Bool) (xs ys : List X) (passing : AllByRecursion (λ x. test x ≡ true) xs)
    (failing : AllByRecursion (λ x. test x ≡ false) ys) where
  -- the front passes the test, and the back fails it
  pub front_kept : filter test (xs ++ ys) ≡ xs
  front_kept =
      filter-append test xs ys
      ∙ (λ i. all_stay test xs passing i ++ none_kept test ys failing i)
      ∙ append-nil xs

  pub back_kept : filter (λ x. not (test x)) (xs ++ ys) ≡ ys
  back_kept =
      filter-append (λ x. not (test x)) xs ys
      ∙ (λ i.
      none_kept (λ x. not (test x)) xs
      (weaker (λ x. test x ≡ true) (λ x. not (test x) ≡ false) xs (λ x passes. ap not passes) passing) i
      ++ all_stay (λ x. not (test x)) ys
      (weaker (λ x. test x ≡ false) (λ x. not (test x) ≡ true) ys (λ x fails. ap not fails) failing) i)

-- ---- lists beside others

-- what holds of two things that are made of each
pub zip_made : {X A B : Type 0} (R : A → B → Type 0) (f : X → A) (g : X → B) (xs : List X)
    → AllByRecursion (λ x. R (f x) (g x)) xs → AllZip R (map f xs) (map g xs)
zip_made R f g [] all = tt
zip_made R f g (x ∷ xs) all = (all.0, zip_made R f g xs all.1)

pub zip_from_made : {X A B : Type 0} (R : A → B → Type 0) (f : X → A) (xs : List X) (ys : List B)
    → AllZip R (map f xs) ys → AllZip (λ x y. R (f x) y) xs ys
zip_from_made R f [] [] all = tt
zip_from_made R f [] (y ∷ ys) all = absurd all
zip_from_made R f (x ∷ xs) [] all = absurd all
zip_from_made R f (x ∷ xs) (y ∷ ys) all = (all.0, zip_from_made R f xs ys all.1)

-- what holds of each on the left, of each on the right, and of both
pub zip_joined : {A B : Type 0} (P : A → Type 0) (Q : B → Type 0) (R S : A → B → Type 0) (xs : List A) (ys : List B)
    → ((x : A) (y : B) → P x → Q y → R x y → S x y) → AllByRecursion P xs → AllByRecursion Q ys → AllZip R xs ys
    → AllZip S xs ys
zip_joined P Q R S [] [] join ps qs all = tt
zip_joined P Q R S [] (y ∷ ys) join ps qs all = absurd all
zip_joined P Q R S (x ∷ xs) [] join ps qs all = absurd all
zip_joined P Q R S (x ∷ xs) (y ∷ ys) join ps qs all =
    (join x y ps.0 qs.0 all.0, zip_joined P Q R S xs ys join ps.1 qs.1 all.1)
