-- Two lists of which each pair passes a test, and two lists made in the same way.
use Rattle.std.proofs.Common.{◌≡◌, Bool, true, List, [], ◌∷◌, ap, arith, drop, get_or, length, map, refl}
use Rattle.std.specs.List.{AllByRecursion, list_all, zip}
use Rattle.std.proofs.lemmas.Bool.{and_from, and_parts}

module _ {A B C : Type 0} (f : A → C) (g : B → C) (test : A → B → Bool)
    (if_so : (a : A) (b : B) → test a b ≡ true → f a ≡ g b) (so_if : (a : A) (b : B) → f a ≡ g b → test a b ≡ true)
  where
    abbrev pair : A × B → Bool
    pair r = test r.0 r.1

    pub same_all : (xs : List A) (ys : List B) → length xs ≡ length ys → list_all pair (zip xs ys) ≡ true
        → map f xs ≡ map g ys
    same_all [] [] long all = refl
    same_all [] (y ∷ ys) long all = absurd (omega (arith, long))
    same_all (x ∷ xs) [] long all = absurd (omega (arith, long))
    same_all (x ∷ xs) (y ∷ ys) long all =
        let parts = and_parts (test x y) (list_all pair (zip xs ys)) all in
        let here : f x ≡ g y = if_so x y parts.0 in
        let rest : map f xs ≡ map g ys = same_all xs ys (omega (arith, long)) parts.1 in
        λ i. here i ∷ rest i

    pub all_same : (xs : List A) (ys : List B) → map f xs ≡ map g ys → list_all pair (zip xs ys) ≡ true
    all_same [] ys same = refl
    all_same (x ∷ xs) [] same = refl
    all_same (x ∷ xs) (y ∷ ys) same =
        and_from (test x y) (list_all pair (zip xs ys))
        (so_if x y (ap (λ (cs : List C). get_or cs 0 (f x)) same)) (all_same xs ys (ap (drop 1) same))

-- lists that two functions make alike
pub each_alike : {A B : Type 0} (f g : A → B) (xs : List A) → map f xs ≡ map g xs
    → AllByRecursion (λ x. f x ≡ g x) xs
each_alike f g [] same = tt
each_alike {A} {B} f g (x ∷ xs) same = (
  ap (λ (ys : List B). get_or ys 0 (f x)) same,
  each_alike f g xs (ap (drop 1) same),
)

pub alike_each : {A B : Type 0} (f g : A → B) (xs : List A) → AllByRecursion (λ x. f x ≡ g x) xs
    → map f xs ≡ map g xs
alike_each f g [] all = refl
alike_each {A} {B} f g (x ∷ xs) all =
    let here : f x ≡ g x = all.0 in
    let rest : map f xs ≡ map g xs = alike_each f g xs all.1 in
    λ i. here i ∷ rest i

-- what holds of each holds of all
pub each_one : {X : Type 0} (P : X → Type 0) → ((x : X) → P x) → (xs : List X) → AllByRecursion P xs
each_one P all [] = tt
each_one P all (x ∷ xs) = (all x, each_one P all xs)
