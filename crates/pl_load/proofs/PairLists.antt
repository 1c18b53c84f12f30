-- Lists whose elements go together by their places.
use Rattle.std.proofs.Common.{◌≡◌, ◌≢◌, ◌∷◌, [], ℕ, List, ap, arith, inl, inr, length, map, refl}
use Rattle.std.specs.List.{AllByRecursion, AllZip, zip}
use Rattle.pl_base.proofs.Among.{In}
use Rattle.pl_base.proofs.LookUps.{Apart}

-- ---- pairs

pub zip_map : {X Y : Type 0} (g : X → Y) (xs : List X) → zip xs (map g xs) ≡ map (λ x. (x, g x)) xs
zip_map g [] = refl
zip_map {X} {Y} g (x ∷ xs) = ap (λ (ps : List (X × Y)). (x, g x) ∷ ps) (zip_map g xs)

pub in_zip : {X Y : Type 0} (xs : List X) (ys : List Y) (p : X × Y) → In p (zip xs ys) → In p.0 xs × In p.1 ys
in_zip [] ys p within = absurd within
in_zip (x ∷ xs) [] p within = absurd within
in_zip {X} {Y} (x ∷ xs) (y ∷ ys) p (inl same) = (inl (ap (λ (q : X × Y). q.0) same), inl (ap (λ (q : X × Y). q.1) same))
in_zip (x ∷ xs) (y ∷ ys) p (inr within) = let r = in_zip xs ys p within in (inr r.0, inr r.1)

-- what holds of each of the first list
pub all_first : {X Y : Type 0} (P : X → Type 0) (xs : List X) (ys : List Y) → AllByRecursion P xs
    → AllByRecursion (λ (p : X × Y). P p.0) (zip xs ys)
all_first P [] ys all = tt
all_first P (x ∷ xs) [] all = tt
all_first P (x ∷ xs) (y ∷ ys) all = (all.0, all_first P xs ys all.1)

pub apart_first : {X Y : Type 0} (key : X → ℕ) (xs : List X) (ys : List Y) → Apart key xs
    → Apart (λ (p : X × Y). key p.0) (zip xs ys)
apart_first key [] ys apart = tt
apart_first key (x ∷ xs) [] apart = tt
apart_first {X} key (x ∷ xs) (y ∷ ys) apart =
    (all_first (λ (z : X). key z ≢ key x) xs ys apart.0, apart_first key xs ys apart.1)

-- a list of which each goes with what is made of the other
pub map_from_zip : {X Y : Type 0} (g : X → Y) (xs : List X) (ys : List Y) → length ys ≡ length xs
    → AllByRecursion (λ (p : X × Y). p.1 ≡ g p.0) (zip xs ys) → ys ≡ map g xs
map_from_zip g [] [] long all = refl
map_from_zip g [] (y ∷ ys) long all = absurd (omega (arith, long))
map_from_zip g (x ∷ xs) [] long all = absurd (omega (arith, long))
map_from_zip g (x ∷ xs) (y ∷ ys) long all =
    let rest = map_from_zip g xs ys (omega (arith, long)) all.1 in
    λ i. all.0 i ∷ rest i

-- ---- relations place by place

-- what is related to what is made of each, and to each
pub zip_joined : {X A B : Type 0} (R : A → B → Type 0) (Q : B → X → Type 0) (f : X → A) (xs : List X) (ys : List B)
    → AllZip R (map f xs) ys → AllZip Q ys xs → AllByRecursion (λ x. (y : B) × R (f x) y × Q y x) xs
zip_joined R Q f [] [] first second = tt
zip_joined R Q f [] (y ∷ ys) first second = absurd first
zip_joined R Q f (x ∷ xs) [] first second = absurd first
zip_joined R Q f (x ∷ xs) (y ∷ ys) first second =
    ((y, first.0, second.0), zip_joined R Q f xs ys first.1 second.1)
