-- What is a member of a list.
use Rattle.std.proofs.Common.{◌≡◌, ◌⊎◌, ◌++◌, List, [], ◌∷◌, Some, ℕ, ap, inl, inr}
use Rattle.std.proofs.Common.{refl, suc, sym, zero}
use Rattle.std.specs.List.{slice_get}
use Rattle.pl_base.proofs.Among.{In}

pub in_last : {A : Type 0} (xs : List A) (y : A) → In y (xs ++ y ∷ [])
in_last [] y = inl refl
in_last (x ∷ xs) y = inr (in_last xs y)

-- a member of a list with one more is one of the list, or that one
pub in_pushed : {A : Type 0} (z : A) (xs : List A) (y : A) → In z (xs ++ y ∷ []) → In z xs ⊎ (z ≡ y)
in_pushed z [] y (inl e) = inr e
in_pushed z [] y (inr h) = absurd h
in_pushed z (x ∷ xs) y (inl e) = inl (inl e)
in_pushed z (x ∷ xs) y (inr h) =
    elim (in_pushed z xs y h) as (λ _. (In z (x ∷ xs)) ⊎ (z ≡ y)) [ inl g ↦ inl (inr g) | inr e ↦ inr e ]

-- by places
pub place_of : {A : Type 0} (z : A) (xs : List A) → In z xs → (i : ℕ) × (slice_get xs i ≡ Some z)
place_of z [] h = absurd h
place_of z (x ∷ xs) (inl e) = (zero, ap (λ y. Some y) (sym e))
place_of z (x ∷ xs) (inr h) = let r = place_of z xs h in (suc r.0, r.1)

pub at_place : {A : Type 0} (z : A) (xs : List A) (i : ℕ) → slice_get xs i ≡ Some z → In z xs
at_place z [] i is = absurd (cc)
at_place z (x ∷ xs) zero is = let same : z ≡ x = cc in inl same
at_place z (x ∷ xs) (suc i) is = inr (at_place z xs i is)
