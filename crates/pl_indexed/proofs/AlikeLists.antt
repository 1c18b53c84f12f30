-- Two lists whose members go together place by place, and what is made of both in the same way.
use Rattle.std.proofs.Common.{◌≡◌, ◌==◌, ◌∙◌, ℕ, Bool, true, false, List, [], ◌∷◌, ap, if◌then◌else◌}
use Rattle.std.proofs.Common.{map, refl, suc, take, zero}
use Rattle.pl_base.specs.Sorting.{put_in_place, sorted_by}
use Rattle.pl_query.specs.QueryAnswer.{limited}

-- the members of both lists at one place go together
abbrev pub AreAlike : {X Y : Type 0} → (X → Y → Type 0) → List X → List Y → Type 0
AreAlike R [] [] = Unit {0}
AreAlike R [] (y ∷ ys) = ⊥
AreAlike R (x ∷ xs) [] = ⊥
AreAlike R (x ∷ xs) (y ∷ ys) = R x y × AreAlike R xs ys

module _ {X Y : Type 0} (R : X → Y → Type 0) where
  alike_taken : (n : ℕ) (xs : List X) (ys : List Y) → AreAlike R xs ys → AreAlike R (take n xs) (take n ys)
  alike_taken zero xs ys alike = tt
  alike_taken (suc n) [] [] alike = tt
  alike_taken (suc n) [] (y ∷ ys) alike = absurd alike
  alike_taken (suc n) (x ∷ xs) [] alike = absurd alike
  alike_taken (suc n) (x ∷ xs) (y ∷ ys) alike = (alike.0, alike_taken n xs ys alike.1)

  pub alike_limited : (most : ℕ) (xs : List X) (ys : List Y) → AreAlike R xs ys
      → AreAlike R (limited most xs) (limited most ys)
  alike_limited most xs ys alike = choose (most == 0)
    where
      choose : (b : Bool) → AreAlike R (if b then xs else take most xs) (if b then ys else take most ys)
      choose true = alike
      choose false = alike_taken most xs ys alike

  -- what is told alike of each that go together
  pub alike_map : {Z : Type 0} (f : X → Z) (g : Y → Z) → ((x : X) (y : Y) → R x y → f x ≡ g y) → (xs : List X)
      (ys : List Y) → AreAlike R xs ys → map f xs ≡ map g ys
  alike_map f g same [] [] alike = refl
  alike_map f g same [] (y ∷ ys) alike = absurd alike
  alike_map f g same (x ∷ xs) [] alike = absurd alike
  alike_map f g same (x ∷ xs) (y ∷ ys) alike =
      ap (λ z. z ∷ map f xs) (same x y alike.0)
      ∙ ap (λ zs. g y ∷ zs) (alike_map f g same xs ys alike.1)

  module _ (before : X → X → Bool) (other : Y → Y → Bool)
      (same : (x z : X) (y w : Y) → R x y → R z w → before x z ≡ other y w) where
    alike_placed : (x : X) (y : Y) (xs : List X) (ys : List Y) → R x y → AreAlike R xs ys
        → AreAlike R (put_in_place before x xs) (put_in_place other y ys)
    alike_placed x y [] [] one alike = (one, tt)
    alike_placed x y [] (w ∷ ys) one alike = absurd alike
    alike_placed x y (z ∷ xs) [] one alike = absurd alike
    alike_placed x y (z ∷ xs) (w ∷ ys) one alike =
        choose (before x z) (other y w) (same x z y w one alike.0) (alike_placed x y xs ys one alike.1)
      where
        choose : (a b : Bool) → a ≡ b → AreAlike R (put_in_place before x xs) (put_in_place other y ys)
            → AreAlike R (if a then x ∷ z ∷ xs else z ∷ put_in_place before x xs)
            (if b then y ∷ w ∷ ys else w ∷ put_in_place other y ys)
        choose true true is rest = (one, alike)
        choose true false is rest = absurd (cc)
        choose false true is rest = absurd (cc)
        choose false false is rest = (alike.0, rest)

    -- two tests that agree on those that go together sort alike
    pub alike_sorted : (xs : List X) (ys : List Y) → AreAlike R xs ys
        → AreAlike R (sorted_by before xs) (sorted_by other ys)
    alike_sorted [] [] alike = tt
    alike_sorted [] (y ∷ ys) alike = absurd alike
    alike_sorted (x ∷ xs) [] alike = absurd alike
    alike_sorted (x ∷ xs) (y ∷ ys) alike =
        alike_placed x y (sorted_by before xs) (sorted_by other ys) alike.0 (alike_sorted xs ys alike.1)
