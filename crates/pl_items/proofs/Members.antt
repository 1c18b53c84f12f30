-- Elements of a list by their places.
use Rattle.std.proofs.Common.{◌<◌, inl, inr, ℕ, List, [], ◌∷◌}
use Rattle.std.proofs.Common.{arith, refl, length, get_or, suc, zero}
use Rattle.std.specs.List.{AllByRecursion, AllPairs}
use Rattle.std.proofs.lemmas.List.Elements.{recursion_from_All}
use Rattle.pl_base.proofs.Among.{In}

module _ {X : Type 0} where
  pub in_place : (xs : List X) (k : ℕ) (d : X) → k < length xs → In (get_or xs k d) xs
  in_place [] k d lt = absurd (omega arith)
  in_place (x ∷ xs) zero d lt = inl refl
  in_place (x ∷ xs) (suc k) d lt = inr (in_place xs k d (omega arith))

  pub pairs_head : (R : X → X → Type 0) (x : X) (xs : List X) → AllPairs R (x ∷ xs) → AllByRecursion (R x) xs
  pairs_head R x xs pairs =
      recursion_from_All (R x) xs (λ k d lt. pairs 0 (suc k) d (omega arith) (omega arith))

  pub pairs_tail : (R : X → X → Type 0) (x : X) (xs : List X) → AllPairs R (x ∷ xs) → AllPairs R xs
  pairs_tail R x xs pairs i j d before within = pairs (suc i) (suc j) d (omega arith) (omega arith)
