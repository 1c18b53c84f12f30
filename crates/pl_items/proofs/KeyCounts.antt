-- How often a key stands in a list, and in the lists that lists make.
use Rattle.std.proofs.Common.{◌≡◌, ◌≢◌, ◌+◌, ◌<◌, ◌≤◌, ◌++◌, ◌∙◌, inl, inr, ℕ, List, [], ◌∷◌}
use Rattle.std.proofs.Common.{ap, sym, subst, arith, refl}
use Rattle.std.specs.List.{AllPairs, flat_map, sum_by}
use Rattle.std.proofs.lemmas.List.Elements.{All-from_recursion}
use Rattle.std.proofs.lemmas.List.Kept.{AllPairs-cons}
use Rattle.std.proofs.lemmas.List.Sums.{sum_by-append, sum_by-cons}
use Rattle.pl_base.proofs.Among.{In, at_in, in_back, in_either, in_front}
use Rattle.pl_base.proofs.KeyCounts.{Ascends, count, count-append}
use Rattle.pl_items.proofs.Members.{pairs_head, pairs_tail}

-- ---- sums over a part of a list

module _ {X : Type 0} where
  pub split_at : (ys : List X) (x : X) → In x ys → (front : List X) × (back : List X) × (ys ≡ front ++ x ∷ back)
  split_at [] x h = absurd h
  split_at (y ∷ ys) x (inl e) = ([], ys, ap (λ z. z ∷ ys) (sym e))
  split_at (y ∷ ys) x (inr h) =
      let r = split_at ys x h in (y ∷ r.0, r.1, ap (λ zs. y ∷ zs) r.2)

  left_over : (x z : X) (front back : List X) → x ≢ z → In z (front ++ x ∷ back) → In z (front ++ back)
  left_over x z front back apart h =
      elim (in_either front (x ∷ back) z h) as (λ _. In z (front ++ back)) [
        | inl g ↦ in_front front back z g
        | inr (inl e) ↦ absurd (apart (sym e))
        | inr (inr g) ↦ in_back front back z g
      ]

  -- some elements of a list, none of them twice, have no greater sum
  pub sum_of_part : (g : X → ℕ) (xs ys : List X) → AllPairs (λ x y. x ≢ y) xs → ((x : X) → In x xs → In x ys)
      → sum_by g xs ≤ sum_by g ys
  sum_of_part g [] ys apart known = omega arith
  sum_of_part g (x ∷ xs) ys apart known =
      let cut = split_at ys x (known x (inl refl)) in
      let rest = sum_of_part g xs (cut.0 ++ cut.1) (pairs_tail (λ a b. a ≢ b) x xs apart) (λ z h.
      left_over x z cut.0 cut.1 (at_in (λ w. x ≢ w) xs z (pairs_head (λ a b. a ≢ b) x xs apart) h)
      (subst (In z) cut.2 (known z (inr h))))
      in
      omega (
        arith,
        rest,
        sum_by-cons g x xs,
        ap (sum_by g) cut.2,
        sum_by-append g cut.0 (x ∷ cut.1),
        sum_by-append g cut.0 cut.1,
        sum_by-cons g x cut.1,
      )

-- ---- keys

module _ {X : Type 0} (key : X → ℕ) where
  pub count-flat_map : {Y : Type 0} (k : ℕ) (f : Y → List X) (ys : List Y)
      → count key k (flat_map f ys) ≡ sum_by (λ y. count key k (f y)) ys
  count-flat_map k f [] = refl
  count-flat_map k f (y ∷ ys) =
      omega (
        arith,
        count-append key k (f y) (flat_map f ys),
        count-flat_map k f ys,
        sum_by-cons (λ z. count key k (f z)) y ys,
      )

  pub pairs_from_ascent : (xs : List X) → Ascends key xs → AllPairs (λ x y. key x < key y) xs
  pairs_from_ascent [] up = λ i j d before within. absurd (omega arith)
  pairs_from_ascent (x ∷ xs) up =
      AllPairs-cons (λ y z. key y < key z) x xs (All-from_recursion (λ y. key x < key y) xs up.0)
      (pairs_from_ascent xs up.1)

  -- in a list that ascends one element has a key
  pub same_key : (xs : List X) (x y : X) → Ascends key xs → In x xs → In y xs → key x ≡ key y → x ≡ y
  same_key [] x y up h g e = absurd h
  same_key (z ∷ zs) x y up (inl p) (inl q) e = p ∙ sym q
  same_key (z ∷ zs) x y up (inl p) (inr g) e =
      let above = at_in (λ w. key z < key w) zs y up.0 g in
      let alike = ap key p in
      absurd (omega arith)
  same_key (z ∷ zs) x y up (inr h) (inl q) e =
      let above = at_in (λ w. key z < key w) zs x up.0 h in
      let alike = ap key q in
      absurd (omega arith)
  same_key (z ∷ zs) x y up (inr h) (inr g) e = same_key zs x y up.1 h g e
