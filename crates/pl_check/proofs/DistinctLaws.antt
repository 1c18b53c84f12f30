-- Values that were sorted are distinct exactly where each is below the next.
use Rattle.std.proofs.Common.{Bor, ◌≡◌, ◌≢◌, ◌↔◌, ◌∙◌, ◌+◌, ◌<◌, ℕ, Bool, true, false, Decides, IsTrue, List}
use Rattle.std.proofs.Common.{[], ◌∷◌, ap, arith, get_or, length, map, nat_lt, refl, subst, sym}
use Rattle.std.specs.Cmp.{IsTotalOrder}
use Rattle.std.specs.Cmp.Lexicographic.{slice_cmp}
use Rattle.std.specs.List.{AllPairs, IsAllAdjacentAnswer, IsDistinct}
use Rattle.std.specs.List.Sorted.{IsPermutation, IsSorted}
use Rattle.std.specs.declared.cmp.Ordering.{Ordering}
use Rattle.std.specs.declared.cmp.Ordering.TheVariants.{Less, Equal, Greater}
use Rattle.std.specs.Ordering.{eq_by_cmp, is_eq, is_lt, nat_cmp, ordering_reverse}
use Rattle.std.proofs.lemmas.Bool.{false_from_ne_true, false≢true, true≢false}
use Rattle.std.proofs.lemmas.Bool.Decides.{nat_tests}
use Rattle.std.proofs.lemmas.List.Sorted.{IsPermutation-sym}
use Rattle.std.proofs.lemmas.Map.Keys.{IsDistinct-IsPermutation, IsDistinct-from_apart, IsDistinct-from_sorted}
use Rattle.std.proofs.lemmas.Map.Keys.{apart_from_distinct, sorted_from_all_adjacent}
use Rattle.std.proofs.lemmas.Map.Text.{is_eq-slice_cmp}
use Rattle.std.proofs.lemmas.Slice.Eq.{bytes_eq-Decides}
use Rattle.pl_base.proofs.ListLaws.{AllPairs-from_map, AllPairs-map}
use Rattle.pl_check.specs.Tags.{AreDistinct, targets}
use Rattle.pl_digest.specs.Digest.{digest_of}

is_less : (r : Ordering) → true ≡ is_lt r → r ≡ Less
is_less Less h = refl
is_less Equal h = absurd (true≢false h)
is_less Greater h = absurd (true≢false h)

flipped : (a b : Ordering) → a ≡ ordering_reverse b → is_eq a ≡ is_eq b
flipped a Less h = ap is_eq h
flipped a Equal h = ap is_eq h
flipped a Greater h = ap is_eq h

-- what is below on neither side is the same
tie : (a b : Ordering) → a ≡ ordering_reverse b → is_lt a ≡ false → is_lt b ≡ false → is_eq a ≡ true
tie Less b turned no_a no_b = absurd (true≢false no_a)
tie Equal b turned no_a no_b = refl
tie Greater Less turned no_a no_b = absurd (true≢false no_b)
tie Greater Equal turned no_a no_b = absurd (cc)
tie Greater Greater turned no_a no_b = absurd (cc)

module _ {X Y : Type 0} {R : X → X → Ordering} (o : IsTotalOrder R) (value : X → Y)
    (same : (a b : X) → Decides (eq_by_cmp R a b) (value a ≡ value b)) where
  apart-to : (xs : List X) → IsDistinct (eq_by_cmp R) xs → AllPairs (λ a b. value a ≢ value b) xs
  apart-to xs h i j d before within e =
      true≢false (sym ((same (get_or xs i d) (get_or xs j d)).1 e)
      ∙ apart_from_distinct (eq_by_cmp R) xs i j d h before within)

  apart-from : (xs : List X) → AllPairs (λ a b. value a ≢ value b) xs → IsDistinct (eq_by_cmp R) xs
  apart-from xs h =
      IsDistinct-from_apart (eq_by_cmp R) xs (λ i j d before within.
      false_from_ne_true _
      (λ e. h i j d before within ((same (get_or xs i d) (get_or xs j d)).0 e)))

  flips : (x y : X) → eq_by_cmp R x y ≡ eq_by_cmp R y x
  flips x y = flipped (R x y) (R y x) (o.antisymm x y)

  -- two neighbours of which neither is below the other are the same
  not_below : (ys : List X) (k : ℕ) (d : X) → IsSorted R ys → IsDistinct (eq_by_cmp R) ys → k + 1 < length ys
      → is_lt (R (get_or ys k d) (get_or ys (k + 1) d)) ≡ false → ⊥
  not_below ys k d sorted distinct within high =
      let tied =
      tie (R (get_or ys k d) (get_or ys (k + 1) d)) (R (get_or ys (k + 1) d) (get_or ys k d))
      (o.antisymm (get_or ys k d) (get_or ys (k + 1) d)) high (sorted k d (omega arith) within) in
      true≢false (sym tied ∙ apart_from_distinct (eq_by_cmp R) ys k (k + 1) d distinct (omega arith) within)

  pub distinct_sorted : (below : X → X → Bool) → ((x y : X) → below x y ≡ is_lt (R x y)) → (xs ys : List X) (r : Bool)
      → IsPermutation xs ys → IsSorted R ys → IsAllAdjacentAnswer (λ x y b. b ≡ below x y) ys r
      → IsTrue r ↔ AllPairs (λ a b. value a ≢ value b) xs
  distinct_sorted below agrees xs ys true moved sorted answer = (
    λ t i j d before within e.
        let rises =
        sorted_from_all_adjacent o ys d (λ k next.
        is_less (R (get_or ys k d) (get_or ys (k + 1) d))
        (answer k d next ∙ agrees (get_or ys k d) (get_or ys (k + 1) d))) in
        apart-to xs (IsDistinct-IsPermutation (eq_by_cmp R) flips ys xs (IsPermutation-sym xs ys moved)
        (IsDistinct-from_sorted R ys rises)) i j d before within e,
    λ h. refl,
  )
  distinct_sorted below agrees xs [] false moved sorted answer = (
    λ f. absurd (false≢true f),
    λ h. let never : ⊥ = omega (arith, answer.1) in absurd never,
  )
  distinct_sorted below agrees xs (y ∷ ys) false moved sorted answer = (
    λ f. absurd (false≢true f),
    λ h. absurd (not_below (y ∷ ys) answer.0 y sorted
        (IsDistinct-IsPermutation (eq_by_cmp R) flips xs (y ∷ ys) moved (apart-from xs h)) answer.1
        (sym (answer.2 y ∙ agrees (get_or (y ∷ ys) answer.0 y) (get_or (y ∷ ys) (answer.0 + 1) y)))),
  )

-- ---- numbers and texts

pub lt_agrees : (x y : ℕ) → nat_lt x y ≡ is_lt (nat_cmp x y)
lt_agrees x y = grind (arith, nat_tests)

pub same_numbers : (a b : ℕ) → Decides (eq_by_cmp nat_cmp a b) (a ≡ b)
same_numbers a b = (λ e. grind (arith, nat_tests), λ e. grind (arith, nat_tests))

-- texts by their bytes
abbrev pub text_order : Bor (List ℕ) → Bor (List ℕ) → Ordering
text_order a b = slice_cmp nat_cmp a.now b.now

pub same_texts : (a b : Bor (List ℕ)) → Decides (eq_by_cmp text_order a b) (a.now ≡ b.now)
same_texts a b =
    subst (λ r. Decides r (a.now ≡ b.now)) (sym (is_eq-slice_cmp a.now b.now)) (bytes_eq-Decides a.now b.now)

-- the texts differ where the references to them do so
pub texts_apart : (r : Bool) (refs : List (Bor (List ℕ)))
    → IsTrue r ↔ AllPairs (λ (a b : Bor (List ℕ)). a.now ≢ b.now) refs → IsTrue r ↔ AreDistinct (targets refs)
texts_apart r refs means = (
  λ t. AllPairs-map (λ (a b : List ℕ). a ≢ b) (λ (s : Bor (List ℕ)). s.now) refs (means.0 t),
  λ h. means.1 (AllPairs-from_map (λ (a b : List ℕ). a ≢ b) (λ (s : Bor (List ℕ)). s.now) refs h),
)

-- texts of different hashes differ
pub apart_by_hashes : (texts : List (List ℕ)) → AreDistinct (map digest_of texts) → AreDistinct texts
apart_by_hashes texts apart i j d before within same =
    AllPairs-from_map (λ (m n : ℕ). m ≢ n) digest_of texts apart i j d before within (ap digest_of same)
