-- The order of keys, and of what stands by a key and an id.
use Rattle.std.proofs.Common.{◌≡◌, ◌∙◌, ◌&&◌, ℕ, Bool, true, Ordering, ap, is_lt, nat_cmp, not, refl, sym}
use Rattle.std.specs.Cmp.{IsStrictWeakOrder, IsTotalOrder}
use Rattle.std.specs.declared.cmp.Ordering.TheVariants.{Less, Equal, Greater}
use Rattle.std.specs.List.Sorted.{ties}
use Rattle.std.specs.Ordering.{ordering_reverse}
use Rattle.std.proofs.lemmas.Cmp.{back_total, nat_cmp_total, on_total, then_total}
use Rattle.std.proofs.lemmas.List.Sorted.{ranks_by}
use Rattle.std.proofs.lemmas.Map.Lookups.{exact_unsigned}
use Rattle.pl_follow.proofs.ViewRanks.{both_equal}
use Rattle.pl_place.specs.declared.sort.Direction.TheVariants.{Ascending, Descending}
use Rattle.pl_place.specs.declared.sort.Sort.{Sort}
use Rattle.pl_place.specs.declared.sort.Sort.TheVariants.{Unsorted, By}
use Rattle.pl_indexed.specs.contracts.found.KeyOrd.TheImpl.{cmp-value}
use Rattle.pl_indexed.specs.contracts.found.KeyOrd.TheImpl.Laws.{total-law}
use Rattle.pl_indexed.specs.declared.found.Key.{Key}
use Rattle.pl_indexed.specs.declared.found.Key.TheVariants.{Nothing, Text, Moment, Number}
use Rattle.pl_indexed.specs.Found.{directed_cmp, key_cmp, place_cmp}

-- ---- keys

keys_are : (a b : Key) → key_cmp a b ≡ cmp-value.it a b
keys_are Nothing Nothing = refl
keys_are Nothing (Text b) = refl
keys_are Nothing (Moment b) = refl
keys_are Nothing (Number b) = refl
keys_are (Text a) Nothing = refl
keys_are (Text a) (Text b) = refl
keys_are (Text a) (Moment b) = refl
keys_are (Text a) (Number b) = refl
keys_are (Moment a) Nothing = refl
keys_are (Moment a) (Text b) = refl
keys_are (Moment a) (Moment b) = refl
keys_are (Moment a) (Number b) = refl
keys_are (Number a) Nothing = refl
keys_are (Number a) (Text b) = refl
keys_are (Number a) (Moment b) = refl
keys_are (Number a) (Number b) = refl

pub keys_total : IsTotalOrder key_cmp
keys_total =
    record {
      antisymm = λ a b. keys_are a b ∙ total-law.antisymm a b ∙ ap ordering_reverse (sym (keys_are b a));
      trans = λ a b c p q. keys_are a c ∙ total-law.trans a b c (sym (keys_are a b) ∙ p) (sym (keys_are b c) ∙ q);
      congr = λ a b c p. keys_are a c ∙ total-law.congr a b c (sym (keys_are a b) ∙ p) ∙ sym (keys_are b c);
    }

pub directed_total : (sort : Sort) → IsTotalOrder (directed_cmp sort)
directed_total Unsorted = keys_total
directed_total (By key Ascending) = keys_total
directed_total (By key Descending) = back_total keys_total

-- ---- keys with ids

places_total : (sort : Sort) → IsTotalOrder (place_cmp sort)
places_total sort =
    then_total (on_total (λ (a : Key × ℕ). a.0) (directed_total sort))
    (on_total (λ (a : Key × ℕ). a.1) nat_cmp_total)

neither : (r : Ordering) → (not (is_lt r) && not (is_lt (ordering_reverse r))) ≡ true → r ≡ Equal
neither Less tie = absurd (cc)
neither Equal tie = refl
neither Greater tie = absurd (cc)

-- members that tie are equal by the comparison
pub tied_equal : {X : Type 0} (cmp : X → X → Ordering) → IsTotalOrder cmp → (x y : X)
    → ties (λ a b. is_lt (cmp a b)) x y ≡ true → cmp x y ≡ Equal
tied_equal cmp total x y tie =
    neither (cmp x y)
    (ap (λ (r : Ordering). not (is_lt (cmp x y)) && not (is_lt r)) (sym (total.antisymm y x)) ∙ tie)

module _ {X : Type 0} (sort : Sort) (place : X → Key × ℕ) where
  -- a member comes before another by their places
  abbrev pub before_by : X → X → Bool
  before_by x y = is_lt (place_cmp sort (place x) (place y))

  pub places_rank : IsStrictWeakOrder before_by
  places_rank = ranks_by (places_total sort) place

  -- members that tie have one id
  pub tied_ids : (x y : X) → ties before_by x y ≡ true → (place x).1 ≡ (place y).1
  tied_ids x y tie =
      exact_unsigned (place x).1 (place y).1
      (both_equal (directed_cmp sort (place x).0 (place y).0) (nat_cmp (place x).1 (place y).1)
      (tied_equal (λ (a b : X). place_cmp sort (place a) (place b)) (on_total place (places_total sort)) x y tie)).1
