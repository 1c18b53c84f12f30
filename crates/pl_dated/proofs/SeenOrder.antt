-- The order of visits by date and id.
use Rattle.std.proofs.Common.{◌≡◌, ◌≤◌, ◌<◌, ℕ, true, arith, is_lt, nat_cmp}
use Rattle.std.specs.Cmp.{IsStrictWeakOrder, IsTotalOrder}
use Rattle.std.specs.List.Sorted.{ties}
use Rattle.std.specs.Ordering.{ordering_then}
use Rattle.std.proofs.lemmas.Bool.Decides.{nat_tests}
use Rattle.std.proofs.lemmas.Cmp.{back_total, nat_cmp_total, on_total, then_total}
use Rattle.std.proofs.lemmas.List.Sorted.{ranks_by}
use Rattle.std.proofs.lemmas.Map.Lookups.{exact_unsigned}
use Rattle.pl_follow.proofs.ViewRanks.{both_equal}
use Rattle.pl_indexed.proofs.KeyOrder.{tied_equal}
use Rattle.pl_dated.specs.Latest.{Seen, seen_before, seen_cmp}

pub seen_total : IsTotalOrder seen_cmp
seen_total =
    then_total (back_total (on_total (λ (s : Seen). s.date.0) nat_cmp_total))
    (on_total (λ (s : Seen). s.visit.0) nat_cmp_total)

pub seen_ranks : IsStrictWeakOrder seen_before
seen_ranks = ranks_by seen_total (λ (s : Seen). s)

-- visits that tie are one
pub tied_visits : (x y : Seen) → ties seen_before x y ≡ true → x.visit.0 ≡ y.visit.0
tied_visits x y tie =
    exact_unsigned x.visit.0 y.visit.0
    (both_equal (nat_cmp y.date.0 x.date.0) (nat_cmp x.visit.0 y.visit.0) (tied_equal seen_cmp seen_total x y tie)).1

-- a later visit comes before
pub later_before : (x y : Seen) → y.date.0 < x.date.0 → seen_before x y ≡ true
later_before x y less = dates y.date.0 x.date.0 x.visit.0 y.visit.0 less
  where
    dates : (a b m n : ℕ) → a < b → is_lt (ordering_then (nat_cmp a b) (nat_cmp m n)) ≡ true
    dates a b m n less = grind (arith, nat_tests, less)

-- one that comes before is of no earlier date
pub before_later : (x y : Seen) → seen_before x y ≡ true → y.date.0 ≤ x.date.0
before_later x y first = dates y.date.0 x.date.0 x.visit.0 y.visit.0 first
  where
    dates : (a b m n : ℕ) → is_lt (ordering_then (nat_cmp a b) (nat_cmp m n)) ≡ true → a ≤ b
    dates a b m n first = grind (arith, nat_tests, first)
