-- Pages in the order in which they go, the stalest first: that is an order, and the one of a sort's
-- comparisons.
use Rattle.std.proofs.Common.{◌≡◌, ◌&&◌, ◌||◌, ℕ, Bool, true, Option, Some, None, Ordering, arith, is_lt, ltb}
use Rattle.std.proofs.Common.{nat_cmp, nat_lt, not, refl, suc}
use Rattle.std.specs.Cmp.{IsStrictWeakOrder}
use Rattle.std.specs.List.Sorted.{ties}
use Rattle.std.specs.Option.{option_cmp}
use Rattle.std.specs.Ordering.{ordering_then}
use Rattle.std.proofs.lemmas.Bool.Decides.{nat_tests}
use Rattle.std.proofs.lemmas.List.Sorted.{IsStrictWeakOrder-by_number}
use Rattle.pl_base.specs.declared.date.Micros.{Micros}
use Rattle.pl_base.specs.Expiration.{is_earlier}
use Rattle.pl_base.proofs.SortLaws.{ranks_alike, then_by, then_ranks, then_ties, tied_numbers}
use Rattle.pl_history.specs.declared.trimming.StalePage.{StalePage}

-- ---- the order

abbrev earlier : StalePage → StalePage → Bool
earlier x y = is_earlier x.last y.last

abbrev lower : StalePage → StalePage → Bool
lower x y = nat_lt x.page.0 y.page.0

-- an earlier date, or the same one and a smaller number
abbrev pub staler : StalePage → StalePage → Bool
staler = then_by earlier lower

abbrev rank : Option Micros → ℕ
rank None = 0
rank (Some date) = suc date.0

ranked : (a b : Option Micros) → is_earlier a b ≡ ltb (rank a) (rank b)
ranked None None = grind (arith, nat_tests)
ranked None (Some b) = grind (arith, nat_tests)
ranked (Some a) None = grind (arith, nat_tests)
ranked (Some a) (Some b) = grind (arith, nat_tests)

pub staler_ranks : IsStrictWeakOrder staler
staler_ranks =
    then_ranks earlier lower
    (ranks_alike earlier (λ x y. ltb (rank x.last) (rank y.last)) (λ x y. ranked x.last y.last)
    (IsStrictWeakOrder-by_number (λ (x : StalePage). rank x.last)))
    (IsStrictWeakOrder-by_number (λ (x : StalePage). x.page.0))

pub tied_pages : (x y : StalePage) → ties staler x y ≡ true → x.page.0 ≡ y.page.0
tied_pages x y tie = tied_numbers x.page.0 y.page.0 (then_ties earlier lower x y tie)

-- ---- the comparisons

abbrev dates : Micros → Micros → Ordering
dates a b = nat_cmp a.0 b.0

abbrev pub compare : StalePage → StalePage → Bool
compare x y = is_lt (ordering_then (option_cmp dates x.last y.last) (nat_cmp x.page.0 y.page.0))

pub compared : (x y : StalePage) → compare x y ≡ staler x y
compared x y = choose x.last y.last x.page.0 y.page.0
  where
    one_number : (m n : ℕ) → is_lt (nat_cmp m n) ≡ ltb m n
    one_number m n = grind (arith, nat_tests)

    two_numbers : (a b m n : ℕ)
        → is_lt (ordering_then (nat_cmp a b) (nat_cmp m n)) ≡ (ltb a b || (not (ltb b a) && ltb m n))
    two_numbers a b m n = grind (arith, nat_tests)

    choose : (a b : Option Micros) (m n : ℕ) → is_lt (ordering_then (option_cmp dates a b) (nat_cmp m n))
        ≡ (is_earlier a b || (not (is_earlier b a) && nat_lt m n))
    choose None None m n = one_number m n
    choose None (Some b) m n = refl
    choose (Some a) None m n = refl
    choose (Some a) (Some b) m n = two_numbers a.0 b.0 m n
