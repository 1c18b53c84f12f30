-- Which pages the marks keep, and in which tier a page is offered.
use Rattle.std.proofs.Common.{◌≡◌, ◌≢◌, ◌&&◌, ◌||◌, ℕ, Bool, true, false}
use Rattle.std.proofs.Common.{arith, nat_lt, not, refl}
use Rattle.std.proofs.lemmas.Bool.Decides.{nat_tests}

-- a page is not kept that was not visited, where that is asked
pub not_visited : (asked : Bool) (count visits : ℕ) (rest : Bool) → asked ≡ true → count ≡ visits → count ≡ 0
    → false ≡ ((not asked || nat_lt 0 visits) && rest)
not_visited true count visits rest is same none = rw (← same, none) refl
not_visited false count visits rest is same none = absurd (cc)

pub visited : (asked : Bool) (count visits : ℕ) (rest : Bool) → count ≡ visits → count ≢ 0
    → rest ≡ ((not asked || nat_lt 0 visits) && rest)
visited true count visits rest same some =
    let is : nat_lt 0 visits ≡ true = grind (arith, nat_tests) in
    rw is refl
visited false count visits rest same some = refl

pub not_asked : (asked : Bool) (visits : ℕ) (rest : Bool) → asked ≡ false
    → rest ≡ ((not asked || nat_lt 0 visits) && rest)
not_asked asked visits rest is = rw is refl
