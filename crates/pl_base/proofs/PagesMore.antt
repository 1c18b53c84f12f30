-- How many pages more are listed: bounds add up, and a greater one holds where a smaller one does.
use Rattle.std.proofs.Common.{◌+◌, ◌≤◌, ℕ, Option, None, Some, arith}
use Rattle.pl_base.specs.Touched.{IsAtMostMore}

pub more_and_more : (a b : ℕ) (x y z : Option ℕ) → IsAtMostMore a x y → IsAtMostMore b y z → IsAtMostMore (a + b) x z
more_and_more a b None y z first next = tt
more_and_more a b (Some m) None z first next = absurd first
more_and_more a b (Some m) (Some n) None first next = absurd next
more_and_more a b (Some m) (Some n) (Some k) first next =
    let low : n ≤ m + a = first in
    let high : k ≤ n + b = next in
    let all : k ≤ m + (a + b) = omega arith in
    all

pub more_at_most : (a b : ℕ) (x y : Option ℕ) → a ≤ b → IsAtMostMore a x y → IsAtMostMore b x y
more_at_most a b None y under more = tt
more_at_most a b (Some m) None under more = absurd more
more_at_most a b (Some m) (Some n) under more =
    let low : n ≤ m + a = more in
    let high : n ≤ m + b = omega arith in
    high
