use Rattle.std.proofs.Common.{◌≡◌, ◌<◌, ℕ, get_or, true}
use Rattle.std.specs.Char.{is_digit}
use Rattle.pl_nbread.proofs.references.digit_count.Given as goal

abbrev pub invariant-loop-count : goal.invariant-loop-count
invariant-loop-count l = (k : ℕ) → k < l.count → is_digit (get_or l.text k 0) l.radix ≡ true
