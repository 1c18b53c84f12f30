use Rattle.std.proofs.Common.{◌≡◌, ℕ, take}
use Rattle.pl_sound.specs.Sums.{named_sum, sum_in}
use Rattle.pl_sound.proofs.totals.sums_of.Given as goal

abbrev pub invariant-loop-place : goal.invariant-loop-place
invariant-loop-place l = (name : ℕ) → sum_in l.sums name ≡ named_sum (take l.place-index l.places) name
