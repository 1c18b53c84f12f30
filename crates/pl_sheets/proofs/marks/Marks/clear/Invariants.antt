use Rattle.std.proofs.Common.{◌≡◌, ◌-◌, ◌<◌, false, get_or, length, ℕ}
use Rattle.pl_sheets.proofs.marks.Marks.clear.Given as goal

abbrev pub invariant-loop-n : goal.invariant-loop-n
invariant-loop-n l =
    record {
      as_long : length l.self ≡ length l.initial.self;
      cleared : (k : ℕ) → k < l.from → get_or l.self k false ≡ false;
    }

abbrev pub decreases-loop-n : goal.decreases-loop-n
decreases-loop-n l = length l.initial.self - l.from
