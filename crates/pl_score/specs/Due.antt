-- The earlier of two days, and visits whose weight never changes again.
use Rattle.std.specs.Prelude.{◌≡◌, ◌<◌, ℕ, false, Option, Some, None, nat_lt, if◌then◌else◌}
use Rattle.pl_base.specs.declared.date.Day.{Day}
use Rattle.pl_base.specs.declared.date.Micros.{Micros}
use Rattle.pl_base.specs.Due.{weighs_anew}

-- the earlier of two days, either of which may be none
abbrev pub earlier_of : Option Day → Option Day → Option Day
earlier_of None other = other
earlier_of (Some day) None = Some day
earlier_of (Some day) (Some other) = if nat_lt other.0 day.0 then Some other else Some day

-- on each later day a visit of this date has the same weight as on the day before
abbrev pub KeepsWeight : Day → Micros → Type 0
KeepsWeight day date = (later : ℕ) → day.0 < later → weighs_anew later date ≡ false
