-- Dates in microseconds and days, both of UTC, from 1970 to 9999.
use Rattle.std.specs.Prelude.{ℕ, ◌/◌, ◌≤◌}
use Rattle.pl_base.specs.declared.date.Micros.{Micros}
use Rattle.pl_base.specs.declared.date.Day.{Day}

-- the microseconds of a day
abbrev pub micros_per_day : ℕ
micros_per_day = 86_400_000_000

-- the day on which a date lies
abbrev pub day_number : Micros → ℕ
day_number date = date.0 / micros_per_day

-- 9999-12-31
abbrev pub last_day : ℕ
last_day = 2_932_896

-- the last microsecond of 9999-12-31
abbrev pub last_date : ℕ
last_date = 253_402_300_799_999_999

-- a date is no later than the last one
abbrev pub IsDate : Micros → Type 0
IsDate date = date.0 ≤ last_date

-- a day is no later than the last one
abbrev pub IsDay : Day → Type 0
IsDay day = day.0 ≤ last_day
