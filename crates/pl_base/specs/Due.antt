-- When the weights of a page's sample change next: the day on which its frecency is computed again.
use Rattle.std.specs.Prelude.{◌≡◌, ◌-◌, ◌<◌, ◌≤◌, ◌==◌, not, ℕ, Bool, true, false, List}
use Rattle.std.specs.Prelude.{map, Option, Some, None}
use Rattle.std.specs.List.{list_any}
use Rattle.pl_base.specs.declared.date.Day.{Day}
use Rattle.pl_base.specs.declared.date.Micros.{Micros}
use Rattle.pl_base.specs.declared.id.PageId.{PageId}
use Rattle.pl_base.specs.Date.{last_day}
use Rattle.pl_base.specs.Store.{Store, Visit}
use Rattle.pl_base.specs.Tables.{age, weight_of}
use Rattle.pl_base.specs.Visits.{sample_of}

-- the weight of a visit of this date on a day
abbrev pub weight_on : Micros → ℕ → ℕ
weight_on date day = weight_of (age (record { 0 = day }) date)

-- on this day the visit has another weight than on the day before
abbrev pub weighs_anew : ℕ → Micros → Bool
weighs_anew day date = not (weight_on date day == weight_on date (day - 1))

-- some of the visits of these dates has
abbrev pub some_weighs_anew : List Micros → ℕ → Bool
some_weighs_anew dates day = list_any (weighs_anew day) dates

-- the first day later than this one, and no later than the last of all, on which something holds
pub record IsFirst (holds : ℕ → Bool) (after : Day) (day : Day) : Type 0 where
  pub later : after.0 < day.0
  pub within : day.0 ≤ last_day
  pub found : holds day.0 ≡ true
  pub first : (other : ℕ) → after.0 < other → other < day.0 → holds other ≡ false

-- that day, or none where it holds on no such day
abbrev pub IsFirstDay : (ℕ → Bool) → Day → Option Day → Type 0
IsFirstDay holds after (Some day) = IsFirst holds after day
IsFirstDay holds after None =
    (other : ℕ) → after.0 < other → other ≤ last_day → holds other ≡ false

-- the due day of a page: the first day after that of the store on which a sampled visit has another
-- weight than on the day before
abbrev pub IsDue : Store → PageId → Option Day → Type 0
IsDue store page due =
    IsFirstDay (some_weighs_anew (map (λ (v : Visit). v.date) (sample_of store page))) store.day due
