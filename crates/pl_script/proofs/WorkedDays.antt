-- Worked rows of the days that fields name.
use Rattle.std.proofs.Common.{◌≡◌, ℕ, List, None, Some, refl}
use Rattle.std.specs.Prelude.{codes}
use Rattle.jiff_fmt.proofs.OnLiterals.{jiff_fmt_on_literals}
use Rattle.pl_script.specs.DayText.{day_of}

-- the field names this day
abbrev Names : List ℕ → ℕ → Type 0
Names field n = day_of field ≡ Some (Some (record { 0 = n }))

-- the field is of its form and names no day of the range
abbrev NamesNone : List ℕ → Type 0
NamesNone field = day_of field ≡ Some None

-- the field is not of its form
abbrev IsOtherForm : List ℕ → Type 0
IsOtherForm field = day_of field ≡ None

numbers : Names (codes "0") 0 × Names (codes "20000") 20_000 × Names (codes "2932896") 2_932_896
    × NamesNone (codes "2932897") × IsOtherForm (codes "007") × IsOtherForm (codes "")
numbers = (refl, refl, refl, refl, refl, refl)

first_day : Names (codes "1970-01-01") 0
unfolding jiff_fmt_on_literals
first_day = refl

day_20000 : Names (codes "2024-10-04") 20_000
unfolding jiff_fmt_on_literals
day_20000 = refl

last_date : Names (codes "9999-12-31") 2_932_896
unfolding jiff_fmt_on_literals
last_date = refl

-- a day that the calendar has in other years alone, a month that it has not, a day that it has not,
-- and one that is too early
no_days : NamesNone (codes "2023-02-29") × NamesNone (codes "2024-13-01") × NamesNone (codes "2024-00-10")
    × NamesNone (codes "1969-12-31")
unfolding jiff_fmt_on_literals
no_days = (refl, refl, refl, refl)

other_forms : IsOtherForm (codes "2024-1-04") × IsOtherForm (codes "12024-01-04") × IsOtherForm (codes "2024-01-4")
    × IsOtherForm (codes "2024/01/04") × IsOtherForm (codes "20240104 ")
other_forms = (refl, refl, refl, refl, refl)
