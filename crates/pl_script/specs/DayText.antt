-- The day that a field stands for: a number, or a date as text.
use Rattle.std.specs.Prelude.{ℕ, ℤ, pos, negsuc, ◌==◌, ◌&&◌, Bool, List, length, take, drop}
use Rattle.std.specs.Prelude.{nat_le, slice_index, Option, Some, None, Result, Ok, Err}
use Rattle.std.specs.Prelude.{if◌then◌else◌}
use Rattle.std.specs.Char.{is_ascii_digit}
use Rattle.std.specs.List.{list_all}
use Rattle.std.specs.Option.{ok_or, option_map}
use Rattle.jiff_core.specs.Calendar.{days_from_civil}
use Rattle.jiff_core.specs.declared.error.Error.{Error}
use Rattle.jiff_fmt.specs.Temporal.{DateParts, parse_date}
use Rattle.pl_base.specs.declared.date.Day.{Day}
use Rattle.pl_base.specs.declared.refusal.Refusal.TheVariants.{BadDate}
use Rattle.pl_base.specs.Date.{last_day}
use Rattle.pl_step.specs.Parsed.{Parsed}
use Rattle.pl_base.specs.NumberText.{number_of}

-- the day with this number, unless it is later than the last one
abbrev pub day_at : ℕ → Option Day
day_at n = if nat_le n last_day then Some (record { 0 = n }) else None

-- four digits, two and two, with a `-` between them
abbrev pub is_date_text : List ℕ → Bool
is_date_text text =
    (length text == 10) && list_all is_ascii_digit (take 4 text) && (slice_index text 4 == 45)
    && list_all is_ascii_digit (take 2 (drop 5 text)) && (slice_index text 7 == 45)
    && list_all is_ascii_digit (drop 8 text)

-- the day so many days behind 1970-01-01, and none before it
abbrev pub day_since : ℤ → Option Day
day_since (pos n) = Some (record { 0 = n })
day_since (negsuc n) = None

-- the day of a date, where there is one
abbrev pub day_of_date : Result DateParts Error → Option Day
day_of_date (Ok date) = day_since (days_from_civil date.year date.month date.day)
day_of_date (Err error) = None

-- the day that the text of a date names, unless the calendar has no such day or it is before 1970
abbrev pub named_day : List ℕ → Option Day
named_day text = day_of_date (parse_date text)

-- the day of a field of its form. Whether it is one of the range is asked behind the whole line's
-- form, and till then it may be none
abbrev pub day_of : List ℕ → Option (Option Day)
day_of field =
    if is_date_text field then Some (named_day field) else option_map day_at (number_of field)

-- a field that names no day of the range is refused
abbrev pub day_in_range : Option Day → Parsed Day
day_in_range day = ok_or day BadDate
