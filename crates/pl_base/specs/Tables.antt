-- The two tables of the classic frecency algorithm, with the defaults of the
-- preferences under `places.frecency.`
use Rattle.std.specs.Prelude.{ℕ, ◌+◌, ◌-ℤ◌, Bool, true, false, ℤ, pos, negsuc}
use Rattle.std.specs.Prelude.{nat_le, Option, Some, None, if◌then◌else◌}
use Rattle.pl_base.specs.declared.date.Day.{Day}
use Rattle.pl_base.specs.declared.date.Micros.{Micros}
use Rattle.pl_base.specs.declared.transition.Transition.{Transition}
use Rattle.pl_base.specs.declared.transition.Transition.TheVariants.{Link, Typed, Bookmark}
use Rattle.pl_base.specs.declared.transition.Transition.TheVariants.{Embed, RedirectPermanent}
use Rattle.pl_base.specs.declared.transition.Transition.TheVariants.{RedirectTemporary, Download}
use Rattle.pl_base.specs.declared.transition.Transition.TheVariants.{FramedLink, Reload}
use Rattle.pl_base.specs.Date.{day_number}

-- how many days the date lies before the day: negative where it lies after it
abbrev pub age : Day → Micros → ℤ
age day date = pos day.0 -ℤ pos (day_number date)

-- the weight of a visit of this age: 100 within four days, a visit of a later day too, 70 within
-- two weeks, 50 within a month, 30 within a season, and 10 beyond
abbrev pub weight_of : ℤ → ℕ
weight_of (negsuc n) = 100
weight_of (pos days) =
    if nat_le days 4 then 100 else
    if nat_le days 14 then 70 else
    if nat_le days 31 then 50 else
    if nat_le days 90 then 30 else 10

-- what a visit of this transition counts
abbrev pub transition_bonus : Transition → ℕ
transition_bonus Link = 100
transition_bonus Typed = 2000
transition_bonus Bookmark = 75
transition_bonus Embed = 0
transition_bonus RedirectPermanent = 50
transition_bonus RedirectTemporary = 40
transition_bonus Download = 0
transition_bonus FramedLink = 0
transition_bonus Reload = 0

-- what a visit counts, by its own transition, that of its redirect's source, and whether it led to
-- a redirect
abbrev pub bonus_by_source : Transition → Option Transition → Bool → ℕ
bonus_by_source own source true = 25
bonus_by_source own (Some source) false = transition_bonus source
bonus_by_source own None false = transition_bonus own

-- what a visit counts: 25 where it led to a redirect; else, where it came by a redirect from a
-- visit, what that visit's transition counts, one step back; else what its own counts. For a page
-- that the bookmark tree refers to each visit counts 75 more
abbrev pub bonus_of : Transition → Option Transition → Bool → Bool → ℕ
bonus_of own source is_source referenced =
    bonus_by_source own source is_source + (if referenced then 75 else 0)

-- no visit counts more
abbrev pub greatest_bonus : ℕ
greatest_bonus = 2_075
