-- What a new day costs, and which changes of views are of frecencies.
use Rattle.std.specs.Prelude.{◌+◌, ◌-◌, ◌*◌, ◌≤◌, ◌||◌, not, ℕ, zero, suc, Bool, false, map}
use Rattle.std.specs.Prelude.{Option, Some, None}
use Rattle.std.specs.List.{count_by}
use Rattle.std.specs.Ordering.{int_eq}
use Rattle.pl_base.specs.declared.change.Change.{Change}
use Rattle.pl_base.specs.declared.date.Day.{Day}
use Rattle.pl_base.specs.declared.view.View.{View}
use Rattle.pl_base.specs.Due.{some_weighs_anew}
use Rattle.pl_base.specs.Store.{Page, Store, Visit}
use Rattle.pl_base.specs.Visits.{sample_of}
use Rattle.pl_step.specs.declared.command.Command.{Command}
use Rattle.pl_step.specs.declared.command.Command.TheVariants.{Day as DayCommand}

-- ---- the pages that are due

-- some sampled visit of the page weighs anew on one of so many days behind the store's
abbrev pub weighs_anew_within : ℕ → Store → Page → Bool
weighs_anew_within zero store p = false
weighs_anew_within (suc n) store p =
    some_weighs_anew (map (λ (v : Visit). v.date) (sample_of store p.id)) (store.day.0 + suc n)
    || weighs_anew_within n store p

-- it does so on a day behind the store's and no later than this one
abbrev pub is_page_due : Day → Store → Page → Bool
is_page_due day store p = weighs_anew_within (day.0 - store.day.0) store p

-- how many pages are due by the day
abbrev pub pages_due : Day → Store → ℕ
pages_due day store = count_by (is_page_due day store) store.pages

-- the most records that are read to set the day
abbrev pub day_reads : Day → Store → ℕ
day_reads day store = 512 * pages_due day store + 64

-- a new day reads no more
abbrev pub ReadsFew : Command → Store → ℕ → ℕ → Type 0
ReadsFew (DayCommand day) store before after = after ≤ before + day_reads day store
ReadsFew other store before after = Unit {0}

-- ---- changes

-- the two views have different frecencies
abbrev differ : Option View → Option View → Bool
differ (Some old) (Some new) = not (int_eq old.frecency new.frecency)
differ old None = false
differ None new = false

-- the change leads to another frecency
abbrev pub is_moved : Change → Bool
is_moved change = differ change.old change.new
