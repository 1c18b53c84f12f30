-- The days on which views are due, and the views that are due through a day.
use Rattle.std.specs.Prelude.{◌≡◌, ◌==◌, ◌&&◌, ◌||◌, Bool, false, List, Option, map, nat_le, nat_lt}
use Rattle.std.specs.List.{filter, filter_map}
use Rattle.std.specs.Option.{option_map, option_map_or}
use Rattle.pl_base.specs.declared.date.Day.{Day}
use Rattle.pl_base.specs.declared.id.PageId.{PageId}
use Rattle.pl_base.specs.declared.view.View.{View}
use Rattle.pl_base.specs.Sorting.{sorted_by}
use Rattle.pl_follow.specs.Changes.{AreInOrder}
use Rattle.pl_calendar.specs.declared.calendar.Calendar.{Calendar}

-- ---- what is asked

-- the view has a due day, and that is this day or an earlier one
abbrev pub is_due_by : Day → View → Bool
is_due_by day view = option_map_or (λ (due : Day). nat_le due.0 day.0) view.due false

-- the ids of the views that are due by this day, in the order of the views
abbrev pub due_pages : Day → List View → List PageId
due_pages day views = map (λ (v : View). v.id) (filter (is_due_by day) views)

-- ---- what is kept

-- the due day of a view, if it has one, and its id
abbrev pub entry_of : View → Option (Day × PageId)
entry_of view = option_map (λ (due : Day). (due, view.id)) view.due

-- the due days and ids of the views that have a due day
abbrev pub due_entries : List View → List (Day × PageId)
due_entries views = filter_map entry_of views

-- the first has the earlier day, or the same and the lesser id
abbrev pub is_sooner : Day × PageId → Day × PageId → Bool
is_sooner x y = nat_lt x.0.0 y.0.0 || ((x.0.0 == y.0.0) && nat_lt x.1.0 y.1.0)

-- the views are in the order of their ids, and the calendar has their due days, the earliest first
pub record KeepsDays (calendar : Calendar) (views : List View) : Type 0 where
  pub ordered : AreInOrder views
  pub entries : calendar.entries.keys ≡ sorted_by is_sooner (due_entries views)
