-- The visits that a query of history lists, by the views of their pages.
use Rattle.std.specs.Prelude.{◌≡◌, ◌<◌, ◌||◌, not, Bool, List, [], Option, Some, map}
use Rattle.std.specs.Prelude.{if◌then◌else◌}
use Rattle.std.specs.List.{filter, flat_map}
use Rattle.std.specs.List.Sorted.{IsPermutation}
use Rattle.pl_base.specs.declared.date.Micros.{Micros}
use Rattle.pl_base.specs.declared.view.View.{View}
use Rattle.pl_base.specs.Rows.{Kept, page_visits, store_of}
use Rattle.pl_base.specs.Store.{Store, Visit}
use Rattle.pl_conditions.specs.Conditions.{in_times, is_not_before}
use Rattle.pl_place.specs.declared.kinds.QueryType.TheVariants.{History}
use Rattle.pl_place.specs.declared.kinds.ResultType.TheVariants.{Visits}
use Rattle.pl_place.specs.declared.query.Query.{Query}
use Rattle.pl_place.specs.declared.sort.Direction.TheVariants.{Descending}
use Rattle.pl_place.specs.declared.sort.Sort.TheVariants.{By}
use Rattle.pl_place.specs.declared.sort.SortKey.TheVariants.{Date}
use Rattle.pl_query.specs.declared.result_row.ResultRow.{ResultRow}
use Rattle.pl_query.specs.Decides.{decides}
use Rattle.pl_dated.specs.declared.first.First.{First}
use Rattle.pl_dated.specs.Latest.{AreApart, Keeps, Seen, is_past_floor}

-- the first visits are asked for, the latest first, without regard to transitions and folders
pub record AsksForLatest (q : Query) : Type 0 where
  pub history : q.query_type ≡ History
  pub visits : q.result_type ≡ Visits
  pub sort : q.sort ≡ By Date Descending
  pub transitions : q.transitions ≡ []
  pub parents : q.parents ≡ []
  pub few : 0 < q.max_results

-- a visit to the page of a view
abbrev pub seen_of : View → Visit → Seen
seen_of view v = record { view = view; visit = v.id; date = v.date }

-- of these visits to the page of a view those within the times
abbrev pub seen_visits : Kept → Query → View → List Visit → List Seen
seen_visits kept q view visits =
    map (seen_of view) (filter (λ (v : Visit). in_times (store_of kept) q v.date) visits)

-- the visits to the page of a view that a query lists
abbrev pub part_of : Kept → Query → View → List Seen
part_of kept q view =
    if decides q view then seen_visits kept q view (page_visits kept view.id) else []

-- those to the pages of these views
abbrev pub parts_of : Kept → Query → List View → List Seen
parts_of kept q views = flat_map (part_of kept q) views

-- what is told of a visit
abbrev pub row_of_seen : Seen → ResultRow
row_of_seen s =
    record {
      id = s.visit.0;
      url = s.view.url;
      title = s.view.title;
      date = Some s.date;
      count = s.view.count;
      frecency = s.view.frecency;
      tags = s.view.tags;
    }

-- no visit of the date or an earlier one is among the first: it is before the times or the floor
abbrev pub is_over : Store → Query → Option Micros → Micros → Bool
is_over store q floor date =
    not (is_not_before store q.begin_time q.begin_ref date) || is_past_floor floor date

-- what is kept has the first of the visits to the pages of these views, in whatever order they came
-- and as far as no two are one
pub record FirstOf (kept : Kept) (q : Query) (views : List View) (first : First) : Type 0 where
  pub visits : List Seen
  pub moves : IsPermutation (parts_of kept q views) visits
  pub keeps : AreApart visits → Keeps q.max_results first visits
