-- Queries for pages by the times of their visits, and the views that each of them takes.
use Rattle.std.specs.Prelude.{◌≡◌, ◌&&◌, not, Bool, true, false, [], Option, Some, None}
use Rattle.pl_base.specs.declared.date.Micros.{Micros}
use Rattle.pl_base.specs.declared.view.View.{View}
use Rattle.pl_base.specs.Store.{Store}
use Rattle.pl_conditions.specs.Conditions.{in_times, is_not_before}
use Rattle.pl_place.specs.declared.query.Query.{Query}
use Rattle.pl_query.specs.Decides.{asks_for_pages, decides, is_by_mark_date}
use Rattle.pl_query.specs.QueryAnswer.{has_visit_in_times}

-- pages are asked for without regard to transitions and folders, in no order by the dates of
-- bookmarks
pub record AsksForTimed (q : Query) : Type 0 where
  pub pages : asks_for_pages q.query_type q.result_type ≡ true
  pub undated : is_by_mark_date q.sort ≡ false
  pub transitions : q.transitions ≡ []
  pub parents : q.parents ≡ []

-- a query takes the page of a view: the view passes, and a visit lies within the times
abbrev pub takes : Store → Query → View → Bool
takes store q view = decides q view && has_visit_in_times store q view.id

-- the latest date, if there is one, is before the times
abbrev pub is_before : Store → Query → Option Micros → Bool
is_before store q None = true
is_before store q (Some last) = not (is_not_before store q.begin_time q.begin_ref last)

-- the latest date lies within the times
abbrev pub is_within : Store → Query → Option Micros → Bool
is_within store q None = false
is_within store q (Some last) = in_times store q last
