-- The answer to a query by the views of pages.
use Rattle.std.specs.Prelude.{◌≡◌, ◌≢◌, ◌≤◌, ◌-◌, ℕ, true, false, List, length, IfSome}
use Rattle.std.specs.List.{AllPairs, filter, slice_get}
use Rattle.pl_base.specs.declared.view.View.{View}
use Rattle.pl_base.specs.Sorting.{sorted_by}
use Rattle.pl_place.specs.declared.query.Query.{Query}
use Rattle.pl_query.specs.declared.result_row.ResultRow.{ResultRow}
use Rattle.pl_query.specs.Decides.{asks_for_pages, decides, is_by_mark_date}
use Rattle.pl_query.specs.QueryAnswer.{limited}
use Rattle.pl_indexed.specs.declared.found.Found.{Found}
use Rattle.pl_indexed.specs.declared.walk.KeptOrder.{KeptOrder}
use Rattle.pl_indexed.specs.Found.{AreFound, view_before}
use Rattle.pl_indexed.specs.Walk.{sort_of}

-- pages of history are asked for, in no order by the dates of bookmarks
pub record AsksForPages (q : Query) : Type 0 where
  pub pages : asks_for_pages q.query_type q.result_type ≡ true
  pub undated : is_by_mark_date q.sort ≡ false

-- what is told of a view
abbrev pub row_of_view : View → ResultRow
row_of_view view =
    record {
      id = view.id.0;
      url = view.url;
      title = view.title;
      date = view.last;
      count = view.count;
      frecency = view.frecency;
      tags = view.tags;
    }

-- the first of these views in the order that a query asks for, so many as it asks for
abbrev pub first_asked : Query → List View → List View
first_asked q views = limited q.max_results (sorted_by (view_before q.sort) views)

-- the views that a query takes
abbrev pub taken : Query → List View → List View
taken q views = filter (decides q) views

-- so many pages are found, and the last of them comes before the next view in an order
abbrev pub AreEnough : KeptOrder → ℕ → View → List Found → Type 0
AreEnough order most next found =
    (most ≤ length found)
    × IfSome (slice_get found (length found - 1))
    (λ last. view_before (sort_of order) last.view.now next ≡ true)

-- the pages that are found have views, each once, and the first of them are the first of all that
-- the query takes
pub record Suffice (q : Query) (views : List View) (found : List Found) : Type 0 where
  pub those : List View
  pub found_are : AreFound q.sort those found
  pub apart : AllPairs (λ (v w : View). v.id.0 ≢ w.id.0) those
  pub enough : first_asked q those ≡ first_asked q (taken q views)
