-- The views tell the answer to a query for pages, where a test of them tells which it takes.
use Rattle.std.proofs.Common.{◌≡◌, ◌∙◌, ◌&&◌, Bool, true, List, ap, filter, map, refl, sym}
use Rattle.std.specs.List.{Contains}
use Rattle.pl_base.specs.declared.view.View.{View}
use Rattle.pl_base.specs.Sorting.{sorted_by}
use Rattle.pl_base.specs.Store.{Page, Store}
use Rattle.pl_base.specs.View.{AreViewsOf, IsViewOf}
use Rattle.pl_conditions.specs.Conditions.{history_holds}
use Rattle.pl_place.specs.declared.kinds.QueryType.{QueryType}
use Rattle.pl_place.specs.declared.kinds.QueryType.TheVariants.{History, Bookmarks}
use Rattle.pl_place.specs.declared.kinds.ResultType.{ResultType}
use Rattle.pl_place.specs.declared.kinds.ResultType.TheVariants.{Pages, Visits}
use Rattle.pl_place.specs.declared.query.Query.{Query}
use Rattle.pl_query.specs.Decides.{asks_for_pages}
use Rattle.pl_query.specs.Order.{Row, comes_before}
use Rattle.pl_query.specs.QueryAnswer.{answer, has_visit_in_times, limited, page_rows, rows_of, told_row}
use Rattle.pl_indexed.specs.Answer.{AsksForPages, first_asked, row_of_view}
use Rattle.pl_indexed.proofs.ViewRows.{rows_are}

rows_of_pages : (query_type : QueryType) (result_type : ResultType) (store : Store) (q : Query)
    → asks_for_pages query_type result_type ≡ true → rows_of query_type result_type store q ≡ page_rows store q
rows_of_pages History Pages store q pages = refl
rows_of_pages History Visits store q pages = absurd (cc)
rows_of_pages Bookmarks result_type store q pages = absurd (cc)

pub told_by : (store : Store) (q : Query) (views : List View) (takes : View → Bool) → AsksForPages q
    → AreViewsOf store views
    → ((p : Page) (v : View) → Contains store.pages p → IsViewOf store p v
    → takes v ≡ (has_visit_in_times store q p.id && history_holds store q p))
    → map row_of_view (first_asked q (filter takes views)) ≡ map (told_row store) (answer store q)
told_by store q views takes asks of told =
    rows_are store q takes told views of asks.undated
    ∙ ap (λ (rows : List Row). map (told_row store) (limited q.max_results (sorted_by (comes_before store q.sort) rows)))
    (sym (rows_of_pages q.query_type q.result_type store q asks.pages))
