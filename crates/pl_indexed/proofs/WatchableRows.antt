-- The answer to a query that the views of pages decide.
use Rattle.std.proofs.Common.{◌≡◌, ◌==◌, true, List, length, map, not}
use Rattle.std.specs.Option.{is_none}
use Rattle.std.proofs.lemmas.Bool.{and_parts, not-true}
use Rattle.pl_base.specs.declared.view.View.{View}
use Rattle.pl_base.specs.Good.{IsGood}
use Rattle.pl_base.specs.Store.{Store}
use Rattle.pl_base.specs.View.{AreViewsOf}
use Rattle.pl_place.specs.declared.query.Query.{Query}
use Rattle.pl_query.specs.Decides.{asks_for_pages, decides, is_by_mark_date, is_watchable}
use Rattle.pl_query.specs.QueryAnswer.{answer, told_row}
use Rattle.pl_query.proofs.ViewsDecide.{decided}
use Rattle.pl_indexed.specs.Answer.{AsksForPages, first_asked, row_of_view, taken}
use Rattle.pl_indexed.proofs.PagesTold.{told_by}

pub asks_of_watchable : (q : Query) → is_watchable q ≡ true → AsksForPages q
asks_of_watchable q watchable =
    let sort = and_parts _ (not (is_by_mark_date q.sort)) watchable in
    let parents = and_parts _ (length q.parents == 0) sort.0 in
    let transitions = and_parts _ (length q.transitions == 0) parents.0 in
    let end = and_parts _ (is_none q.end_time) transitions.0 in
    record {
      pages = (and_parts (asks_for_pages q.query_type q.result_type) (is_none q.begin_time) end.0).0;
      undated = not-true (is_by_mark_date q.sort) sort.1;
    }

-- the views tell the answer
pub told_answer : (store : Store) (q : Query) (views : List View) → IsGood store → AreViewsOf store views
    → is_watchable q ≡ true
    → map row_of_view (first_asked q (taken q views)) ≡ map (told_row store) (answer store q)
told_answer store q views good of watchable =
    told_by store q views (decides q) (asks_of_watchable q watchable) of
    (λ p v among is. decided store q p v good among watchable is)
