-- What is told of the pages that are found is told of the views that answer.
use Rattle.std.proofs.Common.{◌≡◌, ◌≢◌, ◌∙◌, List, ap, map, refl, sym}
use Rattle.std.proofs.lemmas.List.Kept.{AllPairs-filter}
use Rattle.pl_base.specs.declared.view.View.{View}
use Rattle.pl_base.specs.Sorting.{sorted_by}
use Rattle.pl_base.proofs.ListLaws.{map-map}
use Rattle.pl_follow.specs.Changes.{AreInOrder}
use Rattle.pl_place.specs.declared.query.Query.{Query}
use Rattle.pl_query.specs.declared.result_row.ResultRow.{ResultRow}
use Rattle.pl_query.specs.Decides.{decides}
use Rattle.pl_query.specs.QueryAnswer.{limited}
use Rattle.pl_query.proofs.AnsweredRows.{limited_map}
use Rattle.pl_indexed.specs.declared.found.Found.{Found}
use Rattle.pl_indexed.specs.Answer.{Suffice, first_asked, row_of_view, taken}
use Rattle.pl_indexed.specs.Found.{AreFound, view_before}
use Rattle.pl_indexed.proofs.WalkOrder.{ids_differ}
use Rattle.pl_indexed.proofs.FoundOrder.{views_found}

-- all pages are found that the query takes
pub taken_suffice : (q : Query) (views : List View) (found : List Found) → AreInOrder views
    → AreFound q.sort (taken q views) found → Suffice q views found
taken_suffice q views found ordered are =
    record {
      those = taken q views;
      found_are = are;
      apart = AllPairs-filter (λ (v w : View). v.id.0 ≢ w.id.0) (decides q) views (ids_differ views ordered);
      enough = refl;
    }

-- what is told of the pages that are found, in order and so many, is told of their views
pub told_rows : (q : Query) (views : List View) (sorted cut : List Found) (rows : List ResultRow)
    → AreFound q.sort (sorted_by (view_before q.sort) views) sorted → cut ≡ limited q.max_results sorted
    → rows ≡ map (λ (f : Found). row_of_view f.view.now) cut → rows ≡ map row_of_view (first_asked q views)
told_rows q views sorted cut rows up few told =
    told ∙ ap (map (λ (f : Found). row_of_view f.view.now)) few
    ∙ sym (map-map row_of_view (λ (f : Found). f.view.now) (limited q.max_results sorted))
    ∙ ap (map row_of_view)
    (sym (limited_map (λ (f : Found). f.view.now) q.max_results sorted)
    ∙ ap (limited q.max_results) (views_found q.sort (sorted_by (view_before q.sort) views) sorted up))
