-- What is told of the bookmarks that are found, in order and cut, is the answer.
use Rattle.std.proofs.Common.{◌≡◌, ◌≢◌, ◌∙◌, ◌==◌, ℕ, All, Bool, true, false, List, Some, ap, if◌then◌else◌, is_some, map}
use Rattle.std.proofs.Common.{refl, subst, sym, take}
use Rattle.std.specs.List.{AllPairs}
use Rattle.std.specs.List.Sorted.{IsPermutation}
use Rattle.std.specs.Option.{option_map}
use Rattle.std.proofs.lemmas.List.Elements.{All-take}
use Rattle.std.proofs.lemmas.List.Sorted.{All-permutation, IsPermutation-map}
use Rattle.pl_base.specs.Rows.{IsWellKept, Kept, store_of}
use Rattle.pl_base.specs.Sorting.{sorted_by}
use Rattle.pl_base.proofs.ListLaws.{All-from_map, AllPairs-from_map, AllPairs-map, map-map}
use Rattle.pl_place.specs.declared.kinds.QueryType.{QueryType}
use Rattle.pl_place.specs.declared.kinds.QueryType.TheVariants.{Bookmarks}
use Rattle.pl_place.specs.declared.kinds.ResultType.{ResultType}
use Rattle.pl_place.specs.declared.kinds.ResultType.TheVariants.{Pages, Visits}
use Rattle.pl_place.specs.declared.query.Query.{Query}
use Rattle.pl_query.specs.declared.ordering.Candidate.{Candidate}
use Rattle.pl_query.specs.declared.result_row.ResultRow.{ResultRow}
use Rattle.pl_query.specs.Candidates.{candidate_of, goes_before, mark_subject, subject_of}
use Rattle.pl_query.specs.Order.{Row, comes_before}
use Rattle.pl_query.specs.QueryAnswer.{answer, bookmark_rows, limited, rows_of, told_row}
use Rattle.pl_query.specs.Subjects.{row_at, subject_id}
use Rattle.pl_query.proofs.AllParts.{rows_differ}
use Rattle.pl_query.proofs.AnsweredRows.{candidate_in, cut_there, limited_map, told_are}
use Rattle.pl_query.proofs.CandidateOrder.{rows_in_order, sorted_moved}
use Rattle.pl_query.proofs.PartLists.{pairs_moved}
use Rattle.pl_marked.specs.declared.found.Found.{Found}
use Rattle.pl_marked.specs.Found.{HaveViews, IsOwnView, found_candidate, subject_found}
use Rattle.pl_marked.specs.Listed.{Lists}

all_limited : {X : Type 0} (P : X → Type 0) (most : ℕ) (xs : List X) → All P xs → All P (limited most xs)
all_limited P most xs all = choose (most == 0)
  where
    choose : (b : Bool) → All P (if b then xs else take most xs)
    choose true = all
    choose false = All-take P most xs all

module _ (kept : Kept) (q : Query) (asks : q.query_type ≡ Bookmarks) (h : IsWellKept kept) (found : List Found)
    (l : Lists kept q found) where
  rows_are : rows_of q.query_type q.result_type (store_of kept) q ≡ bookmark_rows (store_of kept) q
  rows_are = ap (λ (kind : QueryType). rows_of kind q.result_type (store_of kept) q) asks ∙ choose q.result_type
    where
      choose : (kind : ResultType) → rows_of Bookmarks kind (store_of kept) q ≡ bookmark_rows (store_of kept) q
      choose Pages = refl
      choose Visits = refl

  rows_apart : AllPairs (λ (a b : Candidate). subject_id a.subject ≢ subject_id b.subject)
      (map (candidate_of mark_subject (store_of kept) q.sort) (bookmark_rows (store_of kept) q))
  rows_apart =
      AllPairs-map (λ (a b : Candidate). subject_id a.subject ≢ subject_id b.subject)
      (candidate_of mark_subject (store_of kept) q.sort) (bookmark_rows (store_of kept) q)
      (rows_differ Bookmarks Pages kept q h)

  moved : IsPermutation (map (candidate_of mark_subject (store_of kept) q.sort) (bookmark_rows (store_of kept) q))
      (map (candidate_of mark_subject (store_of kept) q.sort) l.rows)
  moved =
      IsPermutation-map (candidate_of mark_subject (store_of kept) q.sort) (bookmark_rows (store_of kept) q) l.rows
      l.moves

  pub found_apart : AllPairs (λ (a b : Found). a.item.0 ≢ b.item.0) found
  found_apart =
      AllPairs-from_map (λ (a b : Candidate). subject_id a.subject ≢ subject_id b.subject) found_candidate found
      (subst (AllPairs (λ (a b : Candidate). subject_id a.subject ≢ subject_id b.subject)) (sym l.are)
      (pairs_moved (λ (c : Candidate). subject_id c.subject)
      (map (candidate_of mark_subject (store_of kept) q.sort) (bookmark_rows (store_of kept) q))
      (map (candidate_of mark_subject (store_of kept) q.sort) l.rows) moved rows_apart))

  module _ (sorted cut : List Found)
      (up : map found_candidate sorted ≡ sorted_by (goes_before q.sort) (map found_candidate found))
      (few : cut ≡ limited q.max_results sorted) where
    cut_is : map found_candidate cut ≡ map (candidate_in kept q) (answer (store_of kept) q)
    cut_is =
        ap (map found_candidate) few ∙ sym (limited_map found_candidate q.max_results sorted)
        ∙ ap (limited q.max_results)
        (up ∙ ap (sorted_by (goes_before q.sort)) l.are
        ∙ sym (sorted_moved q.sort
        (map (candidate_of mark_subject (store_of kept) q.sort) (bookmark_rows (store_of kept) q))
        (map (candidate_of mark_subject (store_of kept) q.sort) l.rows) rows_apart moved)
        ∙ rows_in_order mark_subject (λ row. refl) (store_of kept) q.sort (bookmark_rows (store_of kept) q))
        ∙ limited_map (candidate_of mark_subject (store_of kept) q.sort) q.max_results
        (sorted_by (comes_before (store_of kept) q.sort) (bookmark_rows (store_of kept) q))
        ∙ ap (λ (kind : QueryType). map (candidate_of (subject_of kind q.result_type) (store_of kept) q.sort)
        (limited q.max_results (sorted_by (comes_before (store_of kept) q.sort) (bookmark_rows (store_of kept) q))))
        (sym asks)
        ∙ ap (λ (rs : List Row). map (candidate_in kept q)
        (limited q.max_results (sorted_by (comes_before (store_of kept) q.sort) rs))) (sym rows_are)

    pub all_there : All (λ (f : Found). is_some (row_at kept (subject_found f)) ≡ true) cut
    all_there =
        All-from_map (λ (c : Candidate). is_some (row_at kept c.subject) ≡ true) found_candidate cut
        (cut_there kept q h (map found_candidate cut) cut_is)

    pub own_views : IsPermutation found sorted → HaveViews kept cut
    own_views moves =
        subst (HaveViews kept) (sym few)
        (all_limited (λ (f : Found). IsOwnView kept f.view.now) q.max_results sorted
        (All-permutation (λ (f : Found). IsOwnView kept f.view.now) found sorted moves l.views))

    pub told_answer : (told : List ResultRow)
        → map Some told
        ≡ map (λ (f : Found). option_map (told_row (store_of kept)) (row_at kept (subject_found f))) cut
        → told ≡ map (told_row (store_of kept)) (answer (store_of kept) q)
    told_answer told each =
        told_are kept q h (map found_candidate cut) told cut_is
        (each
        ∙ sym (map-map (λ (c : Candidate). option_map (told_row (store_of kept)) (row_at kept c.subject)) found_candidate
        cut))
