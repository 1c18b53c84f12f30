-- What is told of the first visits is the answer.
use Rattle.std.proofs.Common.{◌≡◌, ◌∙◌, List, ap, map, sym}
use Rattle.pl_base.specs.declared.view.View.{View}
use Rattle.pl_base.specs.Good.{IsGood}
use Rattle.pl_base.specs.Rows.{IsWellKept, Kept, store_of}
use Rattle.pl_base.specs.View.{AreViewsOf}
use Rattle.pl_base.proofs.ListLaws.{map-map}
use Rattle.pl_place.specs.declared.query.Query.{Query}
use Rattle.pl_query.specs.declared.result_row.ResultRow.{ResultRow}
use Rattle.pl_query.specs.QueryAnswer.{answer, told_row}
use Rattle.pl_dated.specs.declared.first.First.{First}
use Rattle.pl_dated.specs.declared.first.FoundVisit.{FoundVisit}
use Rattle.pl_dated.specs.Latest.{AreApart, Keeps, first_seen, seen, seen_before}
use Rattle.pl_dated.specs.Listed.{AsksForLatest, FirstOf, parts_of, row_of_seen}
use Rattle.pl_dated.proofs.SeenOrder.{seen_ranks}
use Rattle.pl_dated.proofs.SkipLaws.{apart_moved, same_first}
use Rattle.pl_dated.proofs.VisitRows.{seen_apart, visits_told}

module _ (kept : Kept) (q : Query) (asks : AsksForLatest q) (good : IsGood (store_of kept)) (h : IsWellKept kept)
    (views : List View) (of : AreViewsOf (store_of kept) views) where
  pub latest_told : (first : First) (f : FirstOf kept q views first) (found : List FoundVisit)
      → (Keeps q.max_results first f.visits → AreApart f.visits → map seen found ≡ first_seen q.max_results f.visits)
      → (rows : List ResultRow) → rows ≡ map (λ (v : FoundVisit). row_of_seen (seen v)) found
      → rows ≡ map (told_row (store_of kept)) (answer (store_of kept) q)
  latest_told first f found are rows told =
      let listed : AreApart (parts_of kept q views) = seen_apart kept q asks good h views of in
      let apart : AreApart f.visits = apart_moved seen_before seen_ranks (parts_of kept q views) f.visits f.moves listed in
      told
      ∙ sym (map-map row_of_seen seen found)
      ∙ ap (map row_of_seen)
      (are (f.keeps apart) apart
      ∙ sym (same_first seen_before seen_ranks q.max_results (parts_of kept q views) f.visits listed f.moves))
      ∙ visits_told kept q asks good h views of
