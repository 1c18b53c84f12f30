-- The mark that is kept of a page.
use Rattle.std.proofs.Common.{◌≡◌, ◌∙◌, ◌+◌, ◌<◌, ◌==◌, ◌&&◌, ℕ, All, Bool, true}
use Rattle.std.proofs.Common.{Option, Some, None, ap, arith, eq-eqb, if◌then◌else◌}
use Rattle.std.proofs.Common.{length, map, refl, sym}
use Rattle.std.specs.Option.{option_map}
use Rattle.std.proofs.lemmas.List.{length-map}
use Rattle.std.proofs.lemmas.List.Elements.{All-from_recursion, All-weaker, recursion_from_All}
use Rattle.std.proofs.lemmas.List.Sums.{count_by-le-length, sum_by_push}
use Rattle.pl_base.specs.declared.id.PageId.{PageId}
use Rattle.pl_base.specs.declared.row.Mark.{Mark}
use Rattle.pl_base.specs.declared.row.VisitRow.{VisitRow}
use Rattle.pl_base.specs.Good.{end_of_ids}
use Rattle.pl_base.specs.Marks.{is_counted, visit_count}
use Rattle.pl_base.specs.Rows.{IsWellKept, Kept, KeptPage}
use Rattle.pl_base.specs.Rows.{next_visit, mark_of, page_at, store_of, with_visit}
use Rattle.pl_base.specs.Store.{Visit}
use Rattle.pl_marks.specs.Refreshed.{HaveCounts, visited_mark}
use Rattle.pl_base.proofs.IdsLaws.{few_ids, same_page}
use Rattle.pl_base.proofs.LookUps.{apart_increasing, found_holds, found_one, found_passes}

-- the page that the mark is kept of
pub record IsMarkAt (kept : Kept) (id : PageId) (mark : Mark) : Type 0 where
  pub page : KeptPage
  pub at : page_at kept id ≡ Some page
  pub is : mark ≡ mark_of page
  pub same : page.page.id ≡ id

pub mark_at : (kept : Kept) (id : PageId) (mark : Mark) → Some mark ≡ option_map mark_of (page_at kept id)
    → IsMarkAt kept id mark
mark_at kept id mark is = choose (page_at kept id) refl is
  where
    choose : (found : Option KeptPage) → page_at kept id ≡ found → Some mark ≡ option_map mark_of found
        → IsMarkAt kept id mark
    choose None at some = absurd (cc)
    choose (Some p) at some = record {
      page = p;
      at = at;
      is = cc;
      same = same_page p.page.id id (found_passes (λ (q : KeptPage). q.page.id.0 == id.0) kept.pages p at);
    }

-- no other page has its id
pub one_at : (kept : Kept) (id : PageId) (mark : Mark) → IsWellKept kept → (m : IsMarkAt kept id mark)
    → All (λ (p : KeptPage). (p.page.id.0 == id.0) ≡ true → p ≡ m.page) kept.pages
one_at kept id mark h m =
    All-from_recursion (λ (p : KeptPage). (p.page.id.0 == id.0) ≡ true → p ≡ m.page) kept.pages
    (found_one (λ (p : KeptPage). p.page.id.0) id.0 kept.pages m.page
    (apart_increasing (λ (p : KeptPage). p.page.id.0) kept.pages h.page_ids.ascending) m.at)

-- the mark types each page with the id as it was
pub typed_at : (kept : Kept) (id : PageId) (mark : Mark) → IsWellKept kept → IsMarkAt kept id mark
    → All (λ (p : KeptPage). (p.page.id.0 == id.0) ≡ true → mark.typed ≡ p.page.typed) kept.pages
typed_at kept id mark h m =
    All-weaker (λ (p : KeptPage). (p.page.id.0 == id.0) ≡ true → p ≡ m.page)
    (λ (p : KeptPage). (p.page.id.0 == id.0) ≡ true → mark.typed ≡ p.page.typed)
    (λ p one same. ap (λ (n : Mark). n.typed) m.is ∙ sym (ap (λ (q : KeptPage). q.page.typed) (one same))) kept.pages
    (one_at kept id mark h m)

pub count_at : (kept : Kept) (id : PageId) (mark : Mark) → HaveCounts kept → IsMarkAt kept id mark
    → mark.count ≡ visit_count (store_of kept) id
count_at kept id mark counts m =
    ap (λ (n : Mark). n.count) m.is
    ∙ found_holds (λ (p : KeptPage). p.count ≡ visit_count (store_of kept) p.page.id)
    (λ (p : KeptPage). p.page.id.0 == id.0) kept.pages m.page
    (recursion_from_All (λ (p : KeptPage). p.count ≡ visit_count (store_of kept) p.page.id) kept.pages counts) m.at
    ∙ ap (visit_count (store_of kept)) m.same

-- in the rows with the visit
pub mark_made : (old made : Kept) (row : VisitRow) (mark : Mark) → made ≡ with_visit row old
    → Some mark ≡ option_map mark_of (page_at made row.page) → IsMarkAt (with_visit row old) row.page mark
mark_made old made row mark is some =
    mark_at (with_visit row old) row.page mark (some ∙ ap (λ (k : Kept). option_map mark_of (page_at k row.page)) is)

-- ---- with a visit more

-- before the visit the pages are the same
count_before : (old : Kept) (row : VisitRow) (mark : Mark) → HaveCounts old
    → IsMarkAt (with_visit row old) row.page mark → mark.count ≡ visit_count (store_of old) row.page
count_before old row mark counts m =
    count_at old row.page mark counts (record { page = m.page; at = m.at; is = m.is; same = m.same })

few_visits : (kept : Kept) (page : PageId) → IsWellKept kept → visit_count (store_of kept) page < end_of_ids
few_visits kept page h =
    omega (
      arith,
      count_by-le-length (λ (v : Visit). (v.page.0 == page.0) && is_counted v.transition) kept.visits,
      few_ids (map (λ (v : Visit). v.id.0) kept.visits) kept.ids.visit (length kept.visits) h.visit_ids
          (length-map kept.visits (λ (v : Visit). v.id.0)),
    )

pub few_counted : (old : Kept) (row : VisitRow) (mark : Mark) → IsWellKept old → HaveCounts old
    → IsMarkAt (with_visit row old) row.page mark → mark.count < end_of_ids
few_counted old row mark h counts m =
    omega (arith, count_before old row mark counts m, few_visits old row.page h)

count_after : (kept : Kept) (row : VisitRow)
    → visit_count (store_of (with_visit row kept)) row.page ≡ visit_count (store_of kept) row.page
    + (if is_counted row.transition then 1 else 0)
count_after kept row =
    sum_by_push (λ (v : Visit). if (v.page.0 == row.page.0) && is_counted v.transition then 1 else 0) kept.visits
    (next_visit row kept)
    ∙ ap (λ (b : Bool). visit_count (store_of kept) row.page + (if b && is_counted row.transition then 1 else 0))
    (eq-eqb row.page.0 row.page.0 refl)

-- the count that is told is that of the rows with the visit
pub count_told : (old : Kept) (row : VisitRow) (mark told : Mark) → HaveCounts old
    → IsMarkAt (with_visit row old) row.page mark → told ≡ visited_mark row.transition mark
    → told.count ≡ visit_count (store_of (with_visit row old)) row.page
count_told old row mark told counts m is =
    ap (λ (n : Mark). n.count) is
    ∙ ap (λ (n : ℕ). n + (if is_counted row.transition then 1 else 0)) (count_before old row mark counts m)
    ∙ sym (count_after old row)
