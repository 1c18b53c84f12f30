-- Visits sorted by page, and those of one page the latest first, are those of each page as it is
-- defined.
use Rattle.std.proofs.Common.{◌≡◌, ◌≢◌, ◌∙◌, ◌==◌, ◌&&◌, ℕ, Bool, List, ap, arith, filter, map, nat_lt, not, refl}
use Rattle.std.proofs.Common.{None, subst, sym, true, ◌<◌}
use Rattle.std.specs.Cmp.{IsStrictWeakOrder}
use Rattle.std.specs.List.{AllPairs}
use Rattle.std.specs.List.Sorted.{IsPermutation, IsSortedBy, IsStableByKey, IsStrictlyIncreasing, ties}
use Rattle.std.specs.Ordering.{is_lt, nat_cmp}
use Rattle.std.proofs.lemmas.List.Elements.{filter_agree}
use Rattle.std.proofs.lemmas.List.Kept.{AllPairs-from_increasing}
use Rattle.std.proofs.lemmas.List.Sorted.{IsStrictWeakOrder-by_number, IsStrictWeakOrder-flip}
use Rattle.pl_base.specs.declared.id.PageId.{PageId}
use Rattle.pl_base.specs.declared.transition.Transition.TheVariants.{Link}
use Rattle.pl_base.specs.Store.{Visit}
use Rattle.pl_base.specs.Visits.{is_later, latest_first}
use Rattle.pl_base.proofs.ListLaws.{AllPairs-from_map, filter-map, map-map}
use Rattle.pl_base.proofs.SortLaws.{none_tie, ranks_alike, then_by, then_ranks, then_ties, tied_numbers, weak_sorted_is}
use Rattle.pl_base.proofs.SortLaws.{numbers_tie, sorted_map, then_by_number}
use Rattle.pl_base.proofs.VisitOrder.{latest_part}
use Rattle.pl_base.proofs.VisitsLaws.{Differ, Differ-ascending}
use Rattle.pl_check.specs.Rows.{stored_visit_ids}
use Rattle.pl_load.proofs.Lists.{sorted_later}
use Rattle.pl_sound.specs.Visits.{AreByPage, of_page}
use Rattle.pl_stored.specs.declared.stored.StoredVisit.{StoredVisit}
use Rattle.pl_stored.specs.Stored.{visit_of}

-- ---- the latest first

-- a visit of a later date, or of the same date and a greater id
abbrev pub later : StoredVisit → StoredVisit → Bool
later v w = is_later (visit_of v) (visit_of w)

abbrev newer : StoredVisit → StoredVisit → Bool
newer v w = nat_lt w.date.0 v.date.0

abbrev greater : StoredVisit → StoredVisit → Bool
greater v w = nat_lt w.id.0 v.id.0

later_alike : (v w : StoredVisit) → later v w ≡ then_by newer greater v w
later_alike v w = then_by_number v.date.0 w.date.0 (nat_lt w.id.0 v.id.0)

pub later_ranks : IsStrictWeakOrder later
later_ranks =
    ranks_alike later (then_by newer greater) later_alike
    (then_ranks newer greater
    (IsStrictWeakOrder-flip (λ v w. newer w v) (IsStrictWeakOrder-by_number (λ (v : StoredVisit). v.date.0)))
    (IsStrictWeakOrder-flip (λ v w. greater w v) (IsStrictWeakOrder-by_number (λ (v : StoredVisit). v.id.0))))

later_ties : (v w : StoredVisit) → ties later v w ≡ ties (then_by newer greater) v w
later_ties v w =
    ap (λ x. not x && not (later w v)) (later_alike v w)
    ∙ ap (λ x. not (then_by newer greater v w) && not x) (later_alike w v)

tied_ids : (v w : StoredVisit) → ties later v w ≡ true → v.id.0 ≡ w.id.0
tied_ids v w tie = sym (tied_numbers w.id.0 v.id.0 (then_ties newer greater v w (sym (later_ties v w) ∙ tie)))

module _ (visits : List StoredVisit) (rise : IsStrictlyIncreasing (stored_visit_ids visits)) where
  apart : AllPairs (λ (v w : StoredVisit). v.id.0 ≢ w.id.0) visits
  apart =
      let pairs : AllPairs (λ (v w : StoredVisit). v.id.0 < w.id.0) visits =
      AllPairs-from_map (λ (m n : ℕ). m < n) (λ (v : StoredVisit). v.id.0) visits
      (AllPairs-from_increasing (stored_visit_ids visits) rise) in
      λ i j d before within same.
      let less = pairs i j d before within in
      omega arith

  pub sorted_latest : (sorted : List StoredVisit) → IsPermutation visits sorted → IsSortedBy later sorted
      → map visit_of sorted ≡ latest_first (map visit_of visits)
  sorted_latest sorted moves order =
      ap (map visit_of)
      (weak_sorted_is later later_ranks visits sorted
      (none_tie later (λ (v : StoredVisit). v.id.0) tied_ids visits apart) moves order)
      ∙ sorted_map visit_of is_later visits ∙ sorted_later (map visit_of visits)

-- ---- by page

-- some visit to a page
abbrev visit_to : PageId → StoredVisit
visit_to page =
    record { id = record { 0 = 0 }; page = page; date = record { 0 = 0 }; transition = Link; source = None }

-- a stable sort by the page leaves those of one page in their order
same_page : (rows sorted : List StoredVisit) (page : PageId) (any : StoredVisit) → any.page ≡ page
    → IsStableByKey (λ (v : StoredVisit). v.page.0) nat_cmp rows sorted
    → filter (of_page page) sorted ≡ filter (of_page page) rows
same_page rows sorted page any own stable =
    let tied : StoredVisit → Bool =
    λ v. not (is_lt (nat_cmp any.page.0 v.page.0)) && not (is_lt (nat_cmp v.page.0 any.page.0)) in
    let agree : (v : StoredVisit) → tied v ≡ of_page page v =
    λ v. numbers_tie any.page.0 v.page.0 ∙ ap (λ (p : PageId). v.page.0 == p.0) own in
    sym (filter_agree tied (of_page page) agree sorted) ∙ stable any
    ∙ filter_agree tied (of_page page) agree rows

module _ (visits latest sorted : List StoredVisit) (rise : IsStrictlyIncreasing (stored_visit_ids visits)) where
  differ : Differ (map visit_of visits)
  differ =
      Differ-ascending (map visit_of visits)
      (subst (AllPairs (λ m n. m < n)) (sym (map-map (λ (v : Visit). v.id.0) visit_of visits))
      (AllPairs-from_increasing (stored_visit_ids visits) rise))

  pub by_page : IsPermutation visits latest → IsSortedBy later latest
      → IsStableByKey (λ (v : StoredVisit). v.page.0) nat_cmp latest sorted → AreByPage visits sorted
  by_page moves order stable page =
      ap (map visit_of) (same_page latest sorted page (visit_to page) refl stable)
      ∙ sym (filter-map (λ (v : Visit). v.page.0 == page.0) visit_of latest)
      ∙ ap (filter (λ (v : Visit). v.page.0 == page.0)) (sorted_latest visits rise latest moves order)
      ∙ latest_part (λ (v : Visit). v.page.0 == page.0) (map visit_of visits) differ
