-- What holds of all rows is so of linked rows, which are known to be there only: a number among
-- names is found again by a search, and lists in another order by a sort.
use Rattle.std.proofs.Common.{◌≡◌, ◌∙◌, ◌++◌, ◌==◌, ◌≢◌, ◌&&◌, ◌+◌, ℕ, All, arith, Bool, List, ap}
use Rattle.std.proofs.Common.{append-nil, false, filter, map, ltb-true, nat_lt, not, subst, sym, true}
use Rattle.std.proofs.Math.Logic.{∥∥₁_elim}
use Rattle.std.proofs.Props.{props}
use Rattle.std.specs.Cmp.{IsStrictWeakOrder}
use Rattle.std.specs.List.{AllByRecursion, AllPairs, list_any, slice_index_or}
use Rattle.std.specs.List.Sorted.{IsPermutation, IsSortedBy, IsStrictlyIncreasing}
use Rattle.std.proofs.lemmas.Bool.{and_parts, not-true}
use Rattle.std.proofs.lemmas.List.Elements.{filter-append, filter_passes, recursion_from_All}
use Rattle.std.proofs.lemmas.List.Kept.{AllPairs-filter, IsSortedBy-filter}
use Rattle.std.proofs.lemmas.List.MinMax.{IsStrictWeakOrder-by_number}
use Rattle.std.proofs.lemmas.List.Sorted.{All-permutation, IsPermutation-sym}
use Rattle.pl_base.specs.declared.id.VisitId.{VisitId}
use Rattle.pl_base.specs.Redirects.{is_redirect, is_source}
use Rattle.pl_base.specs.Rows.{AreTargets, IsWellKept, Kept, KeptOrigin, KeptPage, NamesOrigins}
use Rattle.pl_base.specs.Rows.{store_of}
use Rattle.pl_base.specs.Sorting.{sorted_by}
use Rattle.pl_base.specs.Store.{Visit}
use Rattle.pl_base.proofs.ListLaws.{all_stay, weaker}
use Rattle.pl_base.proofs.LookUps.{none_kept}
use Rattle.pl_base.proofs.SortLaws.{distinct_moved, none_tie, sorted_moves, tied_numbers, weak_sorted_is}
use Rattle.pl_base.proofs.Searches.{rises}
use Rattle.pl_base.proofs.Truths.{no_test}
use Rattle.pl_record.specs.Form.{AreRows}
use Rattle.pl_record.specs.LinkedRows.{Entries, IsBaseOf, Keeps}
use Rattle.pl_record.proofs.Changes.{as_now, base_now}
use Rattle.pl_record.proofs.OriginsCounted.{has_number, numbered}
use Rattle.pl_record.proofs.TouchedRows.{are_pages}
use Rattle.pl_sheets.specs.Sheets.{Pages}

module _ (sheets : Pages) (pages visits items : Entries) (k : Keeps sheets pages visits items) where
  so : {P : Type 0} → IsProp P → (AreRows k.kept k.targets → P) → P
  so prop from = ∥∥₁_elim k.linked prop (λ l. from l.rows)

  abbrev kept : Kept
  kept = k.kept

  -- ---- the names of origins

  known : All (λ (p : KeptPage). list_any (λ (a : KeptOrigin). a.origin.0 == p.origin.0) kept.origins ≡ true) kept.pages
  known =
      so (Prim.hlevel props)
      (λ rows i d within.
      numbered (λ (a : KeptOrigin). a.origin.0) kept.origins _ (rows.well.origins.known i d within))

  used : All (λ (a : KeptOrigin). list_any (λ (p : KeptPage). p.origin.0 == a.origin.0) kept.pages ≡ true) kept.origins
  used =
      so (Prim.hlevel props)
      (λ rows i d within.
      numbered (λ (p : KeptPage). p.origin.0) kept.pages _ (rows.well.origins.used i d within))

  names : NamesOrigins kept
  names =
      record {
        distinct = so (Prim.hlevel props) (λ rows. rows.well.origins.distinct);
        some = so (Prim.hlevel props) (λ rows. rows.well.origins.some);
        known = λ i d within.
            has_number (λ (a : KeptOrigin). a.origin.0) kept.origins _ (known i d within);
        used = λ i d within. has_number (λ (p : KeptPage). p.origin.0) kept.pages _ (used i d within);
        same = so (Prim.hlevel props) (λ rows. rows.well.origins.same);
      }

  pub well_kept : IsWellKept k.kept
  well_kept =
      record {
        day = so (Prim.hlevel props) (λ rows. rows.well.day);
        page_ids = record {
          ascending = so (Prim.hlevel props) (λ rows. rows.well.page_ids.ascending);
          given = so (Prim.hlevel props) (λ rows. rows.well.page_ids.given);
          next_first = so (Prim.hlevel props) (λ rows. rows.well.page_ids.next_first);
          next_last = so (Prim.hlevel props) (λ rows. rows.well.page_ids.next_last);
        };
        visit_ids = record {
          ascending = so (Prim.hlevel props) (λ rows. rows.well.visit_ids.ascending);
          given = so (Prim.hlevel props) (λ rows. rows.well.visit_ids.given);
          next_first = so (Prim.hlevel props) (λ rows. rows.well.visit_ids.next_first);
          next_last = so (Prim.hlevel props) (λ rows. rows.well.visit_ids.next_last);
        };
        item_ids = record {
          ascending = so (Prim.hlevel props) (λ rows. rows.well.item_ids.ascending);
          given = so (Prim.hlevel props) (λ rows. rows.well.item_ids.given);
          next_first = so (Prim.hlevel props) (λ rows. rows.well.item_ids.next_first);
          next_last = so (Prim.hlevel props) (λ rows. rows.well.item_ids.next_last);
        };
        urls = so (Prim.hlevel props) (λ rows. rows.well.urls);
        distinct_urls = so (Prim.hlevel props) (λ rows. rows.well.distinct_urls);
        titles = so (Prim.hlevel props) (λ rows. rows.well.titles);
        visits = so (Prim.hlevel props) (λ rows. rows.well.visits);
        sources = so (Prim.hlevel props) (λ rows. rows.well.sources);
        origins = names;
        live = so (Prim.hlevel props) (λ rows. rows.well.live);
      }

  pub based : (base_bytes : List ℕ) × IsBaseOf sheets base_bytes
  based =
      let are = are_pages sheets pages visits items k in
      (as_now sheets are, base_now sheets are)

-- ---- the visits that came from each

abbrev earlier : Visit → Visit → Bool
earlier v w = nat_lt v.id.0 w.id.0

by_ids : IsStrictWeakOrder earlier
by_ids = IsStrictWeakOrder-by_number (λ (v : Visit). v.id.0)

abbrev is_made : Visit → Bool
is_made v = is_redirect v.transition

module _ (kept : Kept) (ids : IsStrictlyIncreasing (map (λ (v : Visit). v.id.0) kept.visits)) (q : Visit → Bool)
    (xs : List Visit) where
  abbrev ys : List Visit
  ys = filter q kept.visits

  all_sorted : IsSortedBy earlier kept.visits
  all_sorted i d low within =
      no_test (nat_lt (slice_index_or kept.visits (i + 1) d).id.0 (slice_index_or kept.visits i d).id.0)
      (λ less.
      omega (
        arith,
        ltb-true (slice_index_or kept.visits (i + 1) d).id.0 (slice_index_or kept.visits i d).id.0 less,
        rises (λ (v : Visit). v.id.0) kept.visits ids i (i + 1) d (omega arith) within,
      ))

  apart : AllPairs (λ (v w : Visit). v.id.0 ≢ w.id.0) kept.visits
  apart i j d before within same =
      omega (arith, same, rises (λ (v : Visit). v.id.0) kept.visits ids i j d before within)

  -- in another order they are those that a sort gives
  sorted_then : IsPermutation xs ys → ys ≡ sorted_by earlier xs
  sorted_then moves =
      weak_sorted_is earlier by_ids xs ys
      (distinct_moved earlier ys xs (IsPermutation-sym xs ys moves)
      (none_tie earlier (λ (v : Visit). v.id.0) (λ v w tie. tied_numbers v.id.0 w.id.0 tie) ys
      (AllPairs-filter (λ (v w : Visit). v.id.0 ≢ w.id.0) q kept.visits apart))) moves
      (IsSortedBy-filter earlier by_ids q kept.visits all_sorted)

  moved_then : ys ≡ sorted_by earlier xs → IsPermutation xs ys
  moved_then is = subst (IsPermutation xs) (sym is) (sorted_moves earlier xs)

-- redirects stand in front, and are told by themselves
module _ (kept : Kept) (source : VisitId) (ts : List Visit) (t : AreTargets (store_of kept) source ts) where
  abbrev of_redirect : Visit → Bool
  of_redirect w = is_made w && is_source source w.source

  abbrev of_other : Visit → Bool
  of_other w = not (is_made w) && is_source source w.source

  made : AllByRecursion (λ v. is_made v ≡ true) t.redirects
  made =
      recursion_from_All (λ v. is_made v ≡ true) t.redirects
      (All-permutation (λ v. is_made v ≡ true) (filter of_redirect kept.visits) t.redirects
      (IsPermutation-sym t.redirects (filter of_redirect kept.visits) t.all_redirects)
      (λ i d within.
      let v : Visit = slice_index_or (filter of_redirect kept.visits) i d in
      (and_parts (is_made v) (is_source source v.source) (filter_passes of_redirect kept.visits i d within)).0))

  rest : AllByRecursion (λ v. not (is_made v) ≡ true) t.others
  rest =
      recursion_from_All (λ v. not (is_made v) ≡ true) t.others
      (All-permutation (λ v. not (is_made v) ≡ true) (filter of_other kept.visits) t.others
      (IsPermutation-sym t.others (filter of_other kept.visits) t.all_others)
      (λ i d within.
      let v : Visit = slice_index_or (filter of_other kept.visits) i d in
      (and_parts (not (is_made v)) (is_source source v.source) (filter_passes of_other kept.visits i d within)).0))

  redirects_are : filter is_made ts ≡ t.redirects
  redirects_are =
      ap (filter is_made) t.is ∙ filter-append is_made t.redirects t.others
      ∙ (λ i.
      all_stay is_made t.redirects made i
      ++ none_kept is_made t.others
      (weaker (λ v. not (is_made v) ≡ true) (λ v. is_made v ≡ false) t.others
      (λ v other. not-true (is_made v) other) rest) i)
      ∙ append-nil t.redirects

  others_are : filter (λ v. not (is_made v)) ts ≡ t.others
  others_are =
      ap (filter (λ v. not (is_made v))) t.is ∙ filter-append (λ v. not (is_made v)) t.redirects t.others
      ∙ (λ i.
      none_kept (λ v. not (is_made v)) t.redirects
      (weaker (λ v. is_made v ≡ true) (λ v. not (is_made v) ≡ false) t.redirects (λ v is. ap not is) made) i
      ++ all_stay (λ v. not (is_made v)) t.others rest i)

  pub in_front : ts ≡ filter is_made ts ++ filter (λ v. not (is_made v)) ts
  in_front = t.is ∙ sym (λ i. redirects_are i ++ others_are i)

  pub redirects_moved : IsPermutation (filter is_made ts) (filter of_redirect kept.visits)
  redirects_moved = subst (λ vs. IsPermutation vs (filter of_redirect kept.visits)) (sym redirects_are) t.all_redirects

  pub others_moved : IsPermutation (filter (λ v. not (is_made v)) ts) (filter of_other kept.visits)
  others_moved = subst (λ vs. IsPermutation vs (filter of_other kept.visits)) (sym others_are) t.all_others

module _ (sheets : Pages) (pages visits items : Entries) (k : Keeps sheets pages visits items) where
  pub targeted : (source : VisitId) → AreTargets (store_of k.kept) source (k.targets source)
  targeted source =
      let ids = (well_kept sheets pages visits items k).visit_ids.ascending in
      let ts = k.targets source in
      record {
        redirects = filter is_made ts;
        others = filter (λ v. not (is_made v)) ts;
        is = so sheets pages visits items k (Prim.hlevel props)
            (λ rows. in_front k.kept source ts (rows.targeted source));
        all_redirects =
            moved_then k.kept ids (λ w. is_made w && is_source source w.source) (filter is_made ts)
            (so sheets pages visits items k (Prim.hlevel props)
            (λ rows. sorted_then k.kept ids (λ w. is_made w && is_source source w.source) (filter is_made ts)
            (redirects_moved k.kept source ts (rows.targeted source))));
        all_others =
            moved_then k.kept ids (λ w. not (is_made w) && is_source source w.source)
            (filter (λ v. not (is_made v)) ts)
            (so sheets pages visits items k (Prim.hlevel props)
            (λ rows. sorted_then k.kept ids (λ w. not (is_made w) && is_source source w.source)
            (filter (λ v. not (is_made v)) ts)
            (others_moved k.kept source ts (rows.targeted source))));
      }
