-- The visits that a query lists, told by the views of their pages: they are the rows of its answer.
use Rattle.std.proofs.Common.{◌≡◌, ◌≢◌, ◌∙◌, ◌++◌, ◌&&◌, ◌==◌, ℕ, Bool, true, false, List, [], ◌∷◌, Option, Some, None, Ordering}
use Rattle.std.proofs.Common.{ap, arith, filter, if◌then◌else◌, is_lt, is_some, map, nat_cmp, refl, subst, sym, take}
use Rattle.std.specs.Cmp.{IsStrictWeakOrder, IsTotalOrder}
use Rattle.std.specs.List.{AllByRecursion, AllPairs, Contains, flat_map}
use Rattle.std.specs.List.Sorted.{IsPermutation, ties}
use Rattle.std.specs.Ordering.{ordering_then}
use Rattle.std.proofs.lemmas.Bool.{ne_eqb}
use Rattle.std.proofs.lemmas.Cmp.{back_total, nat_cmp_total, on_total, then_total}
use Rattle.std.proofs.lemmas.List.Sorted.{ranks_by}
use Rattle.std.proofs.lemmas.Map.Lookups.{exact_unsigned}
use Rattle.pl_base.specs.declared.date.Micros.{Micros}
use Rattle.pl_base.specs.declared.view.View.{View}
use Rattle.pl_base.specs.Good.{IsGood}
use Rattle.pl_base.specs.Marks.{last_date_of}
use Rattle.pl_base.specs.Rows.{IsWellKept, Kept, KeptPage, page_visits, store_of}
use Rattle.pl_base.specs.Sorting.{sorted_by}
use Rattle.pl_base.specs.Store.{Page, Store, Visit}
use Rattle.pl_base.specs.View.{AreViews, AreViewsOf, IsViewOf}
use Rattle.pl_base.proofs.ListLaws.{AllPairs-from_map, AllPairs-map}
use Rattle.pl_base.proofs.SortLaws.{members, none_tie, ranks_alike}
use Rattle.pl_conditions.specs.Conditions.{history_holds, in_times}
use Rattle.pl_follow.proofs.ViewRanks.{both_equal}
use Rattle.pl_place.specs.declared.kinds.QueryType.TheVariants.{History}
use Rattle.pl_place.specs.declared.kinds.ResultType.TheVariants.{Visits}
use Rattle.pl_place.specs.declared.query.Query.{Query}
use Rattle.pl_place.specs.declared.sort.Direction.TheVariants.{Descending}
use Rattle.pl_place.specs.declared.sort.Sort.TheVariants.{By}
use Rattle.pl_place.specs.declared.sort.SortKey.TheVariants.{Date}
use Rattle.pl_query.specs.Candidates.{visits_in_times, visits_part}
use Rattle.pl_query.specs.Order.{Row, comes_before, date_cmp}
use Rattle.pl_query.specs.QueryAnswer.{answer, history_row, limited, told_row, visit_rows}
use Rattle.pl_query.specs.Subjects.{row_of_visit}
use Rattle.pl_query.proofs.AllParts.{rows_differ, rows_moved}
use Rattle.pl_query.proofs.PartLists.{pairs_moved}
use Rattle.pl_indexed.specs.declared.found.Key.TheVariants.{Moment}
use Rattle.pl_indexed.proofs.AlikeLists.{AreAlike, alike_limited, alike_map, alike_sorted}
use Rattle.pl_indexed.proofs.KeyOrder.{keys_total, tied_equal}
use Rattle.pl_indexed.proofs.SortedParts.{same_sorted}
use Rattle.pl_dated.specs.Latest.{AreApart, Seen, first_seen, seen_before}
use Rattle.pl_dated.specs.Listed.{AsksForLatest, part_of, parts_of, row_of_seen, seen_of, seen_visits}
use Rattle.pl_dated.proofs.SeenOrder.{tied_visits}
use Rattle.pl_dated.proofs.UntimedQuery.{decides_visited}

-- as `last_date_of` has it
abbrev first_date : List Visit → Option Micros
first_date [] = None
first_date (v ∷ vs) = Some v.date

-- ---- a row and a visit

module _ (kept : Kept) where
  abbrev store : Store
  store = store_of kept

  -- a row is that of a visit, and the view is that of its page
  record Tells (row : Row) (s : Seen) : Type 0 where
    pub page : Page
    pub of : IsViewOf store page s.view
    pub is : row ≡ history_row store s.visit.0 page (Some s.date)

  told_seen : (row : Row) (s : Seen) → Tells row s → told_row store row ≡ row_of_seen s
  told_seen row s t = ap (told_row store) t.is ∙ sym same
    where
      same : row_of_seen s ≡ told_row store (history_row store s.visit.0 t.page (Some s.date))
      same = rw (t.of.url, t.of.title, t.of.count, t.of.frecency, t.of.tags) refl

  ids_alike : (row : Row) (s : Seen) → Tells row s → row.id ≡ s.visit.0
  ids_alike row s t = ap (λ (r : Row). r.id) t.is

  stand_alike : (r s : Row) (a b : Seen) → Tells r a → Tells s b
      → comes_before store (By Date Descending) r s ≡ seen_before a b
  stand_alike r s a b one two =
      ap (λ (x : Row). comes_before store (By Date Descending) x s) one.is
      ∙ ap (comes_before store (By Date Descending) (history_row store a.visit.0 one.page (Some a.date))) two.is
      ∙ ap (λ (o : Ordering). is_lt (ordering_then o (nat_cmp a.visit.0 b.visit.0)))
      (sym (nat_cmp_total.antisymm b.date.0 a.date.0))

  -- ---- rows in order

  abbrev back_cmp : Row → Row → Ordering
  back_cmp r s = ordering_then (date_cmp s.date r.date) (nat_cmp r.id s.id)

  back_total_rows : IsTotalOrder back_cmp
  back_total_rows =
      then_total (back_total (on_total (λ (r : Row). Moment r.date) keys_total)) (on_total (λ (r : Row). r.id) nat_cmp_total)

  as_back : (r s : Row) → comes_before store (By Date Descending) r s ≡ is_lt (back_cmp r s)
  as_back r s =
      ap (λ (o : Ordering). is_lt (ordering_then o (nat_cmp r.id s.id)))
      (sym (keys_total.antisymm (Moment s.date) (Moment r.date)))

  rows_rank : IsStrictWeakOrder (comes_before store (By Date Descending))
  rows_rank =
      ranks_alike (comes_before store (By Date Descending)) (λ r s. is_lt (back_cmp r s)) as_back
      (ranks_by back_total_rows (λ (r : Row). r))

  tied_rows : (r s : Row) → ties (comes_before store (By Date Descending)) r s ≡ true → r.id ≡ s.id
  tied_rows r s tie =
      exact_unsigned r.id s.id
      (both_equal (date_cmp s.date r.date) (nat_cmp r.id s.id)
      (tied_equal back_cmp back_total_rows r s (rw (as_back r s, as_back s r) at tie))).1

  -- ---- the rows of a query

  module _ (q : Query) (asks : AsksForLatest q) (good : IsGood store) (h : IsWellKept kept) where
    timed_alike : (p : KeptPage) (v : View) → IsViewOf store p.page v → (visits : List Visit)
        → AreAlike Tells (visits_in_times kept q p visits) (seen_visits kept q v visits)
    timed_alike p v of [] = tt
    timed_alike p v of (w ∷ visits) = choose (in_times store q w.date) (timed_alike p v of visits)
      where
        among : Visit → Bool
        among x = in_times store q x.date

        choose : (b : Bool) → AreAlike Tells (visits_in_times kept q p visits) (seen_visits kept q v visits)
            → AreAlike Tells (map (λ (x : Visit). row_of_visit kept x p) (if b then w ∷ filter among visits else filter among visits))
            (map (seen_of v) (if b then w ∷ filter among visits else filter among visits))
        choose true rest = (record { page = p.page; of = of; is = refl }, rest)
        choose false rest = rest

    no_visits : (visits : List Visit) → is_some (first_date visits) ≡ false → visits ≡ []
    no_visits [] none = refl
    no_visits (v ∷ visits) none = absurd (cc)

    part_alike : (p : KeptPage) (v : View) → Contains store.pages p.page → IsViewOf store p.page v
        → AreAlike Tells (visits_part kept q p) (part_of kept q v)
    part_alike p v among of =
        subst (λ (ss : List Seen). AreAlike Tells (visits_part kept q p) ss) (sym own)
        (choose (is_some (last_date_of store p.page.id)) refl (history_holds store q p.page))
      where
        own : part_of kept q v
            ≡ (if is_some (last_date_of store p.page.id) && history_holds store q p.page
            then seen_visits kept q v (page_visits kept p.page.id) else [])
        own = rw (decides_visited store q p.page v asks.transitions asks.parents good among of, of.id) refl

        choose : (a : Bool) → is_some (last_date_of store p.page.id) ≡ a → (b : Bool)
            → AreAlike Tells (if b then visits_in_times kept q p (page_visits kept p.page.id) else [])
            (if a && b then seen_visits kept q v (page_visits kept p.page.id) else [])
        choose true some true = timed_alike p v of (page_visits kept p.page.id)
        choose true some false = tt
        choose false none true =
            subst (λ (vs : List Visit). AreAlike Tells (visits_in_times kept q p vs) [])
            (sym (no_visits (page_visits kept p.page.id) none)) tt
        choose false none false = tt

    alike_append : (rs ss : List Row) (xs ys : List Seen) → AreAlike Tells rs xs → AreAlike Tells ss ys
        → AreAlike Tells (rs ++ ss) (xs ++ ys)
    alike_append [] ss [] ys one two = two
    alike_append [] ss (x ∷ xs) ys one two = absurd one
    alike_append (r ∷ rs) ss [] ys one two = absurd one
    alike_append (r ∷ rs) ss (x ∷ xs) ys one two = (one.0, alike_append rs ss xs ys one.1 two)

    parts_alike : (ps : List KeptPage) (views : List View)
        → AllByRecursion (Contains store.pages) (map (λ (k : KeptPage). k.page) ps)
        → AreViews store (map (λ (k : KeptPage). k.page) ps) views
        → AreAlike Tells (flat_map (visits_part kept q) ps) (parts_of kept q views)
    parts_alike [] [] among of = tt
    parts_alike [] (v ∷ vs) among of = absurd of
    parts_alike (p ∷ ps) [] among of = absurd of
    parts_alike (p ∷ ps) (v ∷ vs) among of =
        alike_append (visits_part kept q p) (flat_map (visits_part kept q) ps) (part_of kept q v) (parts_of kept q vs)
        (part_alike p v among.0 of.0) (parts_alike ps vs among.1 of.1)

    module _ (views : List View) (of : AreViewsOf store views) where
      abbrev rows : List Row
      rows = flat_map (visits_part kept q) kept.pages

      all_alike : AreAlike Tells rows (parts_of kept q views)
      all_alike = parts_alike kept.pages views (members store.pages) of

      moved : IsPermutation (visit_rows store q) rows
      moved = rows_moved History Visits kept q h

      rows_apart : AllPairs (λ (r s : Row). r.id ≢ s.id) rows
      rows_apart = pairs_moved (λ (r : Row). r.id) (visit_rows store q) rows moved (rows_differ History Visits kept q h)

      -- no two visits that are listed are one
      pub seen_apart : AreApart (parts_of kept q views)
      seen_apart =
          none_tie seen_before (λ (s : Seen). s.visit.0) tied_visits (parts_of kept q views)
          (AllPairs-from_map (λ (m n : ℕ). m ≢ n) (λ (s : Seen). s.visit.0) (parts_of kept q views)
          (subst (AllPairs (λ (m n : ℕ). m ≢ n))
          (alike_map Tells (λ (r : Row). r.id) (λ (s : Seen). s.visit.0) ids_alike rows (parts_of kept q views) all_alike)
          (AllPairs-map (λ (m n : ℕ). m ≢ n) (λ (r : Row). r.id) rows rows_apart)))

      in_order : sorted_by (comes_before store (By Date Descending)) (visit_rows store q)
          ≡ sorted_by (comes_before store (By Date Descending)) rows
      in_order =
          same_sorted (comes_before store (By Date Descending)) rows_rank (visit_rows store q) rows
          (none_tie (comes_before store (By Date Descending)) (λ (r : Row). r.id) tied_rows (visit_rows store q)
          (rows_differ History Visits kept q h))
          moved

      limited_is : limited q.max_results (sorted_by seen_before (parts_of kept q views))
          ≡ first_seen q.max_results (parts_of kept q views)
      limited_is =
          ap (λ (b : Bool).
          if b then sorted_by seen_before (parts_of kept q views)
          else take q.max_results (sorted_by seen_before (parts_of kept q views))) not_none
        where
          not_none : (q.max_results == 0) ≡ false
          not_none = let few = asks.few in ne_eqb q.max_results 0 (λ same. omega (arith, few, same))

      -- what is told of the first visits is what is told of the answer's rows
      pub visits_told : map row_of_seen (first_seen q.max_results (parts_of kept q views))
          ≡ map (told_row store) (answer store q)
      visits_told =
          ap (map row_of_seen) (sym limited_is)
          ∙ sym (alike_map Tells (told_row store) row_of_seen told_seen
          (limited q.max_results (sorted_by (comes_before store (By Date Descending)) rows))
          (limited q.max_results (sorted_by seen_before (parts_of kept q views)))
          (alike_limited Tells q.max_results (sorted_by (comes_before store (By Date Descending)) rows)
          (sorted_by seen_before (parts_of kept q views))
          (alike_sorted Tells (comes_before store (By Date Descending)) seen_before stand_alike rows
          (parts_of kept q views) all_alike)))
          ∙ ap (λ (rs : List Row). map (told_row store) (limited q.max_results rs)) (sym in_order)
          ∙ rw (asks.sort, asks.history, asks.visits) refl
