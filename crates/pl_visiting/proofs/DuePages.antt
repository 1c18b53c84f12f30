-- The pages that are due by a day: each has a view, no other is, and the definition counts as many.
use Rattle.std.proofs.Common.{◌≡◌, ◌==◌, ◌∙◌, ◌<◌, ◌≤◌, Bool, true, false, ℕ, List, [], ◌∷◌}
use Rattle.std.proofs.Common.{Option, Some, None, IfSome, ap, arith, eq-eqb, filter, get_or, if◌then◌else◌, length, map}
use Rattle.std.proofs.Common.{count_by, nat_le, refl, subst, sym}
use Rattle.std.specs.List.Sorted.{IsStrictlyIncreasing}
use Rattle.std.specs.Option.{option_map_or}
use Rattle.std.proofs.lemmas.Bool.{false≢true}
use Rattle.std.proofs.lemmas.Bool.Decides.{nat_tests}
use Rattle.std.proofs.lemmas.List.{length-map}
use Rattle.std.proofs.lemmas.List.Elements.{All-contains_itself}
use Rattle.std.proofs.lemmas.List.Folds.{list_any-from_Any}
use Rattle.std.proofs.lemmas.List.Kept.{AllPairs-filter}
use Rattle.std.proofs.lemmas.List.Sums.{sum_by-cons}
use Rattle.pl_base.specs.declared.date.Day.{Day}
use Rattle.pl_base.specs.declared.id.PageId.{PageId}
use Rattle.pl_base.specs.declared.view.View.{View}
use Rattle.pl_base.specs.Date.{IsDay}
use Rattle.pl_base.specs.Days.{on_day}
use Rattle.pl_base.specs.Store.{Page, Store}
use Rattle.pl_base.specs.View.{AreViews, AreViewsOf, IsViewOf}
use Rattle.pl_base.proofs.Among.{In, contains_from_in, from_filter, from_map, in_filter, in_from_contains, in_map}
use Rattle.pl_base.proofs.KeyCounts.{tick}
use Rattle.pl_base.proofs.ListLaws.{map-map}
use Rattle.pl_base.proofs.Truths.{no_test}
use Rattle.pl_calendar.specs.Days.{due_pages, is_due_by}
use Rattle.pl_follow.specs.Changes.{AreInOrder}
use Rattle.pl_follow.proofs.Parted.{ascend}
use Rattle.pl_known.specs.Known.{view_of}
use Rattle.pl_known.proofs.PutViews.{increasing}
use Rattle.pl_marks.specs.Alike.{is_one_of}
use Rattle.pl_history.specs.Aging.{HadPageOf}
use Rattle.pl_history.proofs.NewDay.{AreStill}
use Rattle.pl_history.proofs.NotDue.{IsStill, still_by_due}
use Rattle.pl_changes.proofs.NewViews.{page_of, view_of_page}
use Rattle.pl_changes.proofs.Seen.{in_seen}
use Rattle.pl_visiting.specs.NewDay.{is_page_due, pages_due}
use Rattle.pl_visiting.proofs.DueByDay.{due_by_day}

later_day : (day : Day) (due : Option Day) → option_map_or (λ (d : Day). nat_le d.0 day.0) due false ≡ false
    → IfSome due (λ d. day.0 < d.0)
later_day day None none = tt
later_day day (Some d) none = grind (arith, nat_tests)

-- a page is still where its view is not due
pub still_by_view : (day : Day) (store : Store) (p : Page) (view : View) → IsDay day → IsViewOf store p view
    → is_due_by day view ≡ false → IsStill day store p.id
still_by_view day store p view within is none =
    still_by_due day store p.id view.due within is.due (later_day day view.due none)

one_of : (ids : List PageId) (id : PageId) → In id ids → is_one_of ids id ≡ true
one_of ids id h =
    let at = contains_from_in ids id h in
    list_any-from_Any (λ (other : PageId). id.0 == other.0) ids (at.0, id, at.1, at.2, eq-eqb id.0 id.0 refl)

-- a page that is due by the day, and its view
pub record IsDueView (day : Day) (store : Store) (views : List View) (page : PageId) (view : View) : Type 0 where
  pub found : view_of page views ≡ Some view
  pub named : view.id ≡ page
  pub due : is_due_by day view ≡ true
  pub had : HadPageOf (on_day day store) view

module _ (day : Day) (store : Store) (views : List View) (are : AreViewsOf store views)
    (ordered : AreInOrder views) where
  had_page : (view : View) → In view views → HadPageOf (on_day day store) view
  had_page view h =
      let p = page_of store store.pages views are view h in
      (store.day, record { page = p.0; there = contains_from_in store.pages p.0 p.1; seen = p.2 })

  pub due_view : (i : ℕ) (d : PageId) → i < length (due_pages day views)
      → (view : View) × IsDueView day store views (get_or (due_pages day views) i d) view
  due_view i d within =
      let page : PageId = get_or (due_pages day views) i d in
      let m =
      from_map (λ (v : View). v.id) (filter (is_due_by day) views) page
      (in_from_contains (due_pages day views) page (All-contains_itself (due_pages day views) i d within)) in
      let f = from_filter (is_due_by day) views m.0 m.1 in (
        m.0,
        record {
          found =
              ap (λ (id : PageId). view_of id views) m.2
              ∙ in_seen views (ascend views ordered) m.0 f.0;
          named = sym m.2;
          due = f.1;
          had = had_page m.0 f.0;
        },
      )

  pub others_still : IsDay day → AreStill (due_pages day views) day store
  others_still within p there other =
      let v = view_of_page store store.pages views are p (in_from_contains store.pages p there) in
      still_by_view day store p v.0 within v.2 (no_test (is_due_by day v.0) (λ due.
      false≢true (sym other ∙ listed v.0 v.1 v.2 due)))
    where
      listed : (v : View) → In v views → IsViewOf store p v → is_due_by day v ≡ true
          → is_one_of (due_pages day views) p.id ≡ true
      listed v h is due =
          ap (is_one_of (due_pages day views)) (sym is.id)
          ∙ one_of (due_pages day views) v.id
          (in_map (λ (w : View). w.id) (filter (is_due_by day) views) v (in_filter (is_due_by day) views v h due))

  pub due_ascend : IsStrictlyIncreasing (map (λ (page : PageId). page.0) (due_pages day views))
  due_ascend =
      subst IsStrictlyIncreasing
      (sym (map-map (λ (page : PageId). page.0) (λ (v : View). v.id) (filter (is_due_by day) views)))
      (increasing (λ (v : View). v.id.0) (filter (is_due_by day) views)
      (AllPairs-filter (λ (v w : View). v.id.0 < w.id.0) (is_due_by day) views ordered))

  pub few_due : length (due_pages day views) ≤ pages_due day store
  few_due =
      omega (arith, length-map (filter (is_due_by day) views) (λ (v : View). v.id), few store.pages views are)
    where
      few : (ps : List Page) (vs : List View) → AreViews store ps vs
          → length (filter (is_due_by day) vs) ≤ count_by (is_page_due day store) ps
      few [] [] are = omega arith
      few [] (v ∷ vs) are = absurd are
      few (p ∷ ps) [] are = absurd are
      few (p ∷ ps) (v ∷ vs) are = choose (is_due_by day v) refl (few ps vs are.1)
        where
          choose : (b : Bool) → is_due_by day v ≡ b
              → length (filter (is_due_by day) vs) ≤ count_by (is_page_due day store) ps
              → length (if b then v ∷ filter (is_due_by day) vs else filter (is_due_by day) vs)
              ≤ count_by (is_page_due day store) (p ∷ ps)
          choose true is rest =
              omega (
                arith,
                rest,
                sum_by-cons (λ (q : Page). tick (is_page_due day store q)) p ps,
                ap tick (due_by_day day store p v.due are.0.due is),
              )
          choose false is rest =
              omega (arith, rest, sum_by-cons (λ (q : Page). tick (is_page_due day store q)) p ps)
