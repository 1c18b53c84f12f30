-- The page of a view that was its view on some day, once its frecency and its due day are those of
-- another.
use Rattle.std.proofs.Common.{◌≡◌, ◌∙◌, ◌||◌, ◌==◌, All, Bool, true, List, ◌∷◌, ℤ, ap, eq-eqb, refl, subst, sym}
use Rattle.std.specs.List.{Contains}
use Rattle.std.proofs.lemmas.List.Elements.{All-contains_itself, All-weaker}
use Rattle.std.proofs.lemmas.List.Folds.{list_any-from_Any}
use Rattle.pl_base.specs.declared.id.PageId.{PageId}
use Rattle.pl_base.specs.declared.row.Mark.{Mark}
use Rattle.pl_base.specs.declared.view.View.{View}
use Rattle.pl_base.specs.Address.{is_place_url}
use Rattle.pl_base.specs.Due.{IsDue}
use Rattle.pl_base.specs.Frecency.{frecency_of}
use Rattle.pl_base.specs.Marks.{is_hidden, is_referenced, visit_count}
use Rattle.pl_base.specs.Rows.{IsWellKept, Kept, KeptPage, has_page, store_of, with_mark, with_origins}
use Rattle.pl_base.specs.Store.{Page}
use Rattle.pl_base.specs.Visits.{visits_of}
use Rattle.pl_base.proofs.IdsLaws.{same_page}
use Rattle.pl_base.proofs.ListLaws.{All-from_map, list_any-map}
use Rattle.pl_marks.specs.declared.mark.Aged.{Aged}
use Rattle.pl_marks.specs.Refreshed.{AreRightBut}
use Rattle.pl_marks.proofs.SeenVisits.{hidden_by}
use Rattle.pl_history.specs.Aging.{HadPageOf, HasPageOf, with_aged}
use Rattle.pl_history.proofs.OthersAlike.{pages_once}
use Rattle.pl_history.proofs.RightAfter.{right_refreshed}
use Rattle.pl_history.proofs.VisitRows.{store_same}

-- the mark of a view, with another frecency
abbrev pub mark_in : View → ℤ → Mark
mark_in view frecency =
    record { frecency = frecency; count = view.count; typed = view.typed; hidden = view.hidden }

module _ (kept : Kept) (view : View) (had : HadPageOf (store_of kept) view) where
  pub counted : view.count ≡ visit_count (store_of kept) view.id
  counted = had.1.seen.count ∙ ap (visit_count (store_of kept)) (sym had.1.seen.id)

  pub referred : view.referenced ≡ is_referenced (store_of kept) view.id
  referred = had.1.seen.referenced ∙ ap (is_referenced (store_of kept)) (sym had.1.seen.id)

  pub page_there : has_page kept view.id ≡ true
  page_there =
      sym (list_any-map (λ (p : Page). p.id.0 == view.id.0) (λ (p : KeptPage). p.page) kept.pages)
      ∙ list_any-from_Any (λ (p : Page). p.id.0 == view.id.0) (store_of kept).pages (
        had.1.there.0,
        had.1.page,
        had.1.there.1,
        had.1.there.2,
        eq-eqb had.1.page.id.0 view.id.0 (ap (λ (id : PageId). id.0) (sym had.1.seen.id)),
      )

  pub aged_view : (aged : Aged) → ((p : Page) → p.id ≡ view.id → view.typed ≡ p.typed
      → is_place_url had.1.page.url ≡ is_place_url p.url → aged.frecency ≡ frecency_of (store_of kept) p)
      → IsDue (store_of kept) view.id aged.due → HasPageOf (store_of kept) (with_aged view aged)
  aged_view aged scored due =
      let seen = had.1.seen in
      record {
        page = had.1.page;
        there = had.1.there;
        seen = record {
          id = seen.id;
          url = seen.url;
          title = seen.title;
          mark_title = seen.mark_title;
          tags = seen.tags;
          origin = seen.origin;
          frecency = scored had.1.page (sym seen.id) seen.typed refl;
          count = seen.count;
          last = seen.last;
          due = subst (λ (id : PageId). IsDue (store_of kept) id aged.due) seen.id due;
          typed = seen.typed;
          hidden = seen.hidden;
          bookmarked = seen.bookmarked;
          referenced = seen.referenced;
        };
      }

  module _ (well : IsWellKept kept) where
    -- what holds of the page holds of each with its id
    each_with : (P : Page → Type 0) → P had.1.page
        → All (λ (p : Page). (p.id.0 == view.id.0) ≡ true → P p) (store_of kept).pages
    each_with P holds =
        All-weaker (Contains (store_of kept).pages) (λ (p : Page). (p.id.0 == view.id.0) ≡ true → P p)
        (λ p there same.
        subst P (sym (pages_once kept well had.1.page p had.1.there there
        (same_page p.id view.id same ∙ had.1.seen.id))) holds)
        (store_of kept).pages (All-contains_itself (store_of kept).pages)

    pub store_aged : (new : Kept) (frecency : ℤ)
        → new ≡ with_origins new.origins (with_mark view.id (mark_in view frecency) kept)
        → store_of new ≡ store_of kept
    store_aged new frecency is =
        ap store_of is
        ∙ store_same kept view.id (mark_in view frecency)
        (each_with (λ (p : Page). view.typed ≡ p.typed) had.1.seen.typed)

    -- a page with the id is hidden as the view tells
    shown : (p : Page) → p.id ≡ view.id → is_place_url had.1.page.url ≡ is_place_url p.url
        → view.hidden ≡ is_hidden (store_of kept) p
    shown p same place =
        had.1.seen.hidden
        ∙ ap (λ (b : Bool). b || hidden_by (store_of kept) (visits_of (store_of kept) had.1.page.id)) place
        ∙ ap (λ (id : PageId). is_place_url p.url || hidden_by (store_of kept) (visits_of (store_of kept) id))
        (sym had.1.seen.id ∙ sym same)

    pub right_aged : (ids : List PageId) (new : Kept) (frecency : ℤ)
        → new ≡ with_origins new.origins (with_mark view.id (mark_in view frecency) kept)
        → ((p : Page) → p.id ≡ view.id → view.typed ≡ p.typed → is_place_url had.1.page.url ≡ is_place_url p.url
        → frecency ≡ frecency_of (store_of kept) p)
        → AreRightBut (view.id ∷ ids) kept → AreRightBut ids new
    right_aged ids new frecency is scored right =
        right_refreshed ids view.id (mark_in view frecency) (is_place_url had.1.page.url) kept new frecency right
        (record { hidden = view.hidden; rows = is; scored = scored; shown = shown }) counted
        (All-from_map (λ (p : Page). (p.id.0 == view.id.0) ≡ true
        → is_place_url had.1.page.url ≡ is_place_url p.url) (λ (p : KeptPage). p.page) kept.pages
        (each_with (λ (p : Page). is_place_url had.1.page.url ≡ is_place_url p.url) refl))
