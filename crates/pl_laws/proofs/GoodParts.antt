-- A store that is good but for pages that nothing keeps and for the ends of the ids of pages and
-- items: its parts, and that without such pages it is good.
use Rattle.std.proofs.Common.{◌≡◌, ◌≢◌, ◌<◌, ◌≤◌, ◌==◌, ◌&&◌, ◌∙◌, ℕ, All, Bool, true, false, IsTrue, List}
use Rattle.std.proofs.Common.{Option, Some, None, ap, eq-eqb, get_or, map, refl}
use Rattle.std.specs.List.{AllPairs, list_any}
use Rattle.std.specs.Option.{IfSome, IsSome}
use Rattle.std.proofs.lemmas.Bool.{and_right, or_left, or_right}
use Rattle.std.proofs.lemmas.List.Elements.{All-filter, filter_passes}
use Rattle.std.proofs.lemmas.List.Folds.{list_any_at}
use Rattle.std.proofs.lemmas.List.Kept.{AllPairs-filter}
use Rattle.pl_base.specs.declared.id.PageId.{PageId}
use Rattle.pl_base.specs.declared.id.VisitId.{VisitId}
use Rattle.pl_base.specs.declared.transition.Transition.TheVariants.{Typed}
use Rattle.pl_base.specs.Address.{canon}
use Rattle.pl_base.specs.Date.{IsDate, IsDay}
use Rattle.pl_base.specs.Good.{AreIds, HasGoodItems, IsGood, IsTitle, end_of_ids, has_page_at, is_visited}
use Rattle.pl_base.specs.Marks.{is_referenced}
use Rattle.pl_base.specs.Redirects.{visit_by_id}
use Rattle.pl_base.specs.Removal.{is_standing, without_idle_pages}
use Rattle.pl_base.specs.Store.{Item, Page, Store, Visit}
use Rattle.pl_base.specs.Tree.{is_page}
use Rattle.pl_base.proofs.IdsLaws.{same_page}
use Rattle.pl_base.proofs.ListLaws.{found_in, list_any-alike, some_in}
use Rattle.pl_history.proofs.GoodRows.{items_of, items_with}
use Rattle.pl_history.proofs.TakenVisits.{any-filter}
use Rattle.pl_laws.proofs.GoodIds.{AreNumbered, are_ids, numbered, some_left}

-- ---- the parts

abbrev pub has_page : PageId → List Page → Bool
has_page id pages = list_any (λ (p : Page). p.id.0 == id.0) pages

abbrev pub has_visit : VisitId → List Visit → Bool
has_visit id visits = list_any (λ (v : Visit). v.id.0 == id.0) visits

-- a page as `IsGoodPage` has it, whether it stands or not
pub record IsRow (visits : List Visit) (p : Page) : Type 0 where
  pub url : canon p.url ≡ Some p.url
  pub title : IsTitle p.title
  pub typed : All (λ (v : Visit). v.page ≡ p.id → v.transition ≡ Typed → IsTrue p.typed) visits

-- a visit as `IsGoodVisit` has it
pub record IsMade (pages : List Page) (visits : List Visit) (v : Visit) : Type 0 where
  pub date : IsDate v.date
  pub page : IsTrue (has_page v.page pages)
  pub source : IfSome v.source (λ id. (id.0 < v.id.0) × IsTrue (has_visit id visits))

pub record IsLoose (store : Store) : Type 0 where
  pub day : IsDay store.day
  pub page_ids : AreNumbered 1 store.ids.page (map (λ (p : Page). p.id.0) store.pages)
  pub visit_ids : AreIds 1 store.ids.visit (map (λ (v : Visit). v.id.0) store.visits)
  pub item_ids : AreNumbered 7 store.ids.item (map (λ (i : Item). i.id.0) store.items)
  pub rows : All (IsRow store.visits) store.pages
  pub urls : AllPairs (λ (p q : Page). p.url ≢ q.url) store.pages
  pub visits : All (IsMade store.pages store.visits) store.visits
  pub items : HasGoodItems store

-- each page stands by a visit or an item
abbrev pub AreStanding : Store → Type 0
AreStanding store = All (λ (p : Page). IsTrue (is_standing store p.id)) store.pages

-- the next ids of pages and items are ids or the end
pub record IsWithinIds (store : Store) : Type 0 where
  pub page : store.ids.page ≤ end_of_ids
  pub item : store.ids.item ≤ end_of_ids

-- ---- of a good store, and back

source_there : (store : Store) (n : ℕ) (source : Option VisitId)
    → IfSome source (λ id. (id.0 < n) × IsSome (visit_by_id store id))
    → IfSome source (λ id. (id.0 < n) × IsTrue (has_visit id store.visits))
source_there store n None there = tt
source_there store n (Some id) there = (there.0, some_in (λ (v : Visit). v.id.0 == id.0) store.visits there.1)

source_found : (store : Store) (n : ℕ) (source : Option VisitId)
    → IfSome source (λ id. (id.0 < n) × IsTrue (has_visit id store.visits))
    → IfSome source (λ id. (id.0 < n) × IsSome (visit_by_id store id))
source_found store n None there = tt
source_found store n (Some id) there = (there.0, found_in (λ (v : Visit). v.id.0 == id.0) store.visits there.1)

pub loose : (store : Store) → IsGood store → IsLoose store
loose store good =
    record {
      day = good.day;
      page_ids = numbered 1 store.ids.page (map (λ (p : Page). p.id.0) store.pages) good.page_ids;
      visit_ids = good.visit_ids;
      item_ids = numbered 7 store.ids.item (map (λ (i : Item). i.id.0) store.items) good.item_ids;
      rows =
          λ k d within. record {
            url = (good.pages k d within).url;
            title = (good.pages k d within).title;
            typed = (good.pages k d within).typed;
          };
      urls = good.urls;
      visits =
          λ k d within. record {
            date = (good.visits k d within).date;
            page = (good.visits k d within).page;
            source =
                source_there store (get_or store.visits k d).id.0 (get_or store.visits k d).source
                (good.visits k d within).source;
          };
      items = items_of store good;
    }

pub standing : (store : Store) → IsGood store → AreStanding store
standing store good k d within = (good.pages k d within).kept

pub within_ids : (store : Store) → IsGood store → IsWithinIds store
within_ids store good = record { page = good.page_ids.next_last; item = good.item_ids.next_last }

pub good_from : (store : Store) → IsLoose store → AreStanding store → IsWithinIds store → IsGood store
good_from store l stands w =
    record {
      day = l.day;
      page_ids = are_ids 1 store.ids.page (map (λ (p : Page). p.id.0) store.pages) l.page_ids w.page;
      visit_ids = l.visit_ids;
      item_ids = are_ids 7 store.ids.item (map (λ (i : Item). i.id.0) store.items) l.item_ids w.item;
      pages =
          λ k d within. record {
            url = (l.rows k d within).url;
            title = (l.rows k d within).title;
            typed = (l.rows k d within).typed;
            kept = stands k d within;
          };
      urls = l.urls;
      visits =
          λ k d within. record {
            date = (l.visits k d within).date;
            page = (l.visits k d within).page;
            source =
                source_found store (get_or store.visits k d).id.0 (get_or store.visits k d).source
                (l.visits k d within).source;
          };
      items = l.items.items;
      roots = l.items.roots;
      tree = l.items.tree;
      tags = l.items.tags;
    }

-- ---- without idle pages

module _ (store : Store) (l : IsLoose store) where
  abbrev left : Store
  left = without_idle_pages store

  -- a page that stands is still there
  page_stays : (id : PageId) → IsTrue (has_page id store.pages) → IsTrue (is_standing store id)
      → IsTrue (has_page id left.pages)
  page_stays id there stands =
      any-filter (λ (p : Page). p.id.0 == id.0) (λ (p : Page). is_standing store p.id) store.pages
      ∙ list_any-alike (λ (p : Page). is_standing store p.id && (p.id.0 == id.0)) (λ (p : Page). p.id.0 == id.0)
      store.pages (λ p. same p (p.id.0 == id.0) refl)
      ∙ there
    where
      same : (p : Page) (b : Bool) → (p.id.0 == id.0) ≡ b → (is_standing store p.id && b) ≡ b
      same p true is = ap (λ (c : Bool). c && true) (ap (is_standing store) (same_page p.id id is) ∙ stands)
      same p false is = and_right (is_standing store p.id) false refl

  of_item : (page : Option PageId) → ((id : PageId) → page ≡ Some id → IsTrue (is_referenced store id))
      → IfSome page (λ id. IsTrue (has_page_at store id)) → IfSome page (λ id. IsTrue (has_page_at left id))
  of_item None referenced there = tt
  of_item (Some id) referenced there =
      page_stays id there (or_right (is_visited store id) (is_referenced store id) (referenced id refl))

  left_items : HasGoodItems left
  left_items =
      items_with store left refl
      (λ k d within.
      of_item (get_or store.items k d).page
      (λ id is.
      list_any_at (λ (i : Item). is_page id i.page) store.items k d within
      (ap (is_page id) is ∙ eq-eqb id.0 id.0 refl))
      (l.items.items k d within).page)
      l.items

  left_loose : IsLoose left
  left_loose =
      record {
        day = l.day;
        page_ids =
            some_left (λ (p : Page). p.id.0) 1 store.ids.page store.pages l.page_ids
            (λ (p : Page). is_standing store p.id);
        visit_ids = l.visit_ids;
        item_ids = l.item_ids;
        rows = All-filter (λ (p : Page). is_standing store p.id) (IsRow store.visits) store.pages l.rows;
        urls =
            AllPairs-filter (λ (p q : Page). p.url ≢ q.url) (λ (p : Page). is_standing store p.id) store.pages l.urls;
        visits =
            λ k d within.
            let v : Visit = get_or store.visits k d in
            record {
              date = (l.visits k d within).date;
              page =
                  page_stays v.page (l.visits k d within).page
                  (or_left (is_visited store v.page) (is_referenced store v.page)
                  (list_any_at (λ (w : Visit). w.page.0 == v.page.0) store.visits k d within
                  (eq-eqb v.page.0 v.page.0 refl)));
              source = (l.visits k d within).source;
            };
        items = left_items;
      }

  pub good_left : IsWithinIds store → IsGood (without_idle_pages store)
  good_left w =
      good_from left left_loose (filter_passes (λ (p : Page). is_standing store p.id) store.pages)
      (record { page = w.page; item = w.item })
