-- Worked rows of visits and pages that go, and of days: the definitions compute to values that were worked out by hand.
use Rattle.std.proofs.Common.{◌≡◌, ◌*◌, ℕ, List, [], ◌∷◌, map, Option, Some, None, false, refl}
use Rattle.std.specs.Prelude.{pos}
use Rattle.pl_base.specs.declared.date.Day.{Day}
use Rattle.pl_base.specs.declared.id.VisitId.{VisitId}
use Rattle.pl_base.specs.declared.item.ItemKind.TheVariants.{Bookmark as ItemBookmark}
use Rattle.pl_base.specs.declared.transition.Transition.{Transition}
use Rattle.pl_base.specs.declared.transition.Transition.TheVariants.{Link, Typed, RedirectPermanent}
use Rattle.pl_base.specs.declared.transition.Transition.TheVariants.{RedirectTemporary}
use Rattle.pl_base.specs.Days.{pages_moved}
use Rattle.pl_base.specs.Expiration.{expired, stale_pages, trimmed, visits_before}
use Rattle.pl_base.specs.Frecency.{frecency_of}
use Rattle.pl_base.specs.Removal.{forgotten, visits_left, without_visits}
use Rattle.pl_base.specs.Store.{Store, Page, Visit, Item, item_id, opening}
use Rattle.pl_base.proofs.WorkedRows as worked

abbrev day : ℕ → Day
day n = record { 0 = n }

abbrev visit_id : ℕ → VisitId
visit_id n = record { 0 = n }

abbrev page : ℕ → Page
page n = record { id = record { 0 = n }; url = []; title = []; typed = false }

-- the visit `id` to page `of`, so many hours after the first moment of 1970
abbrev visit : ℕ → ℕ → ℕ → Transition → Option VisitId → Visit
visit id of hours transition source = worked.visit id of (hours * 3_600_000_000) transition source

-- a bookmark of the page
abbrev bookmark : ℕ → ℕ → Item
bookmark id of =
    record {
      id = item_id id;
      kind = ItemBookmark;
      title = [];
      page = Some (record { 0 = of });
      added = record { 0 = 0 };
      modified = record { 0 = 0 };
      children = [];
    }

abbrev page_ids : Store → List ℕ
page_ids store = map (λ (p : Page). p.id.0) store.pages

abbrev visit_ids : Store → List ℕ
visit_ids store = map (λ (v : Visit). v.id.0) store.visits

-- a typed address, from which one page came by a redirect, and from that another one; page 4 is a bookmark
abbrev chain : Store
chain =
    record opening {
      pages = map page (1 ∷ 2 ∷ 3 ∷ 4 ∷ []);
      visits =
          visit 1 1 0 Typed None ∷ visit 2 2 1 RedirectTemporary (Some (visit_id 1))
          ∷ visit 3 3 2 RedirectPermanent (Some (visit_id 2)) ∷ visit 4 4 24 Link None ∷ [];
      items = bookmark 7 4 ∷ [];
    }

-- ---- visits that go

-- the middle one goes with its page: the last one has no source, and the first one is as it was
middle_gone : visits_left (visit_id 2 ∷ []) chain.visits
    ≡ visit 1 1 0 Typed None ∷ visit 3 3 2 RedirectPermanent None ∷ visit 4 4 24 Link None ∷ []
middle_gone = refl

middle_page_gone : page_ids (without_visits (visit_id 2 ∷ []) chain) ≡ 1 ∷ 3 ∷ 4 ∷ []
middle_page_gone = refl

-- before and after it the first page is worth 25 and 2000, the last one 40 and 50
worth_of_the_ends :
    map (λ store. map (λ n. frecency_of store (page n)) (1 ∷ 3 ∷ []))
    (chain ∷ without_visits (visit_id 2 ∷ []) chain ∷ [])
    ≡ (pos 25 ∷ pos 40 ∷ []) ∷ (pos 2000 ∷ pos 50 ∷ []) ∷ []
worth_of_the_ends = refl

-- two at once
ends_gone : without_visits (visit_id 1 ∷ visit_id 3 ∷ []) chain
    ≡ record chain {
      pages = map page (2 ∷ 4 ∷ []);
      visits = visit 2 2 1 RedirectTemporary None ∷ visit 4 4 24 Link None ∷ [];
    }
ends_gone = refl

-- a bookmark keeps its page
bookmark_stays : page_ids (forgotten (record { 0 = 4 }) chain) ≡ 1 ∷ 2 ∷ 3 ∷ 4 ∷ []
bookmark_stays = refl

its_visit_goes : visit_ids (forgotten (record { 0 = 4 }) chain) ≡ 1 ∷ 2 ∷ 3 ∷ []
its_visit_goes = refl

-- ---- old visits

-- visit 4 is of day 1
before_days : map (λ n. map (λ (id : VisitId). id.0) (visits_before (day n) chain)) (0 ∷ 1 ∷ 2 ∷ [])
    ≡ [] ∷ (1 ∷ 2 ∷ 3 ∷ []) ∷ (1 ∷ 2 ∷ 3 ∷ 4 ∷ []) ∷ []
before_days = refl

expired_pages : map (λ n. page_ids (expired (day n) chain)) (1 ∷ 2 ∷ []) ≡ (4 ∷ []) ∷ (4 ∷ []) ∷ []
expired_pages = refl

-- ---- stale pages

-- pages 2 and 3 were last visited at the same date, page 4 before them and again behind them; page 5
-- has no visit, pages 1 and 5 are bookmarks
abbrev shelf : Store
shelf =
    record opening {
      pages = map page (1 ∷ 2 ∷ 3 ∷ 4 ∷ 5 ∷ []);
      visits =
          visit 1 4 1 Link None ∷ visit 2 1 2 Link None ∷ visit 3 3 5 Link None ∷ visit 4 2 5 Link None
          ∷ visit 5 4 6 Link None ∷ [];
      items = bookmark 7 1 ∷ bookmark 8 5 ∷ [];
    }

stalest : map (λ (p : Page). p.id.0) (stale_pages shelf) ≡ 2 ∷ 3 ∷ 4 ∷ []
stalest = refl

-- five pages are no more than five; then the stalest go, and the bookmarks stay whatever is asked
trimmed_to : map (λ n. page_ids (trimmed n shelf)) (6 ∷ 5 ∷ 4 ∷ 3 ∷ 2 ∷ 1 ∷ 0 ∷ [])
    ≡ (1 ∷ 2 ∷ 3 ∷ 4 ∷ 5 ∷ []) ∷ (1 ∷ 2 ∷ 3 ∷ 4 ∷ 5 ∷ []) ∷ (1 ∷ 3 ∷ 4 ∷ 5 ∷ []) ∷ (1 ∷ 4 ∷ 5 ∷ [])
    ∷ (1 ∷ 5 ∷ []) ∷ (1 ∷ 5 ∷ []) ∷ (1 ∷ 5 ∷ []) ∷ []
trimmed_to = refl

-- ---- days

-- four days old and five
moved : map (λ n. pages_moved (day n) (record chain { items = [] })) (4 ∷ 5 ∷ 6 ∷ []) ≡ 0 ∷ 3 ∷ 4 ∷ []
moved = refl
