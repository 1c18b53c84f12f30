-- A visit: the page that it goes to, found or made, and the store after it.
use Rattle.std.specs.Prelude.{ℕ, ◌+◌, ◌==◌, ◌||◌, List, [], ◌∷◌, ◌++◌, map, bytes_eq, unwrap_or}
use Rattle.std.specs.Prelude.{is_none, Option, if◌then◌else◌, false}
use Rattle.std.specs.List.{find}
use Rattle.pl_base.specs.declared.date.Micros.{Micros}
use Rattle.pl_base.specs.declared.id.PageId.{PageId}
use Rattle.pl_base.specs.declared.id.VisitId.{VisitId}
use Rattle.pl_base.specs.declared.transition.Transition.{Transition}
use Rattle.pl_base.specs.Marks.{is_typed}
use Rattle.pl_base.specs.Store.{Store, Page, Visit}

-- the page with the URL
abbrev pub find_page : List ℕ → List Page → Option Page
find_page url pages = find (λ (p : Page). bytes_eq p.url url) pages

-- a page of the URL with the next id
abbrev pub new_page : Store → List ℕ → Page
new_page store url =
    record { id = record { 0 = store.ids.page }; url = url; title = []; typed = false }

-- the page that a visit to the URL goes to: the one with the URL, or a new one
abbrev pub page_for : Store → List ℕ → Page
page_for store url = unwrap_or (find_page url store.pages) (new_page store url)

-- the store with that page, a new one at the end of the pages
abbrev pub with_page_for : Store → List ℕ → Store
with_page_for store url =
    if is_none (find_page url store.pages)
    then record store {
      pages = store.pages ++ new_page store url ∷ [];
      ids = record store.ids { page = store.ids.page + 1 };
    }
    else store

-- a page after a visit to it: from a typed visit on it is typed
abbrev pub visited_page : Transition → Page → Page
visited_page transition p = record p { typed = p.typed || is_typed transition }

-- the same of the page with this id
abbrev pub visit_page : PageId → Transition → Page → Page
visit_page id transition p = if p.id.0 == id.0 then visited_page transition p else p

-- a visit with the next id
abbrev pub new_visit : Store → PageId → Transition → Micros → Option VisitId → Visit
new_visit store page transition date source =
    record {
      id = record { 0 = store.ids.visit };
      page = page;
      date = date;
      transition = transition;
      source = source;
    }

-- the store with that visit, at the end of the visits
abbrev pub visited_store : PageId → Transition → Micros → Option VisitId → Store → Store
visited_store page transition date source store =
    record store {
      ids = record store.ids { visit = store.ids.visit + 1 };
      pages = map (visit_page page transition) store.pages;
      visits = store.visits ++ new_visit store page transition date source ∷ [];
    }

-- the store after a visit to the URL
abbrev pub after_visit : Store → List ℕ → Transition → Micros → Option VisitId → Store
after_visit store url transition date source =
    visited_store (page_for store url).id transition date source (with_page_for store url)
