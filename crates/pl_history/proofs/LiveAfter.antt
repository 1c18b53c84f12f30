-- How many slots a store takes once a page is visited.
use Rattle.std.proofs.Common.{◌≡◌, ◌+◌, ◌==◌, ◌++◌, ◌∙◌, if◌then◌else◌, ℕ, Bool, true, false}
use Rattle.std.proofs.Common.{List, [], ◌∷◌, Option, Some, None, ap, arith, get_or, map, refl}
use Rattle.std.specs.List.{list_any, sum_by}
use Rattle.std.proofs.lemmas.List.{length-map, length_push, map_push}
use Rattle.std.proofs.lemmas.List.Sums.{sum_by_push}
use Rattle.pl_base.specs.declared.date.Micros.{Micros}
use Rattle.pl_base.specs.declared.id.PageId.{PageId}
use Rattle.pl_base.specs.declared.id.VisitId.{VisitId}
use Rattle.pl_base.specs.declared.transition.Transition.{Transition}
use Rattle.pl_base.specs.Address.{same_origin}
use Rattle.pl_base.specs.Live.{chunks, live_slots, new_origins, origin_count}
use Rattle.pl_base.specs.Rows.{Kept, KeptPage, live_with_page, store_of}
use Rattle.pl_base.specs.Store.{Page, Store, Visit}
use Rattle.pl_base.proofs.OriginLaws.{new_origins-append, same_origin-sym}
use Rattle.pl_base.specs.Visiting.{after_visit, find_page, new_page, visit_page, visited_page, visited_store, new_visit}
use Rattle.pl_base.proofs.ListLaws.{list_any-alike, list_any-map, sum_by-agree, sum_by-map}
use Rattle.pl_base.proofs.Truths.{same_tests}
use Rattle.pl_history.proofs.VisitRows.{store-with_page, visited_at, grown_store}

-- ---- a visit

url_at : (b : Bool) (transition : Transition) (p : Page) → (if b then visited_page transition p else p).url ≡ p.url
url_at true transition p = refl
url_at false transition p = refl

title_at : (b : Bool) (transition : Transition) (p : Page)
    → (if b then visited_page transition p else p).title ≡ p.title
title_at true transition p = refl
title_at false transition p = refl

-- the slots of a page's texts
abbrev texts : Page → ℕ
texts p = chunks p.url + chunks p.title

urls_visited : (id : PageId) (transition : Transition) (pages : List Page)
    → map (λ (p : Page). p.url) (map (visit_page id transition) pages) ≡ map (λ (p : Page). p.url) pages
urls_visited id transition [] = refl
urls_visited id transition (p ∷ pages) = rw (url_at (p.id.0 == id.0) transition p, urls_visited id transition pages)

texts_visited : (id : PageId) (transition : Transition) (pages : List Page)
    → sum_by texts (map (visit_page id transition) pages) ≡ sum_by texts pages
texts_visited id transition pages =
    sum_by-map texts (visit_page id transition) pages
    ∙ sum_by-agree (λ (p : Page). texts (visit_page id transition p)) texts pages
    (λ k d within.
    let p : Page = get_or pages k d in
    rw (url_at (p.id.0 == id.0) transition p, title_at (p.id.0 == id.0) transition p) refl)

pub live_visited : (id : PageId) (transition : Transition) (date : Micros) (source : Option VisitId) (store : Store)
    → live_slots (visited_store id transition date source store) ≡ live_slots store + 1
live_visited id transition date source store =
    let new : Visit = new_visit store id transition date source in
    let origins : origin_count (map (λ (p : Page). p.url) (map (visit_page id transition) store.pages))
    ≡ origin_count (map (λ (p : Page). p.url) store.pages) =
    ap origin_count (urls_visited id transition store.pages) in
    omega (
      arith,
      origins,
      length-map store.pages (visit_page id transition),
      length_push store.visits new,
      texts_visited id transition store.pages,
    )

-- ---- a page

same_origin-swap : (a b : List ℕ) → same_origin a b ≡ same_origin b a
same_origin-swap a b = same_tests (same_origin a b) (same_origin b a) (same_origin-sym a b) (same_origin-sym b a)

-- the slot of the URL's origin, unless a page has that origin
origin_new : (url : List ℕ) (pages : List Page)
    → new_origins (map (λ (p : Page). p.url) pages) (url ∷ [])
    ≡ (if list_any (λ (p : Page). same_origin p.url url) pages then 0 else 1)
origin_new url pages =
    let any : list_any (same_origin url) (map (λ (p : Page). p.url) pages)
    ≡ list_any (λ (p : Page). same_origin p.url url) pages =
    list_any-map (same_origin url) (λ (p : Page). p.url) pages
    ∙ list_any-alike (λ (p : Page). same_origin url p.url) (λ (p : Page). same_origin p.url url) pages
    (λ p. same_origin-swap url p.url) in
    ap (λ (b : Bool). (if b then 0 else 1) + 0) any ∙ omega arith

live_new_page : (store : Store) (url : List ℕ)
    → live_slots (grown_store store url) ≡ live_slots store
    + (1 + chunks url + (if list_any (λ (p : Page). same_origin p.url url) store.pages then 0 else 1))
live_new_page store url =
    let urls : List (List ℕ) = map (λ (p : Page). p.url) store.pages in
    let new : Page = new_page store url in
    let origins : origin_count (map (λ (p : Page). p.url) (store.pages ++ new ∷ [])) ≡ origin_count urls
    + new_origins urls (url ∷ []) =
    ap origin_count (map_push (λ (p : Page). p.url) store.pages new) ∙ new_origins-append [] urls (url ∷ []) in
    omega (arith, origins, origin_new url store.pages, length_push store.pages new, sum_by_push texts store.pages new)

-- ---- what a command and a call leave

pub live_found : (store : Store) (url : List ℕ) (transition : Transition) (date : Micros) (source : Option VisitId)
    (p : Page) → find_page url store.pages ≡ Some p
    → live_slots (after_visit store url transition date source) ≡ live_slots store + 1
live_found store url transition date source p found =
    ap live_slots (ap (visited_at store url transition date source) found)
    ∙ live_visited p.id transition date source store

pub live_new : (store : Store) (url : List ℕ) (transition : Transition) (date : Micros) (source : Option VisitId)
    → find_page url store.pages ≡ None
    → live_slots (after_visit store url transition date source) ≡ live_slots store
    + (2 + chunks url + (if list_any (λ (p : Page). same_origin p.url url) store.pages then 0 else 1))
live_new store url transition date source none =
    let visited : live_slots (after_visit store url transition date source) ≡ live_slots (grown_store store url) + 1 =
    ap live_slots (ap (visited_at store url transition date source) none)
    ∙ live_visited (record { 0 = store.ids.page }) transition date source (grown_store store url) in
    omega (arith, visited, live_new_page store url)

pub live_page : (kept : Kept) (url : List ℕ)
    → live_with_page url kept ≡ live_slots (store_of kept)
    + (1 + chunks url + (if list_any (λ (p : KeptPage). same_origin p.page.url url) kept.pages then 0 else 1))
live_page kept url =
    ap live_slots (store-with_page kept url (record { 0 = 0 })) ∙ live_new_page (store_of kept) url
    ∙ ap (λ (b : Bool). live_slots (store_of kept) + (1 + chunks url + (if b then 0 else 1)))
    (list_any-map (λ (p : Page). same_origin p.url url) (λ (p : KeptPage). p.page) kept.pages)
