-- What the rows make of a store when a page is visited.
use Rattle.std.proofs.Common.{◌≡◌, ◌+◌, ◌==◌, ◌||◌, ◌++◌, ◌∙◌, if◌then◌else◌, ℕ, All, Bool, true}
use Rattle.std.proofs.Common.{false, List, [], ◌∷◌, Option, Some, None, ap, map, pos, refl, unwrap_or}
use Rattle.std.specs.Option.{is_none}
use Rattle.std.proofs.lemmas.List.{map_push}
use Rattle.std.proofs.lemmas.List.Elements.{All-head, All-tail, All-weaker}
use Rattle.std.proofs.lemmas.List.Folds.{map_fixed}
use Rattle.pl_base.specs.declared.date.Micros.{Micros}
use Rattle.pl_base.specs.declared.id.PageId.{PageId}
use Rattle.pl_base.specs.declared.id.Slot.{Slot}
use Rattle.pl_base.specs.declared.row.Mark.{Mark}
use Rattle.pl_base.specs.declared.row.VisitRow.{VisitRow}
use Rattle.pl_base.specs.declared.id.VisitId.{VisitId}
use Rattle.pl_base.specs.declared.transition.Transition.{Transition}
use Rattle.pl_base.specs.Rows.{Kept, KeptPage, WithPageIn, marked}
use Rattle.pl_base.specs.Rows.{store_of, with_mark, with_new_page, with_visit}
use Rattle.pl_base.specs.Store.{Page, Store}
use Rattle.pl_base.specs.Marks.{is_typed}
use Rattle.pl_base.specs.Visiting.{new_page, visit_page, visited_page, visited_store}

-- ---- the store of marked rows

abbrev marked_page : PageId → Mark → Page → Page
marked_page id mark p = if p.id.0 == id.0 then record p { typed = mark.typed } else p

-- the store with a visit more and these pages
abbrev with_visit_and : VisitRow → Store → List Page → Store
with_visit_and row store pages =
    record store {
      ids = record store.ids { visit = store.ids.visit + 1 };
      pages = pages;
      visits = store.visits ++ record {
        id = record { 0 = store.ids.visit };
        page = row.page;
        date = row.date;
        transition = row.transition;
        source = row.source;
      } ∷ [];
    }

page_of-marked : (b : Bool) (mark : Mark) (p : KeptPage)
    → (if b then marked mark p else p).page ≡ (if b then record p.page { typed = mark.typed } else p.page)
page_of-marked true mark p = refl
page_of-marked false mark p = refl

pages-marked : (id : PageId) (mark : Mark) (pages : List KeptPage)
    → map (λ (p : KeptPage). p.page) (map (λ (p : KeptPage). if p.page.id.0 == id.0 then marked mark p else p) pages)
    ≡ map (marked_page id mark) (map (λ (p : KeptPage). p.page) pages)
pages-marked id mark [] = refl
pages-marked id mark (p ∷ pages) = rw (page_of-marked (p.page.id.0 == id.0) mark p, pages-marked id mark pages)

-- the mark is what a visit to the page with this id makes of it
abbrev IsMarkOf : PageId → Mark → Transition → Page → Type 0
IsMarkOf id mark transition p = (p.id.0 == id.0) ≡ true → mark.typed ≡ (p.typed || is_typed transition)

marked_at : (b : Bool) (mark : Mark) (transition : Transition) (p : Page)
    → (b ≡ true → mark.typed ≡ (p.typed || is_typed transition))
    → (if b then record p { typed = mark.typed } else p) ≡ (if b then visited_page transition p else p)
marked_at true mark transition p is = ap (λ (t : Bool). record p { typed = t }) (is refl)
marked_at false mark transition p is = refl

pages-visited : (id : PageId) (mark : Mark) (transition : Transition) (pages : List Page)
    → All (IsMarkOf id mark transition) pages → map (marked_page id mark) pages ≡ map (visit_page id transition) pages
pages-visited id mark transition [] all = refl
pages-visited id mark transition (p ∷ pages) all =
    let here : marked_page id mark p ≡ visit_page id transition p =
    marked_at (p.id.0 == id.0) mark transition p (All-head (IsMarkOf id mark transition) p pages all) in
    let rest : map (marked_page id mark) pages ≡ map (visit_page id transition) pages =
    pages-visited id mark transition pages (All-tail (IsMarkOf id mark transition) p pages all) in
    ap (λ (q : Page). q ∷ map (marked_page id mark) pages) here
    ∙ ap (λ (qs : List Page). visit_page id transition p ∷ qs) rest

pub store_visited : (kept : Kept) (row : VisitRow) (mark : Mark)
    → All (IsMarkOf row.page mark row.transition) (store_of kept).pages
    → store_of (with_mark row.page mark (with_visit row kept))
    ≡ visited_store row.page row.transition row.date row.source (store_of kept)
store_visited kept row mark all =
    ap (with_visit_and row (store_of kept))
    (pages-marked row.page mark kept.pages ∙ pages-visited row.page mark row.transition (store_of kept).pages all)

-- a mark that types the page as it was leaves the store as it was
pub store_same : (kept : Kept) (id : PageId) (mark : Mark)
    → All (λ (p : Page). (p.id.0 == id.0) ≡ true → mark.typed ≡ p.typed) (store_of kept).pages
    → store_of (with_mark id mark kept) ≡ store_of kept
store_same kept id mark all =
    ap (λ (pages : List Page). record (store_of kept) { pages = pages })
    (pages-marked id mark kept.pages
    ∙ map_fixed (marked_page id mark) (store_of kept).pages
    (All-weaker (λ (p : Page). (p.id.0 == id.0) ≡ true → mark.typed ≡ p.typed) (λ (p : Page). marked_page id mark p ≡ p)
    (λ p is. typed_at (p.id.0 == id.0) mark p is) (store_of kept).pages all))
  where
    typed_at : (b : Bool) (mark : Mark) (p : Page) → (b ≡ true → mark.typed ≡ p.typed)
        → (if b then record p { typed = mark.typed } else p) ≡ p
    typed_at true mark p is = ap (λ (t : Bool). record p { typed = t }) (is refl)
    typed_at false mark p is = refl

-- ---- the page of a visit

abbrev pub grown_store : Store → List ℕ → Store
grown_store store url =
    record store {
      pages = store.pages ++ new_page store url ∷ [];
      ids = record store.ids { page = store.ids.page + 1 };
    }

-- the store after a visit, by whether the page was found
abbrev pub visited_at : Store → List ℕ → Transition → Micros → Option VisitId → Option Page → Store
visited_at store url transition date source found =
    visited_store (unwrap_or found (new_page store url)).id transition date source
    (if is_none found then grown_store store url else store)

-- the store does not hold the name of the origin
pub store-with_page : (kept : Kept) (url : List ℕ) (origin : Slot)
    → store_of (with_new_page url origin kept) ≡ grown_store (store_of kept) url
store-with_page kept url origin =
    ap (λ (pages : List Page).
    record (store_of kept) { pages = pages; ids = record kept.ids { page = kept.ids.page + 1 } })
    (map_push (λ (p : KeptPage). p.page) kept.pages
    (record { page = new_page (store_of kept) url; origin = origin; frecency = pos 0; count = 0; hidden = false }))

pub store_with_page : (kept mid : Kept) (url : List ℕ) (origin : Option Slot) → WithPageIn url origin kept mid
    → store_of mid ≡ grown_store (store_of kept) url
store_with_page kept mid url (Some slot) is = ap store_of is ∙ store-with_page kept url slot
store_with_page kept mid url None is = ap store_of is.1 ∙ store-with_page kept url is.0
