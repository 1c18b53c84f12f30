-- What is computed of pages, and which pages a visit bears on.
use Rattle.std.specs.Prelude.{◌≡◌, ◌+◌, ◌-◌, ◌||◌, ◌==◌, ℕ, ℤ, Bool, false, List, Option, None}
use Rattle.std.specs.Prelude.{if◌then◌else◌}
use Rattle.std.specs.List.{All, list_any}
use Rattle.std.specs.Option.{option_and_then, option_map}
use Rattle.pl_base.specs.declared.id.PageId.{PageId}
use Rattle.pl_base.specs.declared.row.Mark.{Mark}
use Rattle.pl_base.specs.declared.row.VisitRow.{VisitRow}
use Rattle.pl_base.specs.declared.transition.Transition.{Transition}
use Rattle.pl_base.specs.Address.{is_place_url}
use Rattle.pl_base.specs.Frecency.{frecency_of}
use Rattle.pl_base.specs.Marks.{is_counted, is_framed, is_hidden, is_typed, visit_count}
use Rattle.pl_base.specs.Redirects.{is_redirect, is_redirect_source}
use Rattle.pl_base.specs.Rows.{Kept, KeptPage, store_of, visit_at, with_mark, with_origins}
use Rattle.pl_base.specs.Store.{Page, Store, Visit}

-- a mark with one visit more, but for what is computed afresh
abbrev pub visited_mark : Transition → Mark → Mark
visited_mark transition mark =
    record mark {
      count = mark.count + (if is_counted transition then 1 else 0);
      typed = mark.typed || is_typed transition;
    }

-- a mark with one visit fewer, but for what is computed afresh
abbrev pub unvisited_mark : Transition → Mark → Mark
unvisited_mark transition mark =
    record mark { count = mark.count - (if is_counted transition then 1 else 0) }

-- a visit that does not show its page: it is within a frame or led to a redirect
abbrev pub is_passing : Store → Visit → Bool
is_passing store v = is_framed v.transition || is_redirect_source store v

-- the most pages that a mark and the total of its page's origin touch
abbrev pub mark_pages : ℕ
mark_pages = 2

-- the page with the count and typed mark that are told, and its frecency and hidden mark afresh
pub record Refreshes (page : PageId) (told : Mark) (is_place : Bool) (old new : Kept) (frecency : ℤ)
    : Type 0 where
  pub hidden : Bool
  pub rows :
      new
      ≡ with_origins new.origins
      (with_mark page (record told { frecency = frecency; hidden = hidden }) old)
  pub scored : (p : Page) → p.id ≡ page → told.typed ≡ p.typed → is_place ≡ is_place_url p.url
      → frecency ≡ frecency_of (store_of old) p
  pub shown : (p : Page) → p.id ≡ page → is_place ≡ is_place_url p.url
      → hidden ≡ is_hidden (store_of old) p

-- what was computed of the page last is what the definitions give
abbrev pub IsRightPage : Store → KeptPage → Type 0
IsRightPage store p =
    (p.frecency ≡ frecency_of store p.page) × (p.count ≡ visit_count store p.page.id)
    × (p.hidden ≡ is_hidden store p.page)

-- what was computed of each page is right but of those with these ids
abbrev pub AreRightBut : List PageId → Kept → Type 0
AreRightBut ids kept =
    All (λ (p : KeptPage). list_any (λ (id : PageId). p.page.id.0 == id.0) ids ≡ false
    → IsRightPage (store_of kept) p) kept.pages

-- the count of each page is right
abbrev pub HaveCounts : Kept → Type 0
HaveCounts kept =
    All (λ (p : KeptPage). p.count ≡ visit_count (store_of kept) p.page.id) kept.pages

-- the page of the visit that a redirect came from
abbrev pub source_page : Kept → VisitRow → Option PageId
source_page kept row =
    if is_redirect row.transition
    then option_map (λ (v : Visit). v.page) (option_and_then (visit_at kept) row.source)
    else None
