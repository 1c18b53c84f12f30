-- Pages among the rows: their ids, and what is told of the page with an id.
use Rattle.std.proofs.Common.{◌≡◌, ◌∙◌, ◌<◌, ◌==◌, ℕ, All, true, IsTrue, List, IfSome, Option, Some, None}
use Rattle.std.proofs.Common.{ap, sym}
use Rattle.std.specs.List.{AllByRecursion}
use Rattle.std.specs.Option.{option_map}
use Rattle.std.proofs.lemmas.Option.{same_Some}
use Rattle.pl_base.specs.declared.id.PageId.{PageId}
use Rattle.pl_base.specs.declared.row.Mark.{Mark}
use Rattle.pl_base.specs.Good.{has_page_at}
use Rattle.pl_base.specs.Rows.{has_page, IsWellKept, Kept, KeptPage, mark_of, page_at, title_of, url_of}
use Rattle.pl_base.specs.Store.{Store}
use Rattle.pl_base.specs.Tree.{is_page}
use Rattle.pl_base.proofs.IdsLaws.{same_page}
use Rattle.pl_base.proofs.ListLaws.{All-from_map}
use Rattle.pl_base.proofs.LookUps.{Apart, apart_increasing, found_passes, found_self, there_told}

-- ---- the ids of pages

pub ids_below : (kept : Kept) → IsWellKept kept → All (λ (p : KeptPage). p.page.id.0 < kept.ids.page) kept.pages
ids_below kept h k d within =
    (All-from_map (λ (n : ℕ). (0 < n) × (n < kept.ids.page)) (λ (p : KeptPage). p.page.id.0) kept.pages
    h.page_ids.given k d within).1

pub pages_apart : (kept : Kept) → IsWellKept kept → Apart (λ (p : KeptPage). p.page.id.0) kept.pages
pages_apart kept h =
    apart_increasing (λ (p : KeptPage). p.page.id.0) kept.pages h.page_ids.ascending

-- each page is found by its id
pub pages_found : (kept : Kept) → IsWellKept kept
    → AllByRecursion (λ (p : KeptPage). page_at kept p.page.id ≡ Some p) kept.pages
pages_found kept h = found_self (λ (p : KeptPage). p.page.id.0) kept.pages (pages_apart kept h)

-- a page that an item has is there
pub page_of_item : (store : Store) (page : PageId) (own : Option PageId) → is_page page own ≡ true
    → IfSome own (λ id. IsTrue (has_page_at store id)) → has_page_at store page ≡ true
page_of_item store page None is there = absurd (cc)
page_of_item store page (Some id) is there = ap (has_page_at store) (sym (same_page id page is)) ∙ there

-- ---- the page with an id

pub id_at : (kept : Kept) (page : PageId) (p : KeptPage) → page_at kept page ≡ Some p → p.page.id ≡ page
id_at kept page p at =
    same_page p.page.id page (found_passes (λ (q : KeptPage). q.page.id.0 == page.0) kept.pages p at)

-- a page of which its mark is told is there
pub page_there : (kept : Kept) (page : PageId) (mark : Mark) → Some mark ≡ option_map mark_of (page_at kept page)
    → has_page kept page ≡ true
page_there kept page mark told = there_told (λ (p : KeptPage). p.page.id.0 == page.0) mark_of kept.pages mark told

pub url_at : (kept : Kept) (page : PageId) (p : KeptPage) (url : List ℕ) → page_at kept page ≡ Some p
    → Some url ≡ url_of kept page → url ≡ p.page.url
url_at kept page p url at is =
    same_Some url p.page.url (is ∙ ap (option_map (λ (q : KeptPage). q.page.url)) at)

pub title_at : (kept : Kept) (page : PageId) (p : KeptPage) (title : List ℕ) → page_at kept page ≡ Some p
    → Some title ≡ title_of kept page → title ≡ p.page.title
title_at kept page p title at is =
    same_Some title p.page.title (is ∙ ap (option_map (λ (q : KeptPage). q.page.title)) at)

-- what is kept beside it
pub mark_is : (kept : Kept) (page : PageId) (p : KeptPage) (mark : Mark) → page_at kept page ≡ Some p
    → Some mark ≡ option_map mark_of (page_at kept page) → mark ≡ mark_of p
mark_is kept page p mark at is = same_Some mark (mark_of p) (is ∙ ap (option_map mark_of) at)
