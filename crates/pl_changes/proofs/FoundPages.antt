-- A page by its id: that it is there, and the view that follows from its texts and figures.
use Rattle.std.proofs.Common.{◌≡◌, ◌∙◌, ◌==◌, true, false, Option, Some, None, refl, subst, sym}
use Rattle.std.specs.List.{Contains}
use Rattle.std.specs.Option.{is_some, option_map}
use Rattle.std.proofs.lemmas.Bool.{false≢true}
use Rattle.std.proofs.lemmas.List.Elements.{All-contains}
use Rattle.std.proofs.lemmas.Option.{none-some}
use Rattle.pl_base.specs.declared.change.Change.{Change}
use Rattle.pl_base.specs.declared.id.PageId.{PageId}
use Rattle.pl_base.specs.declared.row.Mark.{Mark}
use Rattle.pl_base.specs.declared.view.View.{View}
use Rattle.pl_base.specs.Good.{has_page_at}
use Rattle.pl_base.specs.Rows.{Kept, KeptPage, has_page, mark_of, page_at, store_of}
use Rattle.pl_base.specs.Store.{Page, Store}
use Rattle.pl_base.specs.View.{IsViewOf}
use Rattle.pl_base.proofs.Among.{In, all_from_in, contains_from_in, in_map}
use Rattle.pl_base.proofs.ListLaws.{found_in, list_any-map}
use Rattle.pl_base.proofs.LookUps.{found_holds, found_where, there_told}
use Rattle.pl_base.proofs.PageLaws.{id_at}
use Rattle.pl_base.proofs.Truths.{no_test, some_there}
use Rattle.pl_marks.specs.declared.figures.Figures.{Figures}
use Rattle.pl_marks.specs.Figures.{AreFiguresOf}
use Rattle.pl_changes.specs.Brings.{HasTexts, HasView, IfStays, IsChangeTo}
use Rattle.pl_changes.proofs.SameFigures.{with_figures}

-- ---- whether it is there

pub not_there : (kept : Kept) (page : PageId) (mark : Option Mark) → mark ≡ option_map mark_of (page_at kept page)
    → is_some mark ≡ false → has_page_at (store_of kept) page ≡ false
not_there kept page mark is none =
    list_any-map (λ (p : Page). p.id.0 == page.0) (λ (p : KeptPage). p.page) kept.pages
    ∙ no_test (has_page kept page) (λ some. false≢true (sym none
    ∙ found_where (λ (p : KeptPage). p.page.id.0 == page.0) mark_of kept.pages mark some is))

pub there : (kept : Kept) (page : PageId) (mark : Option Mark) → mark ≡ option_map mark_of (page_at kept page)
    → is_some mark ≡ true → has_page kept page ≡ true
there kept page None is some = absurd (cc)
there kept page (Some mark) is some =
    there_told (λ (p : KeptPage). p.page.id.0 == page.0) mark_of kept.pages mark is

-- ---- the page that is found

pub found : (kept : Kept) (page : PageId) → has_page kept page ≡ true
    → (p : KeptPage) × (page_at kept page ≡ Some p)
found kept page some =
    some_there (page_at kept page) (found_in (λ (p : KeptPage). p.page.id.0 == page.0) kept.pages some)

pub found_there : (kept : Kept) (page : PageId) (p : KeptPage) → page_at kept page ≡ Some p
    → Contains (store_of kept).pages p.page
found_there kept page p at =
    contains_from_in (store_of kept).pages p.page (in_map (λ (q : KeptPage). q.page) kept.pages p
    (found_holds (λ (q : KeptPage). In q kept.pages) (λ (q : KeptPage). q.page.id.0 == page.0) kept.pages p
    (all_from_in (λ (q : KeptPage). In q kept.pages) kept.pages (λ q h. h)) at))

-- a view that is the found page's
pub has_view : (kept : Kept) (page : PageId) (view : View) → has_page kept page ≡ true
    → ((p : KeptPage) → page_at kept page ≡ Some p → IsViewOf (store_of kept) p.page view)
    → HasView (store_of kept) page view
has_view kept page view some is =
    let p = found kept page some in
    record {
      element = p.0.page;
      there = found_there kept page p.0 p.1;
      named = id_at kept page p.0 p.1;
      seen = is p.0 p.1;
    }

-- the change of a view whose page is gone
pub is_gone : (store : Store) (old : View) (change : Change) → change ≡ record { old = Some old; new = None }
    → has_page_at store old.id ≡ false → IsChangeTo store old.id (Some old) change
is_gone store old change is none =
    subst (IsChangeTo store old.id (Some old)) (sym is)
    (record { old = refl; new = none; differ = λ same. none-some old (sym same) })

-- ---- texts and figures

-- what is known of the view of a page that stays, of the found page
pub stays_at : (kept : Kept) (Such : Page → View → Type 0) (view : View) (p : KeptPage)
    → IfStays Such (store_of kept) view → page_at kept view.id ≡ Some p → Such p.page view
stays_at kept Such view p stays at =
    All-contains (λ (q : Page). q.id ≡ view.id → Such q view) (store_of kept).pages p.page stays
    (found_there kept view.id p at) (id_at kept view.id p at)

pub renewed_view : (store : Store) (p : Page) (view : View) (figures : Figures) → HasTexts store p view
    → AreFiguresOf store p figures → IsViewOf store p (with_figures view figures)
renewed_view store p view figures texts are =
    record {
      id = texts.address.id;
      url = texts.address.url;
      title = texts.address.title;
      mark_title = texts.mark_title;
      tags = texts.tags;
      origin = texts.address.origin;
      frecency = are.frecency;
      count = are.count;
      last = are.last;
      due = are.due;
      typed = are.typed;
      hidden = are.hidden;
      bookmarked = texts.bookmarked;
      referenced = texts.referenced;
    }
