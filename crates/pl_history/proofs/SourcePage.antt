-- The page of the visit that a redirect came from, once it is refreshed.
use Rattle.std.proofs.Common.{◌≡◌, ◌∙◌, ◌==◌, All, Bool, true, IsTrue, List, [], Option, Some, None, ℤ}
use Rattle.std.proofs.Common.{ap, if◌then◌else◌, option_to_list, refl, subst, sym}
use Rattle.std.specs.Option.{option_and_then, option_map}
use Rattle.std.proofs.lemmas.List.Elements.{All-map, All-weaker, recursion_from_All}
use Rattle.pl_base.specs.declared.id.PageId.{PageId}
use Rattle.pl_base.specs.declared.id.VisitId.{VisitId}
use Rattle.pl_base.specs.declared.row.Mark.{Mark}
use Rattle.pl_base.specs.declared.row.VisitRow.{VisitRow}
use Rattle.pl_base.specs.Address.{is_place_url}
use Rattle.pl_base.specs.Date.{IsDate}
use Rattle.pl_base.specs.Redirects.{is_redirect}
use Rattle.pl_base.specs.Rows.{IsWellKept, Kept, KeptPage, has_page, mark_of, page_at, row_of, store_of, url_of}
use Rattle.pl_base.specs.Rows.{visit_at}
use Rattle.pl_base.specs.Store.{Page, Visit}
use Rattle.pl_base.proofs.LookUps.{found_holds}
use Rattle.pl_marks.specs.Refreshed.{AreRightBut, HaveCounts, Refreshes, source_page}
use Rattle.pl_history.proofs.RightAfter.{right_refreshed}
use Rattle.pl_history.proofs.KeptMark.{IsMarkAt, count_at, mark_at, one_at, typed_at}
use Rattle.pl_history.proofs.VisitRows.{store_same}

-- ---- the page

page_of_row : (o : Option Visit) (row : VisitRow) → Some row ≡ option_map row_of o
    → option_map (λ (v : Visit). v.page) o ≡ Some row.page
page_of_row None row is = absurd (cc)
page_of_row (Some v) row is =
    let same : row ≡ row_of v = cc in
    ap (λ (r : VisitRow). Some r.page) (sym same)

pub source_is : (now : Kept) (row from : VisitRow) (id : VisitId) → is_redirect row.transition ≡ true
    → row.source ≡ Some id → Some from ≡ option_map row_of (visit_at now id) → source_page now row ≡ Some from.page
source_is now row from id redirect is some =
    ap (λ (b : Bool).
    if b then option_map (λ (v : Visit). v.page) (option_and_then (visit_at now) row.source) else None) redirect
    ∙ ap (λ (o : Option VisitId). option_map (λ (v : Visit). v.page) (option_and_then (visit_at now) o)) is
    ∙ page_of_row (visit_at now id) from some

pub page_there : (now : Kept) (id : VisitId) (from : VisitRow) → IsWellKept now
    → Some from ≡ option_map row_of (visit_at now id) → has_page now from.page ≡ true
page_there now id from h some = choose (visit_at now id) refl some
  where
    choose : (o : Option Visit) → visit_at now id ≡ o → Some from ≡ option_map row_of o
        → has_page now from.page ≡ true
    choose None at is = absurd (cc)
    choose (Some v) at is =
        let same : from ≡ row_of v = cc in
        ap (λ (r : VisitRow). has_page now r.page) same
        ∙ (found_holds (λ (w : Visit). IsDate w.date × IsTrue (has_page now w.page)) (λ (w : Visit). w.id.0 == id.0)
        now.visits v
        (recursion_from_All (λ (w : Visit). IsDate w.date × IsTrue (has_page now w.page)) now.visits h.visits) at).1

-- ---- its mark

pub place_at : (now : Kept) (page : PageId) (mark : Mark) (is_place : Bool) → IsWellKept now → IsMarkAt now page mark
    → Some is_place ≡ option_map is_place_url (url_of now page)
    → All (λ (p : KeptPage). (p.page.id.0 == page.0) ≡ true → is_place ≡ is_place_url p.page.url) now.pages
place_at now page mark is_place h m told =
    let same : Some is_place ≡ Some (is_place_url m.page.page.url) =
    told ∙ ap (λ (o : Option KeptPage). option_map is_place_url (option_map (λ (p : KeptPage). p.page.url) o)) m.at in
    let place : is_place ≡ is_place_url m.page.page.url = cc in
    All-weaker (λ (p : KeptPage). (p.page.id.0 == page.0) ≡ true → p ≡ m.page)
    (λ (p : KeptPage). (p.page.id.0 == page.0) ≡ true → is_place ≡ is_place_url p.page.url)
    (λ p one at. place ∙ ap (λ (q : KeptPage). is_place_url q.page.url) (sym (one at))) now.pages
    (one_at now page mark h m)

pub source_right : (now new : Kept) (row from : VisitRow) (id : VisitId) (mark : Mark) (is_place : Bool) (frecency : ℤ)
    → IsWellKept now → HaveCounts now → AreRightBut (option_to_list (source_page now row)) now
    → is_redirect row.transition ≡ true → row.source ≡ Some id → Some from ≡ option_map row_of (visit_at now id)
    → Some mark ≡ option_map mark_of (page_at now from.page)
    → Some is_place ≡ option_map is_place_url (url_of now from.page)
    → Refreshes from.page mark is_place now new frecency → AreRightBut [] new
source_right now new row from id mark is_place frecency h counts right redirect is some marks place r =
    let m : IsMarkAt now from.page mark = mark_at now from.page mark marks in
    right_refreshed [] from.page mark is_place now new frecency
    (subst (λ (ids : List PageId). AreRightBut ids now) (ap option_to_list (source_is now row from id redirect is some))
    right)
    r (count_at now from.page mark counts m) (place_at now from.page mark is_place h m place)

pub source_store : (now new : Kept) (page : PageId) (mark : Mark) (is_place : Bool) (frecency : ℤ) → IsWellKept now
    → Some mark ≡ option_map mark_of (page_at now page) → Refreshes page mark is_place now new frecency
    → store_of new ≡ store_of now
source_store now new page mark is_place frecency h marks r =
    ap store_of r.rows
    ∙ store_same now page (record mark { frecency = frecency; hidden = r.hidden })
    (All-map (λ (p : Page). (p.id.0 == page.0) ≡ true → mark.typed ≡ p.typed) (λ (p : KeptPage). p.page) now.pages
    (typed_at now page mark h (mark_at now page mark marks)))
