-- What a row shows, by what it is of.
use Rattle.std.proofs.Common.{◌≡◌, ◌∙◌, ◌==◌, ◌||◌, Bool, true, false, List, [], ◌∷◌, Option, Some, None, ap}
use Rattle.std.proofs.Common.{find, if◌then◌else◌, is_some, refl, sym}
use Rattle.std.specs.List.{list_any}
use Rattle.std.proofs.lemmas.Bool.{eqb-true}
use Rattle.std.specs.Option.{option_and_then, option_map}
use Rattle.pl_base.specs.declared.date.Micros.{Micros}
use Rattle.pl_base.specs.declared.id.ItemId.{ItemId}
use Rattle.pl_base.specs.declared.id.PageId.{PageId}
use Rattle.pl_base.specs.declared.id.VisitId.{VisitId}
use Rattle.pl_base.specs.declared.item.ItemRow.{ItemRow}
use Rattle.pl_base.specs.Marks.{last_date_of}
use Rattle.pl_base.specs.Rows.{Kept, KeptPage, has_page, has_visit, page_at, store_of}
use Rattle.pl_base.specs.Rows.{visit_at}
use Rattle.pl_base.specs.Store.{Item, Page, Visit}
use Rattle.pl_base.specs.Tree.{has_item, item_at, item_row}
use Rattle.pl_base.proofs.LookUps.{found_passes, found_some}
use Rattle.pl_base.proofs.PageLaws.{id_at}
use Rattle.pl_base.proofs.VisitsRun.{visit_is}
use Rattle.pl_query.specs.declared.shown.Subject.{Subject}
use Rattle.pl_query.specs.declared.shown.Subject.TheVariants.{Page as OfPage, Visit as OfVisit, Bookmark}
use Rattle.pl_query.specs.Order.{Row}
use Rattle.pl_query.specs.Subjects.{row_at, row_of_mark, row_of_page, row_of_visit, subject_id, subject_page}

-- ---- what the rows are

pub record IsPageRow (kept : Kept) (page : PageId) (row : Row) : Type 0 where
  pub p : KeptPage
  pub page_is : page_at kept page ≡ Some p
  pub is : row ≡ row_of_page kept p

pub record IsVisitRow (kept : Kept) (visit : VisitId) (page : PageId) (row : Row) : Type 0 where
  pub v : Visit
  pub p : KeptPage
  pub visit_is : visit_at kept visit ≡ Some v
  pub page_is : page_at kept page ≡ Some p
  pub is : row ≡ row_of_visit kept v p

pub record IsMarkRow (kept : Kept) (item : ItemId) (page : PageId) (row : Row) : Type 0 where
  pub i : Item
  pub p : KeptPage
  pub item_is : item_at kept.items item ≡ Some i
  pub page_is : page_at kept page ≡ Some p
  pub is : row ≡ row_of_mark kept i p

pub page_row : (kept : Kept) (page : PageId) (row : Row) → row_at kept (OfPage page) ≡ Some row
    → IsPageRow kept page row
page_row kept page row at = choose (page_at kept page) refl at
  where
    choose : (o : Option KeptPage) → page_at kept page ≡ o → option_map (row_of_page kept) o ≡ Some row
        → IsPageRow kept page row
    choose None page_is at = absurd (cc)
    choose (Some p) page_is at = record { p = p; page_is = page_is; is = cc }

pub visit_row : (kept : Kept) (visit : VisitId) (page : PageId) (row : Row)
    → row_at kept (OfVisit visit page) ≡ Some row → IsVisitRow kept visit page row
visit_row kept visit page row at = choose (visit_at kept visit) (page_at kept page) refl refl at
  where
    choose : (u : Option Visit) (o : Option KeptPage) → visit_at kept visit ≡ u → page_at kept page ≡ o
        → option_and_then (λ (v : Visit). option_map (row_of_visit kept v) o) u ≡ Some row
        → IsVisitRow kept visit page row
    choose None o visit_is page_is at = absurd (cc)
    choose (Some v) None visit_is page_is at = absurd (cc)
    choose (Some v) (Some p) visit_is page_is at =
        record { v = v; p = p; visit_is = visit_is; page_is = page_is; is = cc }

pub mark_row : (kept : Kept) (item : ItemId) (page : PageId) (row : Row)
    → row_at kept (Bookmark item page) ≡ Some row → IsMarkRow kept item page row
mark_row kept item page row at = choose (item_at kept.items item) (page_at kept page) refl refl at
  where
    choose : (u : Option Item) (o : Option KeptPage) → item_at kept.items item ≡ u → page_at kept page ≡ o
        → option_and_then (λ (i : Item). option_map (row_of_mark kept i) o) u ≡ Some row
        → IsMarkRow kept item page row
    choose None o item_is page_is at = absurd (cc)
    choose (Some i) None item_is page_is at = absurd (cc)
    choose (Some i) (Some p) item_is page_is at =
        record { i = i; p = p; item_is = item_is; page_is = page_is; is = cc }

-- the page that it shows
pub record ShowsPage (kept : Kept) (subject : Subject) (row : Row) : Type 0 where
  pub p : KeptPage
  pub page_is : page_at kept (subject_page subject) ≡ Some p
  pub is : row.page ≡ p.page

pub shows_page : (kept : Kept) (subject : Subject) (row : Row) → row_at kept subject ≡ Some row
    → ShowsPage kept subject row
shows_page kept (OfPage page) row at =
    let r : IsPageRow kept page row = page_row kept page row at in
    record { p = r.p; page_is = r.page_is; is = ap (λ (w : Row). w.page) r.is }
shows_page kept (OfVisit visit page) row at =
    let r : IsVisitRow kept visit page row = visit_row kept visit page row at in
    record { p = r.p; page_is = r.page_is; is = ap (λ (w : Row). w.page) r.is }
shows_page kept (Bookmark item page) row at =
    let r : IsMarkRow kept item page row = mark_row kept item page row at in
    record { p = r.p; page_is = r.page_is; is = ap (λ (w : Row). w.page) r.is }

-- ---- what is there

pub row_there : (kept : Kept) (subject : Subject) → is_some (row_at kept subject) ≡ true
    → (row : Row) × (row_at kept subject ≡ Some row)
row_there kept subject there = choose (row_at kept subject) refl there
  where
    choose : (o : Option Row) → row_at kept subject ≡ o → is_some o ≡ true
        → (row : Row) × (row_at kept subject ≡ Some row)
    choose None is there = absurd (cc)
    choose (Some row) is there = (row, is)

pub page_there : (kept : Kept) (subject : Subject) → is_some (row_at kept subject) ≡ true
    → has_page kept (subject_page subject) ≡ true
page_there kept subject there =
    let row = row_there kept subject there in
    let s : ShowsPage kept subject row.0 = shows_page kept subject row.0 row.1 in
    found_some (λ (p : KeptPage). p.page.id.0 == (subject_page subject).0) kept.pages s.p s.page_is

pub visit_there : (kept : Kept) (visit : VisitId) (page : PageId)
    → is_some (row_at kept (OfVisit visit page)) ≡ true → has_visit kept visit ≡ true
visit_there kept visit page there =
    let row = row_there kept (OfVisit visit page) there in
    let r : IsVisitRow kept visit page row.0 = visit_row kept visit page row.0 row.1 in
    found_some (λ (v : Visit). v.id.0 == visit.0) kept.visits r.v r.visit_is

pub item_there : (kept : Kept) (item : ItemId) (page : PageId)
    → is_some (row_at kept (Bookmark item page)) ≡ true → has_item kept.items item ≡ true
item_there kept item page there =
    let row = row_there kept (Bookmark item page) there in
    let r : IsMarkRow kept item page row.0 = mark_row kept item page row.0 row.1 in
    found_some (λ (i : Item). i.id.0 == item.0) kept.items r.i r.item_is

-- ---- dates

pub page_date : (kept : Kept) (page : PageId) (p : KeptPage) (date : Option Micros) → page_at kept page ≡ Some p
    → date ≡ last_date_of (store_of kept) page → date ≡ last_date_of (store_of kept) p.page.id
page_date kept page p date at is = is ∙ ap (last_date_of (store_of kept)) (sym (id_at kept page p at))

-- the row of an item
pub item_is : (items : List Item) (item : ItemId) (i : Item) (row : ItemRow) → item_at items item ≡ Some i
    → Some row ≡ option_map (item_row items) (item_at items item) → row ≡ item_row items i
item_is items item i row at is =
    let same : Some row ≡ Some (item_row items i) = is ∙ ap (option_map (item_row items)) at in
    cc

-- the id of the page that the row shows
pub shown_id : (kept : Kept) (subject : Subject) (row : Row) → row_at kept subject ≡ Some row
    → subject_page subject ≡ row.page.id
shown_id kept subject row at =
    let s : ShowsPage kept subject row = shows_page kept subject row at in
    sym (ap (λ (p : Page). p.id) s.is ∙ id_at kept (subject_page subject) s.p s.page_is)

-- a page that is there has a row
pub page_subject_there : (kept : Kept) (page : PageId) → has_page kept page ≡ true
    → is_some (row_at kept (OfPage page)) ≡ true
page_subject_there kept page there = choose kept.pages there
  where
    choose : (ps : List KeptPage) → list_any (λ (p : KeptPage). p.page.id.0 == page.0) ps ≡ true
        → is_some (option_map (row_of_page kept) (find (λ (p : KeptPage). p.page.id.0 == page.0) ps)) ≡ true
    choose [] there = absurd (cc)
    choose (p ∷ ps) there = pick (p.page.id.0 == page.0) there (choose ps)
      where
        pick : (b : Bool) → (b || list_any (λ (q : KeptPage). q.page.id.0 == page.0) ps) ≡ true
            → (list_any (λ (q : KeptPage). q.page.id.0 == page.0) ps ≡ true
            → is_some (option_map (row_of_page kept) (find (λ (q : KeptPage). q.page.id.0 == page.0) ps)) ≡ true)
            → is_some (option_map (row_of_page kept)
            (if b then Some p else find (λ (q : KeptPage). q.page.id.0 == page.0) ps)) ≡ true
        pick true there rest = refl
        pick false there rest = rest there

-- the id of the row
pub shown_row_id : (kept : Kept) (subject : Subject) (row : Row) → row_at kept subject ≡ Some row
    → subject_id subject ≡ row.id
shown_row_id kept (OfPage page) row at =
    let r : IsPageRow kept page row = page_row kept page row at in
    sym (ap (λ (w : Row). w.id) r.is ∙ ap (λ (id : PageId). id.0) (id_at kept page r.p r.page_is))
shown_row_id kept (OfVisit visit page) row at =
    let r : IsVisitRow kept visit page row = visit_row kept visit page row at in
    sym (ap (λ (w : Row). w.id) r.is ∙ ap (λ (id : VisitId). id.0) (visit_is kept visit r.v r.visit_is))
shown_row_id kept (Bookmark item page) row at =
    let r : IsMarkRow kept item page row = mark_row kept item page row at in
    sym (ap (λ (w : Row). w.id) r.is
    ∙ eqb-true r.i.id.0 item.0 (found_passes (λ (j : Item). j.id.0 == item.0) kept.items r.i r.item_is))
