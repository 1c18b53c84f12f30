-- When the rows of a file are those of a good store, as tests.
use Rattle.std.specs.Prelude.{◌&&◌, ◌||◌, ◌==◌, not, ℕ, Bool, true, List}
use Rattle.std.specs.Prelude.{[], ◌∷◌, bytes_eq, map, nat_le, nat_lt, Option, Some, None}
use Rattle.std.specs.List.{list_all, list_any}
use Rattle.pl_base.specs.declared.id.PageId.{PageId}
use Rattle.pl_base.specs.declared.id.VisitId.{VisitId}
use Rattle.pl_base.specs.Date.{last_date, last_day}
use Rattle.pl_base.specs.Marks.{is_typed}
use Rattle.pl_base.specs.Touched.{ascends_above}
use Rattle.pl_stored.specs.declared.stored.StoredVisit.{StoredVisit}
use Rattle.pl_stored.specs.declared.stored.StoredPage.{StoredPage}
use Rattle.pl_stored.specs.Stored.{Stored}
use Rattle.pl_check.specs.Items.{has_reference, have_roots, is_good_item, item_ids}

-- the ids ascend from above 0, and lie below the next one
abbrev pub are_ids : ℕ → List ℕ → Bool
are_ids next ids = ascends_above 0 ids && list_all (λ id. nat_lt id next) ids

-- the ids of the pages
abbrev pub stored_page_ids : List StoredPage → List ℕ
stored_page_ids pages = map (λ (p : StoredPage). p.id.0) pages

-- the ids of the visits
abbrev pub stored_visit_ids : List StoredVisit → List ℕ
stored_visit_ids visits = map (λ (v : StoredVisit). v.id.0) visits

-- no URL stands twice
abbrev pub have_own_urls : List StoredPage → Bool
have_own_urls [] = true
have_own_urls (p ∷ pages) =
    not (list_any (λ (q : StoredPage). bytes_eq q.url p.url) pages) && have_own_urls pages

-- a visit to the page whose address was typed
abbrev pub is_typed_visit : PageId → StoredVisit → Bool
is_typed_visit id v = (v.page.0 == id.0) && is_typed v.transition

-- a page has a visit or an item
abbrev pub is_kept : Stored → StoredPage → Bool
is_kept rows p =
    list_any (λ (v : StoredVisit). v.page.0 == p.id.0) rows.visits
    || has_reference rows.items p.id

-- a page has a visit or an item, and is typed where a visit to it was
abbrev pub is_good_page : Stored → StoredPage → Bool
is_good_page rows p =
    is_kept rows p && (p.typed || not (list_any (is_typed_visit p.id) rows.visits))

-- the source of the visit with this id, if there is one, is a visit with a smaller id
abbrev pub is_good_source : List StoredVisit → VisitId → Option VisitId → Bool
is_good_source visits id None = true
is_good_source visits id (Some source) =
    nat_lt source.0 id.0 && list_any (λ (v : StoredVisit). v.id.0 == source.0) visits

-- a visit has a date, a page, and as its source, if any, an earlier visit
abbrev pub is_good_visit : Stored → StoredVisit → Bool
is_good_visit rows v =
    nat_le v.date.0 last_date && list_any (λ (p : StoredPage). p.id.0 == v.page.0) rows.pages
    && is_good_source rows.visits v.id v.source

-- the day is in range, and each next id may be one
abbrev pub are_good_numbers : Stored → Bool
are_good_numbers rows =
    nat_le rows.day.0 last_day && nat_le 1 rows.ids.page && nat_le 1 rows.ids.visit
    && nat_le 7 rows.ids.item

-- the ids of each kind ascend, and lie below the next one
abbrev pub have_good_ids : Stored → Bool
have_good_ids rows =
    are_good_numbers rows
    && are_ids rows.ids.page (stored_page_ids rows.pages)
    && are_ids rows.ids.visit (stored_visit_ids rows.visits)
    && are_ids rows.ids.item (item_ids rows.items)

-- each row is good by itself, URLs stand once, and the roots are there
abbrev pub have_good_rows : Stored → Bool
have_good_rows rows =
    have_own_urls rows.pages
    && list_all (is_good_page rows) rows.pages
    && list_all (is_good_visit rows) rows.visits
    && list_all (is_good_item rows.pages) rows.items
    && have_roots rows.items

-- the rows are those of a good store, if their items are a tree with good tags
abbrev pub are_good : Stored → Bool
are_good rows = have_good_ids rows && have_good_rows rows
