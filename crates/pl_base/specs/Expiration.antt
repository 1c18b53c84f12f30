-- History that is old: which visits an expiration and a trim take.
use Rattle.std.specs.Prelude.{ℕ, ◌-◌, ◌==◌, ◌&&◌, ◌||◌, not, Bool, true, false, List}
use Rattle.std.specs.Prelude.{length, map, nat_lt, take, Option, Some, None}
use Rattle.std.specs.List.{filter, list_any}
use Rattle.pl_base.specs.declared.date.Day.{Day}
use Rattle.pl_base.specs.declared.date.Micros.{Micros}
use Rattle.pl_base.specs.declared.id.VisitId.{VisitId}
use Rattle.pl_base.specs.Date.{day_number}
use Rattle.pl_base.specs.Marks.{is_referenced, last_date_of}
use Rattle.pl_base.specs.Removal.{without_visits}
use Rattle.pl_base.specs.Sorting.{sorted_by}
use Rattle.pl_base.specs.Store.{Store, Page, Visit}

-- the visits of the days before this one
abbrev pub visits_before : Day → Store → List VisitId
visits_before day store =
    map (λ (v : Visit). v.id)
    (filter (λ (v : Visit). nat_lt (day_number v.date) day.0) store.visits)

-- the store without the visits of the days before this one
abbrev pub expired : Day → Store → Store
expired day store = without_visits (visits_before day store) store

-- a date is earlier than another, and none is earlier than any
abbrev pub is_earlier : Option Micros → Option Micros → Bool
is_earlier None None = false
is_earlier None (Some date) = true
is_earlier (Some date) None = false
is_earlier (Some date) (Some other) = nat_lt date.0 other.0

-- a page was last visited before the other, or at the same date and has the smaller id
abbrev pub is_staler : Store → Page → Page → Bool
is_staler store p q =
    is_earlier (last_date_of store p.id) (last_date_of store q.id)
    || (not (is_earlier (last_date_of store q.id) (last_date_of store p.id))
    && nat_lt p.id.0 q.id.0)

-- the pages sorted, the stalest first
abbrev pub stalest_first : Store → List Page → List Page
stalest_first store pages = sorted_by (is_staler store) pages

-- the pages that no item has, the stalest first
abbrev pub stale_pages : Store → List Page
stale_pages store =
    stalest_first store (filter (λ (p : Page). not (is_referenced store p.id)) store.pages)

-- the visits to these pages
abbrev pub visits_to : List Page → Store → List VisitId
visits_to pages store =
    map (λ (v : Visit). v.id)
    (filter (λ (v : Visit). list_any (λ (p : Page). p.id.0 == v.page.0) pages) store.visits)

-- the stalest of the pages that no item has, as many as there are pages beyond the first n
abbrev pub trimmed_pages : ℕ → Store → List Page
trimmed_pages n store = take (length store.pages - n) (stale_pages store)

-- the store without these pages and their visits
abbrev pub trimmed : ℕ → Store → Store
trimmed n store = without_visits (visits_to (trimmed_pages n store) store) store
