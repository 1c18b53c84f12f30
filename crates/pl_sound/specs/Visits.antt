-- The visits of a file by their pages.
use Rattle.std.specs.Prelude.{◌≡◌, ◌==◌, Bool, List, map}
use Rattle.std.specs.List.{filter}
use Rattle.pl_base.specs.declared.id.PageId.{PageId}
use Rattle.pl_base.specs.Store.{Visit}
use Rattle.pl_base.specs.Visits.{latest_first}
use Rattle.pl_stored.specs.declared.stored.StoredVisit.{StoredVisit}
use Rattle.pl_stored.specs.Stored.{visit_of}

-- a visit of the page
abbrev pub of_page : PageId → StoredVisit → Bool
of_page page v = v.page.0 == page.0

-- of each page these are its visits, the latest first
abbrev pub AreByPage : List StoredVisit → List StoredVisit → Type 0
AreByPage visits sorted =
    (page : PageId) → map visit_of (filter (of_page page) sorted)
    ≡ latest_first (filter (λ (v : Visit). v.page.0 == page.0) (map visit_of visits))
