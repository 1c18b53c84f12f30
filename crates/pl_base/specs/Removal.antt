-- Visits that go, and with them the pages that nothing keeps any longer.
use Rattle.std.specs.Prelude.{◌==◌, ◌||◌, not, Bool, List, map, Option, Some, None}
use Rattle.std.specs.Prelude.{if◌then◌else◌}
use Rattle.std.specs.List.{filter, list_any}
use Rattle.pl_base.specs.declared.id.PageId.{PageId}
use Rattle.pl_base.specs.declared.id.VisitId.{VisitId}
use Rattle.pl_base.specs.Good.{is_visited}
use Rattle.pl_base.specs.Marks.{is_referenced}
use Rattle.pl_base.specs.Store.{Store, Page, Visit}
use Rattle.pl_base.specs.Visits.{visits_of}

-- a page stands there by a visit or an item
abbrev pub is_standing : Store → PageId → Bool
is_standing store id = is_visited store id || is_referenced store id

-- the store without the pages that have neither a visit nor an item
abbrev pub without_idle_pages : Store → Store
without_idle_pages store =
    record store { pages = filter (λ (p : Page). is_standing store p.id) store.pages }

-- the visit is one of these
abbrev pub is_among : List VisitId → VisitId → Bool
is_among ids id = list_any (λ (i : VisitId). i.0 == id.0) ids

-- a source that goes is none from then on
abbrev pub source_left : List VisitId → Option VisitId → Option VisitId
source_left gone None = None
source_left gone (Some id) = if is_among gone id then None else Some id

-- a visit that stays, but for its source
abbrev pub visit_left : List VisitId → Visit → Visit
visit_left gone v = record v { source = source_left gone v.source }

-- the visits that stay
abbrev pub visits_left : List VisitId → List Visit → List Visit
visits_left gone visits =
    map (visit_left gone) (filter (λ (v : Visit). not (is_among gone v.id)) visits)

-- the store without these visits, and without the pages that they alone kept. What was typed, the
-- items and the next ids stay
abbrev pub without_visits : List VisitId → Store → Store
without_visits gone store =
    without_idle_pages (record store { visits = visits_left gone store.visits })

-- the store without the visits of a page
abbrev pub forgotten : PageId → Store → Store
forgotten page store = without_visits (map (λ (v : Visit). v.id) (visits_of store page)) store
