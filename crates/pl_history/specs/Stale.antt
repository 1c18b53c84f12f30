-- Pages that a trim may take.
use Rattle.std.specs.Prelude.{◌==◌, not, List, map}
use Rattle.std.specs.List.{filter, list_any}
use Rattle.pl_base.specs.declared.id.VisitId.{VisitId}
use Rattle.pl_base.specs.Marks.{is_referenced, last_date_of}
use Rattle.pl_base.specs.Store.{Page, Store, Visit}
use Rattle.pl_history.specs.declared.trimming.StalePage.{StalePage}

-- the page and when it was last visited
abbrev pub stale_page : Store → Page → StalePage
stale_page store p = record { last = last_date_of store p.id; page = p.id }

-- those of the pages that no item has
abbrev pub stale : Store → List Page → List StalePage
stale store pages =
    map (stale_page store) (filter (λ (p : Page). not (is_referenced store p.id)) pages)

-- the visits to these pages
abbrev pub visits_of_pages : List StalePage → Store → List VisitId
visits_of_pages pages store =
    map (λ (v : Visit). v.id)
    (filter (λ (v : Visit). list_any (λ (p : StalePage). p.page.0 == v.page.0) pages) store.visits)
