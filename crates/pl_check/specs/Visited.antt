-- The pages that the visits of a file have.
use Rattle.std.specs.Prelude.{◌≡◌, ◌==◌, ℕ, List, map}
use Rattle.std.specs.List.{filter, list_any}
use Rattle.pl_base.specs.declared.id.PageId.{PageId}
use Rattle.pl_base.specs.Marks.{is_typed}
use Rattle.pl_stored.specs.declared.stored.StoredVisit.{StoredVisit}
use Rattle.pl_check.specs.declared.visited.Visited.{Visited}
use Rattle.pl_check.specs.Rows.{is_typed_visit}

-- the numbers of the pages that the visits have
abbrev pub visited_pages : List StoredVisit → List ℕ
visited_pages visits = map (λ (v : StoredVisit). v.page.0) visits

-- the numbers of the pages that the visits have whose address was typed
abbrev pub typed_pages : List StoredVisit → List ℕ
typed_pages visits = visited_pages (filter (λ (v : StoredVisit). is_typed v.transition) visits)

-- these are the pages that the visits have, and those that the typed ones have
pub record AreVisited (visits : List StoredVisit) (found : Visited) : Type 0 where
  pub pages : (page : PageId) → list_any (λ n. n == page.0) found.pages
      ≡ list_any (λ (v : StoredVisit). v.page.0 == page.0) visits
  pub typed : (page : PageId) → list_any (λ n. n == page.0) found.typed
      ≡ list_any (is_typed_visit page) visits
