-- The ids of a file's pages and visits.
use Rattle.std.specs.Prelude.{◌≡◌, ◌==◌, ℕ, List}
use Rattle.std.specs.List.{list_any}
use Rattle.pl_stored.specs.declared.stored.StoredPage.{StoredPage}
use Rattle.pl_stored.specs.declared.stored.StoredVisit.{StoredVisit}
use Rattle.pl_check.specs.declared.row_ids.RowIds.{RowIds}

-- these are the numbers of the pages' ids and of the visits' ids
pub record AreRowIds (ps : List StoredPage) (vs : List StoredVisit) (ids : RowIds) : Type 0
  where
    pub pages : (id : ℕ) → list_any (λ n. n == id) ids.pages
        ≡ list_any (λ (p : StoredPage). p.id.0 == id) ps
    pub visits : (id : ℕ) → list_any (λ n. n == id) ids.visits
        ≡ list_any (λ (v : StoredVisit). v.id.0 == id) vs
