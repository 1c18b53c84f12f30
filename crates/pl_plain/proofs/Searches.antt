-- The ids of rows over vectors ascend as those that are kept do.
use Rattle.std.proofs.Common.{◌≡◌, List, map}
use Rattle.std.specs.List.Sorted.{IsStrictlyIncreasing}
use Rattle.pl_base.specs.Rows.{KeptPage}
use Rattle.pl_base.specs.Store.{Visit}
use Rattle.pl_base.proofs.ListLaws.{map-map}
use Rattle.pl_plain.specs.FlatRows.{flat_visit_ids}
use Rattle.pl_stored.specs.Stored.{visit_of}
use Rattle.pl_stored.specs.declared.stored.StoredVisit.{StoredVisit}
use Rattle.pl_plain.specs.declared.flat.row.FlatPage.{FlatPage}
use Rattle.pl_plain.specs.FlatRows.{flat_page_ids, page_of}

-- the ids of the rows, seen as what is kept
pub pages_ascend : (xs ys : List FlatPage) → IsStrictlyIncreasing (map (λ (p : KeptPage). p.page.id.0) (map page_of xs))
    → ys ≡ xs → IsStrictlyIncreasing (flat_page_ids ys)
pages_ascend xs ys ascending same = rw (same, ← (map-map (λ (p : KeptPage). p.page.id.0) page_of xs)) ascending

pub visits_ascend : (xs ys : List StoredVisit) → IsStrictlyIncreasing (map (λ (v : Visit). v.id.0) (map visit_of xs))
    → ys ≡ xs → IsStrictlyIncreasing (flat_visit_ids ys)
visits_ascend xs ys ascending same = rw (same, ← (map-map (λ (v : Visit). v.id.0) visit_of xs)) ascending
