-- What is known of the rows while the pages that lost a visit or an item are settled.
use Rattle.std.specs.Prelude.{◌≡◌, ◌≢◌, ◌==◌, false, IsTrue, List, map}
use Rattle.std.specs.List.{All, AllPairs, list_any}
use Rattle.pl_base.specs.declared.id.PageId.{PageId}
use Rattle.pl_base.specs.Good.{HasGoodItems}
use Rattle.pl_base.specs.Rows.{HaveSums, Kept, KeptPage, has_page, other_pages, store_of, unnamed}
use Rattle.pl_marks.specs.Refreshed.{AreRightBut, HaveCounts}
use Rattle.pl_history.specs.Sound.{IsTypedRight}
use Rattle.pl_base.specs.Removal.{is_standing}

-- the pages with these ids are there, and each of the others is right and stands there by a visit
-- or an item
pub record AreSettledBut (ids : List PageId) (kept : Kept) : Type 0 where
  pub there : All (λ (id : PageId). IsTrue (has_page kept id)) ids
  pub apart : AllPairs (λ (a b : PageId). a.0 ≢ b.0) ids
  pub items : HasGoodItems (store_of kept)
  pub counts : HaveCounts kept
  pub right : AreRightBut ids kept
  pub by_row : All (λ (p : KeptPage). list_any (λ (id : PageId). p.page.id.0 == id.0) ids ≡ false
      → IsTrue (is_standing (store_of kept) p.page.id)) kept.pages
  pub typed : All (IsTypedRight kept) kept.pages
  pub sums : HaveSums kept

-- the same before the ids are put in order, each once
pub record AreOthersSettled (ids : List PageId) (kept : Kept) : Type 0 where
  pub there : All (λ (id : PageId). IsTrue (has_page kept id)) ids
  pub items : HasGoodItems (store_of kept)
  pub counts : HaveCounts kept
  pub right : AreRightBut ids kept
  pub by_row : All (λ (p : KeptPage). list_any (λ (id : PageId). p.page.id.0 == id.0) ids ≡ false
      → IsTrue (is_standing (store_of kept) p.page.id)) kept.pages
  pub typed : All (IsTypedRight kept) kept.pages
  pub sums : HaveSums kept

-- the rows without the page, whatever is kept of origins
pub record Drops (page : PageId) (old new : Kept) : Type 0 where
  pub day : new.day ≡ old.day
  pub ids : new.ids ≡ old.ids
  pub pages : map unnamed new.pages ≡ map unnamed (other_pages page old.pages)
  pub visits : new.visits ≡ old.visits
  pub items : new.items ≡ old.items
