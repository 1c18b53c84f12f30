-- What is known of the rows on the way to a visit, a bookmark or a tag.
use Rattle.std.specs.Prelude.{◌≡◌, ◌==◌, Bool, true, false, IsTrue, [], ◌∷◌}
use Rattle.std.specs.List.{All}
use Rattle.pl_base.specs.declared.id.PageId.{PageId}
use Rattle.pl_base.specs.Address.{is_place_url}
use Rattle.pl_base.specs.Good.{HasGoodItems}
use Rattle.pl_base.specs.Removal.{is_standing}
use Rattle.pl_base.specs.Rows.{HaveSums, Kept, KeptPage, has_page, store_of}
use Rattle.pl_marks.specs.Refreshed.{AreRightBut, HaveCounts}
use Rattle.pl_history.specs.Sound.{IsTypedRight}

-- rows with the page of a visit, all right but for what is computed afresh of that page
pub record IsReady (page : PageId) (is_place : Bool) (kept : Kept) : Type 0 where
  pub there : has_page kept page ≡ true
  pub place : All (λ (p : KeptPage). (p.page.id.0 == page.0) ≡ true
      → is_place ≡ is_place_url p.page.url) kept.pages
  pub items : HasGoodItems (store_of kept)
  pub counts : HaveCounts kept
  pub sums : HaveSums kept
  pub right : AreRightBut (page ∷ []) kept
  pub by_row : All (λ (p : KeptPage). (p.page.id.0 == page.0) ≡ false
      → IsTrue (is_standing (store_of kept) p.page.id)) kept.pages
  pub typed : All (IsTypedRight kept) kept.pages
