-- What keeps the pages of a store there, and makes them typed.
use Rattle.std.specs.Prelude.{◌≡◌, IsTrue}
use Rattle.std.specs.List.{All}
use Rattle.pl_base.specs.declared.transition.Transition.TheVariants.{Typed}
use Rattle.pl_base.specs.Removal.{is_standing}
use Rattle.pl_base.specs.Rows.{Kept, KeptPage, store_of}
use Rattle.pl_base.specs.Store.{Visit}

-- the page is typed where a visit to it was
abbrev pub IsTypedRight : Kept → KeptPage → Type 0
IsTypedRight kept p =
    All (λ (v : Visit). v.page ≡ p.page.id → v.transition ≡ Typed → IsTrue p.page.typed) kept.visits

-- each page stands there by a visit or an item, and is typed where a visit to it was
pub record AreStanding (kept : Kept) : Type 0 where
  pub by_row : All (λ (p : KeptPage). IsTrue (is_standing (store_of kept) p.page.id)) kept.pages
  pub typed : All (IsTypedRight kept) kept.pages
