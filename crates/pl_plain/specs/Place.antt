-- Where a new page's origin is named.
use Rattle.std.specs.Prelude.{◌≡◌, ◌↔◌, ◌⊎◌, ◌+◌, ◌-◌, ◌≤◌, ◌<◌, ◌++◌, ℕ, IsTrue}
use Rattle.std.specs.Prelude.{List, [], ◌∷◌, length, map, replicate}
use Rattle.std.specs.List.{All}
use Rattle.pl_base.specs.declared.id.Slot.{Slot}
use Rattle.pl_base.specs.Address.{same_origin}
use Rattle.pl_base.specs.Live.{new_origins}
use Rattle.pl_base.specs.Rows.{Kept, KeptPage}

-- the totals where there are to be so many: a new origin has none yet
abbrev pub grown : List ℕ → ℕ → List ℕ
grown totals origins = totals ++ replicate (origins - length totals) 0

-- the URLs of the pages
abbrev pub urls_of : Kept → List (List ℕ)
urls_of kept = map (λ (p : KeptPage). p.page.url) kept.pages

-- of origins named 1 to `origins`, or of one more, `slot` is that of the URL, and
-- with it there are `after`
pub record IsSlotOf (kept : Kept) (origins : ℕ) (url : List ℕ) (slot : Slot)
    (after : ℕ) : Type 0 where
  pub first : 0 < slot.0
  pub last : slot.0 ≤ after
  pub others : (n : ℕ) → n ≤ after → (n ≤ origins) ⊎ (slot.0 ≡ n)
  pub same : All (λ (p : KeptPage). (p.origin ≡ slot) ↔ IsTrue (same_origin p.page.url url))
      kept.pages
  pub counted : after ≡ origins + new_origins (urls_of kept) (url ∷ [])
