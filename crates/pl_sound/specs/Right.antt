-- Whether what was computed of pages and origins is right.
use Rattle.std.specs.Prelude.{◌≡◌, ℕ, List, map}
use Rattle.pl_base.specs.declared.id.Slot.{Slot}
use Rattle.pl_base.specs.Rows.{HaveTotals, IsRight, Kept}
use Rattle.pl_record.specs.declared.rows.Place.{Place}
use Rattle.pl_sound.specs.Marks.{right_mark}
use Rattle.pl_sound.specs.Sums.{origin_sum}
use Rattle.pl_stored.specs.Stored.{Stored}

-- each page has the mark that the definitions give, and each origin the sum of its pages' positive
-- frecencies
pub record AreComputed (rows : Stored) (places : List Place) (origins : List Slot) (totals : List ℕ)
    : Type 0 where
  pub marks : map (right_mark rows) rows.pages ≡ map (λ (p : Place). p.mark) places
  pub sums : map (origin_sum places) origins ≡ totals

-- what was computed of the pages and origins of a store is what the definitions give
pub record IsMarked (kept : Kept) : Type 0 where
  pub right : IsRight kept
  pub totals : HaveTotals kept
