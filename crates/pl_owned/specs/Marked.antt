-- Marks of slots by their numbers.
use Rattle.std.specs.Prelude.{◌≡◌, ◌<◌, ℕ, Bool, true, false, List, get_or, length}
use Rattle.pl_sheets.specs.Sheets.{Pages}
use Rattle.pl_slot.specs.Arena.{is_among, is_live}

-- each number below this one has a mark, which is set where it is among these
pub record AreMarked (slots : List ℕ) (count : ℕ) (marks : List Bool) : Type 0 where
  pub long : length marks ≡ count
  pub each : (n : ℕ) → n < count → get_or marks n false ≡ is_among n slots

-- each live slot has its mark set
abbrev pub HasLiveMarked : List Bool → Pages → Type 0
HasLiveMarked marks pages =
    (n : ℕ) → is_live n pages ≡ true → get_or marks n false ≡ true
