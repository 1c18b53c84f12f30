-- Slots that hold the rows of pages.
use Rattle.std.specs.Prelude.{◌≡◌, ℕ, ◌+◌, ◌<◌, Some}
use Rattle.pl_sheets.specs.Sheets.{Pages}
use Rattle.pl_slot.specs.declared.kind.SlotKind.TheVariants.{Place}
use Rattle.pl_slot.specs.Links.{kind_at}

-- this slot holds the row of a page
abbrev pub IsPlace : ℕ → Pages → Type 0
IsPlace n pages = kind_at n pages ≡ Some Place

-- each of the first so many slots does
abbrev pub ArePlaces : ℕ → Pages → Type 0
ArePlaces count pages = (n : ℕ) → n < count → IsPlace (n + 1) pages

-- each slot is of the kind that it was of
abbrev pub KeepsKinds : Pages → Pages → Type 0
KeepsKinds old new = (n : ℕ) → kind_at n new ≡ kind_at n old
