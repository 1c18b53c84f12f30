-- What is asked of the slots of pages before they make an arena.
use Rattle.std.specs.Prelude.{◌≡◌, ℕ, true, length, Option, Some, None, IsSome}
use Rattle.std.specs.List.{filter}
use Rattle.std.specs.Option.{option_and_then}
use Rattle.pl_base.specs.declared.id.Slot.{Slot}
use Rattle.pl_sheets.specs.Sheets.{Pages}
use Rattle.pl_slot.specs.declared.row.SlotRow.{SlotRow}
use Rattle.pl_slot.specs.declared.row.SlotRow.TheVariants.{Free}
use Rattle.pl_slot.specs.Arena.{is_free, is_slot, row_at, slots_of}

-- each slot holds a row
abbrev pub HasRows : Pages → Type 0
HasRows pages = (n : ℕ) → is_slot n pages ≡ true → IsSome (row_at n pages)

-- how many slots are free
unfoldable pub free_count : Pages → ℕ
free_count pages = length (filter (λ n. is_free n pages) (slots_of pages))

-- the slot that the row of a free one names
abbrev pub link_of : SlotRow → Option Slot
link_of (Free next) = Some next
link_of row = None

-- the slot that a free one names, if it is one
abbrev pub next_free : ℕ → Pages → Option Slot
next_free n pages = option_and_then link_of (row_at n pages)
