-- What the bytes of a file in the form say: the rows of its store and their links, and no more.
use Rattle.std.specs.Prelude.{◌≡◌, ◌⊎◌, ◌++◌, ◌-◌, ℕ, true, List, replicate}
use Rattle.pl_base.specs.declared.id.Slot.{Slot}
use Rattle.pl_base.specs.Live.{slot_size}
use Rattle.pl_base.specs.Rows.{Kept}
use Rattle.pl_base.specs.Touched.{page_size}
use Rattle.pl_record.specs.Form.{header_size}
use Rattle.pl_record.specs.Records.{Layout, row_slots, text_slots}
use Rattle.pl_sheets.specs.Sheets.{Pages, bytes_at, place_in}
use Rattle.pl_slot.specs.declared.row.SlotRow.{SlotRow}
use Rattle.pl_slot.specs.declared.row.SlotRow.TheVariants.{Free}
use Rattle.pl_slot.specs.Arena.{header_of, is_among, is_slot, slot_byte, slot_page}
use Rattle.pl_slot.specs.Slot.{slot_bytes}

-- the bytes of a slot
abbrev pub slot_image : ℕ → Pages → List ℕ
slot_image n pages = bytes_at (place_in (slot_page n) (slot_byte n)) slot_size pages.bytes

-- a slot is free, with the number of the next free one and zeros, or it holds a row of the store or
-- a part of one of its texts, with the fields of that and zeros
abbrev pub IsSlotAccounted : Layout → Kept → Pages → ℕ → Type 0
IsSlotAccounted at kept pages n =
    ((next : Slot) × (slot_image n pages ≡ slot_bytes (Free next)))
    ⊎ ((is_among n (row_slots at kept ++ text_slots at kept) ≡ true)
    × ((row : SlotRow) × (slot_image n pages ≡ slot_bytes row)))

-- so is each slot, and the header's page has zeros behind its fields
pub record IsAccounted (at : Layout) (kept : Kept) (pages : Pages) : Type 0 where
  pub header : (header_of pages).rest ≡ replicate (page_size - header_size) 0
  pub slots : (n : ℕ) → is_slot n pages ≡ true → IsSlotAccounted at kept pages n
