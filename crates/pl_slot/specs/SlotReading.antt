-- The one row that the bytes of a slot may hold: its fields as they are read at their places.
use Rattle.std.specs.Prelude.{ℕ, ◌+◌, ◌==◌, ◌||◌, List, Option, Some, None, drop}
use Rattle.std.specs.Prelude.{bytes_eq, slice_index, slice_range, if◌then◌else◌}
use Rattle.std.specs.Int.{w32, w64, cast_signed, from_le_bytes}
use Rattle.std.specs.Option.{option_and_then, option_map}
use Rattle.pl_base.specs.declared.id.Slot.{Slot}
use Rattle.pl_base.specs.declared.item.ItemKind.{ItemKind}
use Rattle.pl_base.specs.declared.transition.Transition.{Transition}
use Rattle.pl_base.specs.ItemKind.{item_kind_at}
use Rattle.pl_base.specs.Transition.{transition_at}
use Rattle.pl_slot.specs.declared.kind.SlotKind.{SlotKind}
use Rattle.pl_slot.specs.declared.kind.SlotKind.TheVariants as kinds
use Rattle.pl_slot.specs.declared.row.SlotRow.{SlotRow}
use Rattle.pl_slot.specs.declared.row.SlotRow.TheVariants.{Free, Origin, Place, Visit, Item, Text}
use Rattle.pl_slot.specs.Slot.{is_payload, slot_bytes}
use Rattle.pl_slot.specs.SlotKind.{slot_kind_at}

-- the number of 4 bytes at this place
abbrev pub four_in : ℕ → List ℕ → ℕ
four_in at bytes = from_le_bytes w32 (slice_range bytes at (at + 4))

-- the number of 8 bytes there
abbrev pub eight_in : ℕ → List ℕ → ℕ
eight_in at bytes = from_le_bytes w64 (slice_range bytes at (at + 8))

-- the slot that is named there
abbrev pub slot_in : ℕ → List ℕ → Slot
slot_in at bytes = record { 0 = four_in at bytes }

-- the byte behind the kind: the marks of a page, a transition, what an item is, or how many bytes a
-- part of a text has
abbrev pub mark_in : List ℕ → ℕ
mark_in bytes = slice_index bytes 1

-- an origin, a place, a visit and an item, whatever byte 0 says
abbrev pub origin_in : List ℕ → SlotRow
origin_in b = Origin (slot_in 4 b) (slot_in 8 b) (slot_in 12 b) (slot_in 16 b) (eight_in 24 b)

abbrev pub place_in : List ℕ → SlotRow
place_in b =
    Place (mark_in b == 1 || mark_in b == 3) (mark_in b == 2 || mark_in b == 3)
    (slot_in 4 b) (slot_in 8 b) (record { 0 = four_in 12 b }) (slot_in 16 b) (slot_in 20 b)
    (slot_in 24 b) (slot_in 28 b) (slot_in 32 b) (slot_in 36 b) (slot_in 40 b) (slot_in 44 b)
    (four_in 48 b) (slot_in 52 b) (four_in 56 b) (cast_signed w64 (eight_in 64 b)) (four_in 72 b)

abbrev pub visit_in : List ℕ → Transition → SlotRow
visit_in b transition =
    Visit transition (slot_in 4 b) (slot_in 8 b) (record { 0 = four_in 12 b }) (slot_in 16 b)
    (slot_in 20 b) (slot_in 24 b) (slot_in 28 b) (slot_in 32 b) (slot_in 36 b) (slot_in 40 b)
    (slot_in 44 b) (record { 0 = eight_in 48 b })

abbrev pub item_in : List ℕ → ItemKind → SlotRow
item_in b kind =
    Item kind (slot_in 4 b) (slot_in 8 b) (record { 0 = four_in 12 b }) (slot_in 16 b)
    (slot_in 20 b) (slot_in 24 b) (slot_in 28 b) (slot_in 32 b) (slot_in 36 b) (slot_in 40 b)
    (slot_in 44 b) (slot_in 48 b) (four_in 52 b) (record { 0 = eight_in 56 b })
    (record { 0 = eight_in 64 b })

-- a part of a text, if the bytes behind those that are used are 0
abbrev pub text_in : List ℕ → Option SlotRow
text_in b =
    if is_payload (mark_in b) (drop 8 b) then Some (Text (mark_in b) (slot_in 4 b) (drop 8 b))
    else None

-- the row of this kind
abbrev pub row_of_kind : List ℕ → SlotKind → Option SlotRow
row_of_kind b kinds.Free = Some (Free (slot_in 4 b))
row_of_kind b kinds.Origin = Some (origin_in b)
row_of_kind b kinds.Place = Some (place_in b)
row_of_kind b kinds.Visit = option_map (visit_in b) (transition_at (mark_in b))
row_of_kind b kinds.Item = option_map (item_in b) (item_kind_at (mark_in b))
row_of_kind b kinds.Text = text_in b

-- the row of the kind that byte 0 says
abbrev pub row_in : List ℕ → Option SlotRow
row_in b = option_and_then (row_of_kind b) (slot_kind_at (slice_index b 0))

-- the row whose bytes these are, if they are those of one
unfoldable pub row_of : List ℕ → Option SlotRow
row_of bytes =
    option_and_then
    (λ (row : SlotRow). if bytes_eq (slot_bytes row) bytes then Some row else None)
    (row_in bytes)
