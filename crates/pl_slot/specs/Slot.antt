-- The slots of a store's file, of 128 bytes each: the bytes of a slot that holds a row. A row has
-- fields, each at its place in the slot, and every other byte is 0. Byte 0 is the row's kind.
use Rattle.std.specs.Prelude.{◌≡◌, ◌<◌, ◌^◌, ◌+◌, ◌-◌, ◌&&◌, ◌==◌, ℕ, ℤ, Bool, true, false, List}
use Rattle.std.specs.Prelude.{[], ◌∷◌, ◌++◌, drop, length, nat_le, replicate}
use Rattle.std.specs.Int.{w32, w64, to_le_bytes, cast_unsigned}
use Rattle.std.specs.Int.RustNames.{FitsSigned}
use Rattle.std.specs.List.{list_all}
use Rattle.pl_base.specs.ItemKind.{item_kind_number}
use Rattle.pl_base.specs.Live.{slot_size}
use Rattle.pl_base.specs.Transition.{transition_number}
use Rattle.pl_slot.specs.declared.kind.SlotKind.{SlotKind}
use Rattle.pl_slot.specs.declared.kind.SlotKind.TheVariants as kinds
use Rattle.pl_slot.specs.declared.row.SlotRow.{SlotRow}
use Rattle.pl_slot.specs.declared.row.SlotRow.TheVariants.{Free, Origin, Place, Visit, Item, Text}
use Rattle.pl_slot.specs.SlotKind.{slot_kind_number}

-- ---- fields, and where they lie

-- a field: the byte at which it begins, and its bytes
abbrev pub Field : Type 0
Field = ℕ × List ℕ

-- a field of one byte
abbrev pub byte_at : ℕ → ℕ → Field
byte_at at n = (at, n ∷ [])

-- a number of 4 bytes, the lowest first
abbrev pub four_at : ℕ → ℕ → Field
four_at at n = (at, to_le_bytes w32 n)

-- a number of 8 bytes
abbrev pub eight_at : ℕ → ℕ → Field
eight_at at n = (at, to_le_bytes w64 n)

-- a number of 8 bytes with its sign
abbrev pub signed_eight_at : ℕ → ℤ → Field
signed_eight_at at z = eight_at at (cast_unsigned w64 z)

-- the bytes of so many that begin at one: fields, by ascending place, and 0 where none lies
abbrev pub laid : ℕ → ℕ → List Field → List ℕ
laid size from [] = replicate (size - from) 0
laid size from (field ∷ fields) =
    replicate (field.0 - from) 0 ++ field.1 ++ laid size (field.0 + length field.1) fields

-- ---- rows

-- what a row is
abbrev pub slot_kind : SlotRow → SlotKind
slot_kind (Free _) = kinds.Free
slot_kind (Origin _ _ _ _ _) = kinds.Origin
slot_kind (Place _ _ _ _ _ _ _ _ _ _ _ _ _ _ _ _ _ _) = kinds.Place
slot_kind (Visit _ _ _ _ _ _ _ _ _ _ _ _ _) = kinds.Visit
slot_kind (Item _ _ _ _ _ _ _ _ _ _ _ _ _ _ _ _) = kinds.Item
slot_kind (Text _ _ _) = kinds.Text

-- bit 0 of the marks of a page says that it is typed, bit 1 that it is hidden
abbrev pub marks_byte : Bool → Bool → ℕ
marks_byte false false = 0
marks_byte true false = 1
marks_byte false true = 2
marks_byte true true = 3

-- the field of a row's kind
abbrev pub kind_field : SlotKind → Field
kind_field kind = byte_at 0 (slot_kind_number kind)

-- the fields of a row
abbrev pub slot_fields : SlotRow → List Field
slot_fields (Free next) = kind_field kinds.Free ∷ four_at 4 next.0 ∷ []
slot_fields (Origin live_previous live_next first_page last_page total) =
    kind_field kinds.Origin ∷ four_at 4 live_previous.0 ∷ four_at 8 live_next.0
    ∷ four_at 12 first_page.0 ∷ four_at 16 last_page.0 ∷ eight_at 24 total ∷ []
slot_fields
    (Place typed hidden live_previous live_next id origin origin_previous origin_next first_visit
    last_visit first_reference last_reference url_text url_length title_text title_length frecency
    count) =
    kind_field kinds.Place ∷ byte_at 1 (marks_byte typed hidden) ∷ four_at 4 live_previous.0
    ∷ four_at 8 live_next.0 ∷ four_at 12 id.0 ∷ four_at 16 origin.0
    ∷ four_at 20 origin_previous.0 ∷ four_at 24 origin_next.0 ∷ four_at 28 first_visit.0
    ∷ four_at 32 last_visit.0 ∷ four_at 36 first_reference.0 ∷ four_at 40 last_reference.0
    ∷ four_at 44 url_text.0 ∷ four_at 48 url_length ∷ four_at 52 title_text.0
    ∷ four_at 56 title_length ∷ signed_eight_at 64 frecency ∷ four_at 72 count ∷ []
slot_fields
    (Visit transition live_previous live_next id page page_previous page_next source
    target_previous target_next first_target last_target date) =
    kind_field kinds.Visit ∷ byte_at 1 (transition_number transition) ∷ four_at 4 live_previous.0
    ∷ four_at 8 live_next.0 ∷ four_at 12 id.0 ∷ four_at 16 page.0 ∷ four_at 20 page_previous.0
    ∷ four_at 24 page_next.0 ∷ four_at 28 source.0 ∷ four_at 32 target_previous.0
    ∷ four_at 36 target_next.0 ∷ four_at 40 first_target.0 ∷ four_at 44 last_target.0
    ∷ eight_at 48 date.0 ∷ []
slot_fields
    (Item kind live_previous live_next id parent sibling_previous sibling_next first_child
    last_child page reference_previous reference_next title_text title_length added modified) =
    kind_field kinds.Item ∷ byte_at 1 (item_kind_number kind) ∷ four_at 4 live_previous.0
    ∷ four_at 8 live_next.0 ∷ four_at 12 id.0 ∷ four_at 16 parent.0
    ∷ four_at 20 sibling_previous.0 ∷ four_at 24 sibling_next.0 ∷ four_at 28 first_child.0
    ∷ four_at 32 last_child.0 ∷ four_at 36 page.0 ∷ four_at 40 reference_previous.0
    ∷ four_at 44 reference_next.0 ∷ four_at 48 title_text.0 ∷ four_at 52 title_length
    ∷ eight_at 56 added.0 ∷ eight_at 64 modified.0 ∷ []
slot_fields (Text used next payload) =
    kind_field kinds.Text ∷ byte_at 1 used ∷ four_at 4 next.0 ∷ (8, payload) ∷ []

-- the bytes of a slot that holds a row
abbrev pub slot_bytes : SlotRow → List ℕ
slot_bytes row = laid slot_size 0 (slot_fields row)

-- ---- which rows there are

-- numbers of 4 bytes
abbrev pub AreFours : List ℕ → Type 0
AreFours [] = Unit {0}
AreFours (n ∷ ns) = (n < 2 ^ 32) × AreFours ns

-- the bytes of a text that a slot takes
abbrev pub payload_size : ℕ
payload_size = 120

-- at least one byte of the payload is used, and those behind are 0
abbrev pub is_payload : ℕ → List ℕ → Bool
is_payload used payload =
    nat_le 1 used && nat_le used payload_size && list_all (λ b. b == 0) (drop used payload)

-- each number of a row has as many bytes as its field, and a part of a text is one
abbrev pub IsSlotRow : SlotRow → Type 0
IsSlotRow (Free next) = AreFours (next.0 ∷ [])
IsSlotRow (Origin live_previous live_next first_page last_page total) =
    AreFours (live_previous.0 ∷ live_next.0 ∷ first_page.0 ∷ last_page.0 ∷ []) × (total < 2 ^ 64)
IsSlotRow
    (Place typed hidden live_previous live_next id origin origin_previous origin_next first_visit
    last_visit first_reference last_reference url_text url_length title_text title_length frecency
    count) =
    AreFours
    (live_previous.0 ∷ live_next.0 ∷ id.0 ∷ origin.0 ∷ origin_previous.0 ∷ origin_next.0
    ∷ first_visit.0 ∷ last_visit.0 ∷ first_reference.0 ∷ last_reference.0 ∷ url_text.0
    ∷ url_length ∷ title_text.0 ∷ title_length ∷ count ∷ [])
    × FitsSigned w64 frecency
IsSlotRow
    (Visit transition live_previous live_next id page page_previous page_next source
    target_previous target_next first_target last_target date) =
    AreFours
    (live_previous.0 ∷ live_next.0 ∷ id.0 ∷ page.0 ∷ page_previous.0 ∷ page_next.0 ∷ source.0
    ∷ target_previous.0 ∷ target_next.0 ∷ first_target.0 ∷ last_target.0 ∷ [])
    × (date.0 < 2 ^ 64)
IsSlotRow
    (Item kind live_previous live_next id parent sibling_previous sibling_next first_child
    last_child page reference_previous reference_next title_text title_length added modified) =
    AreFours
    (live_previous.0 ∷ live_next.0 ∷ id.0 ∷ parent.0 ∷ sibling_previous.0 ∷ sibling_next.0
    ∷ first_child.0 ∷ last_child.0 ∷ page.0 ∷ reference_previous.0 ∷ reference_next.0
    ∷ title_text.0 ∷ title_length ∷ [])
    × (added.0 < 2 ^ 64) × (modified.0 < 2 ^ 64)
IsSlotRow (Text used next payload) =
    AreFours (next.0 ∷ []) × (length payload ≡ payload_size) × (is_payload used payload ≡ true)
