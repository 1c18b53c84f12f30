-- Worked rows of slots: the bytes that are not 0, and all others are.
use Rattle.std.proofs.Common.{◌≡◌, ◌∙◌, ◌∷◌, [], ℕ, List, Some, ap, refl, replicate, slice_index, sym}
use Rattle.std.proofs.Common.{arith, true, false}
use Rattle.std.specs.Prelude.{negsuc}
use Rattle.pl_base.specs.declared.date.Micros.{Micros}
use Rattle.pl_base.specs.declared.id.Slot.{Slot}
use Rattle.pl_base.specs.declared.item.ItemKind.TheVariants.{Folder}
use Rattle.pl_base.specs.declared.transition.Transition.TheVariants.{Typed}
use Rattle.pl_base.specs.Live.{slot_size}
use Rattle.pl_slot.specs.declared.row.TheConstants.{PAYLOAD_SIZE, SLOT_SIZE}
use Rattle.pl_slot.specs.declared.row.SlotRow.{SlotRow}
use Rattle.pl_slot.specs.declared.row.SlotRow.TheVariants.{Free, Origin, Place, Visit, Item, Text}
use Rattle.pl_slot.specs.Slot.{IsSlotRow, byte_at, laid, payload_size, slot_bytes}
use Rattle.pl_slot.specs.SlotReading.{row_in}
use Rattle.pl_slot.proofs.RowsRead.{row_is}

slot_size_is : SLOT_SIZE ≡ slot_size
slot_size_is = refl

payload_size_is : PAYLOAD_SIZE ≡ payload_size
payload_size_is = refl

abbrev slot : ℕ → Slot
slot n = record { 0 = n }

abbrev date : ℕ → Micros
date n = record { 0 = n }

free : slot_bytes (Free (slot 258)) ≡ laid slot_size 0 (byte_at 4 2 ∷ byte_at 5 1 ∷ [])
free = refl

origin : slot_bytes (Origin (slot 1) (slot 2) (slot 3) (slot 4) 5)
    ≡ laid slot_size 0
    (byte_at 0 1 ∷ byte_at 4 1 ∷ byte_at 8 2 ∷ byte_at 12 3 ∷ byte_at 16 4 ∷ byte_at 24 5 ∷ [])
origin = refl

-- a hidden place with the frecency -1, and texts in the slots 9 and 11
place : slot_bytes
    (Place false true (slot 0) (slot 0) (record { 0 = 1 }) (slot 2) (slot 0) (slot 0) (slot 3) (slot 4) (slot 5)
    (slot 6) (slot 9) 10 (slot 11) 12 (negsuc 0) 13)
    ≡ laid slot_size 0
    (byte_at 0 2 ∷ byte_at 1 2 ∷ byte_at 12 1 ∷ byte_at 16 2 ∷ byte_at 28 3 ∷ byte_at 32 4 ∷ byte_at 36 5
    ∷ byte_at 40 6 ∷ byte_at 44 9 ∷ byte_at 48 10 ∷ byte_at 52 11 ∷ byte_at 56 12 ∷ (64, replicate 8 255)
    ∷ byte_at 72 13 ∷ [])
place = refl

-- visit 1 by typing, to the page in slot 7 at date 1, before the visit in slot 9
abbrev visit : SlotRow
visit =
    Visit Typed (slot 0) (slot 9) (record { 0 = 1 }) (slot 7) (slot 0) (slot 0) (slot 0) (slot 0) (slot 0) (slot 0)
    (slot 0) (date 1)

visit_row : slot_bytes visit
    ≡ laid slot_size 0
    (byte_at 0 3 ∷ byte_at 1 2 ∷ byte_at 8 9 ∷ byte_at 12 1 ∷ byte_at 16 7 ∷ byte_at 48 1 ∷ [])
visit_row = refl

-- the same with byte 2 set to 1
abbrev changed : List ℕ
changed =
    laid slot_size 0
    (byte_at 0 3 ∷ byte_at 1 2 ∷ byte_at 2 1 ∷ byte_at 8 9 ∷ byte_at 12 1 ∷ byte_at 16 7 ∷ byte_at 48 1 ∷ [])

-- holds no row
no_row : (row : SlotRow) → IsSlotRow row → changed ≡ slot_bytes row → ⊥
no_row row fits spelled =
    let found : Some visit ≡ row_in changed = refl in
    let same = row_is changed visit row found fits spelled in
    let byte : 0 ≡ 1 = ap (λ r. slice_index (slot_bytes r) 2) same ∙ ap (λ l. slice_index l 2) (sym spelled) in
    absurd (omega (arith, byte))

folder : slot_bytes
    (Item Folder (slot 0) (slot 0) (record { 0 = 7 }) (slot 1) (slot 2) (slot 3) (slot 4) (slot 5) (slot 0) (slot 0)
    (slot 0) (slot 6) 8 (date 9) (date 10))
    ≡ laid slot_size 0
    (byte_at 0 4 ∷ byte_at 1 2 ∷ byte_at 12 7 ∷ byte_at 16 1 ∷ byte_at 20 2 ∷ byte_at 24 3 ∷ byte_at 28 4
    ∷ byte_at 32 5 ∷ byte_at 48 6 ∷ byte_at 52 8 ∷ byte_at 56 9 ∷ byte_at 64 10 ∷ [])
folder = refl

-- a text of two bytes
text : slot_bytes (Text 2 (slot 0) (104 ∷ 105 ∷ replicate 118 0))
    ≡ laid slot_size 0 (byte_at 0 5 ∷ byte_at 1 2 ∷ byte_at 8 104 ∷ byte_at 9 105 ∷ [])
text = refl
