-- Texts in slots: each slot of a text has 120 bytes of it, the last one those that are left.
use Rattle.std.specs.Prelude.{◌≡◌, ℕ, ◌+◌, ◌-◌, ◌/◌, ◌≤◌, true, false, List, [], ◌∷◌, ◌++◌}
use Rattle.std.specs.Prelude.{length, map, take, drop, replicate, Some}
use Rattle.pl_base.specs.declared.id.Slot.{Slot}
use Rattle.pl_sheets.specs.Sheets.{Pages}
use Rattle.pl_slot.specs.declared.row.SlotRow.{SlotRow}
use Rattle.pl_slot.specs.declared.row.SlotRow.TheVariants.{Text}
use Rattle.pl_slot.specs.Arena.{ChangesOnly, first_in, header_of, header_page, is_among, is_free}
use Rattle.pl_slot.specs.Arena.{is_live, live_at, live_count, slot_page}
use Rattle.pl_slot.specs.Slot.{payload_size}

-- ---- what holds a text

-- the row of a part of a text, with 0 behind its bytes, before the part in another slot
abbrev pub chunk_row : List ℕ → Slot → SlotRow
chunk_row bytes next =
    Text (length bytes) next (bytes ++ replicate (payload_size - length bytes) 0)

-- a slot holds a part of a text, before the part in another slot
abbrev pub HoldsPart : ℕ → List ℕ → Slot → Pages → Type 0
HoldsPart n part next pages = live_at n pages ≡ Some (chunk_row part next)

-- these slots hold a text: each has the next 120 bytes of it, or what is left, and names the one
-- behind it, the last one none
abbrev pub Hold : List ℕ → List ℕ → Pages → Type 0
Hold [] text pages = text ≡ []
Hold (n ∷ ns) text pages =
    (1 ≤ length text)
    × HoldsPart n (take payload_size text) (first_in ns) pages
    × Hold ns (drop payload_size text) pages

-- a text is held from this slot on; an empty one has no slot, and begins at slot 0
pub record HoldsText (slot : Slot) (text : List ℕ) (pages : Pages) : Type 0 where
  pub slots : List ℕ
  pub first : slot ≡ first_in slots
  pub held : Hold slots text pages

-- a part of so many bytes is in this slot
abbrev pub HoldsSize : ℕ → ℕ → Slot → Pages → Type 0
HoldsSize n size next pages =
    (part : List ℕ) × HoldsPart n part next pages × (length part ≡ size)

-- some part of a text is in this slot
abbrev pub IsPart : ℕ → Pages → Type 0
IsPart n pages = (part : List ℕ) × (next : Slot) × HoldsPart n part next pages

-- a text of so many bytes is held from this slot on
abbrev pub HasText : Slot → ℕ → Pages → Type 0
HasText slot size pages = (text : List ℕ) × HoldsText slot text pages × (length text ≡ size)

-- these are the slots of a text of so many bytes that is held from this slot on
pub record AreChunks (slots : List ℕ) (slot : Slot) (size : ℕ) (pages : Pages) : Type 0 where
  pub first : slot ≡ first_in slots
  pub text : List ℕ
  pub held : Hold slots text pages
  pub size_is : length text ≡ size

-- how many slots a text of so many bytes takes
abbrev pub chunk_count : ℕ → ℕ
chunk_count size = (size + (payload_size - 1)) / payload_size

-- ---- what changes, and what stays

-- each slot but these is live with what it held, or is not live, as before
abbrev pub KeepsLive : List ℕ → Pages → Pages → Type 0
KeepsLive slots old new =
    (n : ℕ) → is_among n slots ≡ false → live_at n new ≡ live_at n old

-- the page of the header, and those of slots
abbrev pub pages_of : List ℕ → List ℕ
pages_of slots = header_page ∷ map slot_page slots

-- a text is held from this slot on, in slots that were not live, and each other one is as it was
pub record StoresText (slot : Slot) (text : List ℕ) (old new : Pages) : Type 0 where
  pub slots : List ℕ
  pub first : slot ≡ first_in slots
  pub held : Hold slots text new
  pub fresh : (n : ℕ) → is_among n slots ≡ true → is_live n old ≡ false
  pub others : KeepsLive slots old new
  pub count : live_count new ≡ live_count old + length slots
  pub pages : ChangesOnly (pages_of slots) old new

-- these slots are free, and each other one is as it was
pub record FreesSlots (slots : List ℕ) (old new : Pages) : Type 0 where
  pub free : (n : ℕ) → is_among n slots ≡ true → is_free n new ≡ true
  pub others : KeepsLive slots old new
  pub count : live_count new + length slots ≡ live_count old
  pub header : header_of new
      ≡ record (header_of old) { first_free = (header_of new).first_free }
  pub pages : ChangesOnly (pages_of slots) old new
