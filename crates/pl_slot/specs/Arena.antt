-- The slots of a store's file in memory: where each lies, what it holds, which are free, and what a
-- change leaves as it was.
use Rattle.std.specs.Prelude.{◌≡◌, ◌≢◌, ℕ, ◌+◌, ◌-◌, ◌*◌, ◌/◌, ◌%◌, ◌≤◌, ◌<◌, ◌&&◌, ◌==◌, not}
use Rattle.std.specs.Prelude.{Bool, true, false, List, [], ◌∷◌, length, nat_le}
use Rattle.std.specs.Prelude.{Option, Some, None, IsSome, if◌then◌else◌, is_some}
use Rattle.std.specs.List.{filter, list_any, range_with_len}
use Rattle.std.specs.Option.{option_and_then}
use Rattle.pl_base.specs.declared.id.Slot.{Slot}
use Rattle.pl_base.specs.Live.{slot_limit, slot_size}
use Rattle.pl_sheets.specs.Sheets.{ArePages, Pages, bytes_at, has_changed, image_of, page_count}
use Rattle.pl_sheets.specs.Sheets.{place_in}
use Rattle.pl_slot.specs.declared.row.SlotRow.{SlotRow}
use Rattle.pl_slot.specs.declared.row.SlotRow.TheVariants.{Free}
use Rattle.pl_slot.specs.Header.{Header, header_in}
use Rattle.pl_slot.specs.Slot.{IsSlotRow}
use Rattle.pl_slot.specs.SlotReading.{row_of}

-- ---- where slots lie

-- page 1 is the header, and page 0 the gate's
abbrev pub header_page : ℕ
header_page = 1

-- the slots of a page
abbrev pub slots_a_page : ℕ
slots_a_page = 8

-- the page of a slot, and the byte of the page at which it begins; slots are numbered from 1 on
abbrev pub slot_page : ℕ → ℕ
slot_page n = 2 + (n - 1) / slots_a_page

abbrev pub slot_byte : ℕ → ℕ
slot_byte n = slot_size * ((n - 1) % slots_a_page)

-- how many slots there are
abbrev pub slot_count : Pages → ℕ
slot_count pages = slots_a_page * (page_count pages - 2)

-- the slots
abbrev pub slots_of : Pages → List ℕ
slots_of pages = range_with_len 1 (slot_count pages)

-- the number is that of a slot
abbrev pub is_slot : ℕ → Pages → Bool
is_slot n pages = nat_le 1 n && nat_le n (slot_count pages)

-- ---- what they hold

-- the row that a slot holds, if it is one and its bytes are a row's
unfoldable pub row_at : ℕ → Pages → Option SlotRow
row_at n pages =
    if is_slot n pages
    then row_of (bytes_at (place_in (slot_page n) (slot_byte n)) slot_size pages.bytes)
    else None

-- a row but for that of a free slot
abbrev pub live_row : SlotRow → Option SlotRow
live_row (Free next) = None
live_row row = Some row

-- the row that a live slot holds
abbrev pub live_at : ℕ → Pages → Option SlotRow
live_at n pages = option_and_then live_row (row_at n pages)

-- the slot is live
abbrev pub is_live : ℕ → Pages → Bool
is_live n pages = is_some (live_at n pages)

-- the slot is free
abbrev pub is_free : ℕ → Pages → Bool
is_free n pages = is_some (row_at n pages) && not (is_live n pages)

-- how many slots are live
unfoldable pub live_count : Pages → ℕ
live_count pages = length (filter (λ n. is_live n pages) (slots_of pages))

-- a live slot may hold this row
abbrev pub IsLiveRow : SlotRow → Type 0
IsLiveRow row = (live_row row ≡ Some row) × IsSlotRow row

-- the header
unfoldable pub header_of : Pages → Header
header_of pages = header_in (image_of pages header_page).image

-- ---- the free slots

-- the first of some slots, 0 where there is none
abbrev pub first_in : List ℕ → Slot
first_in [] = record { 0 = 0 }
first_in (n ∷ ns) = record { 0 = n }

-- each of these slots is free and names the one behind it, the last one none
abbrev pub AreLinked : List ℕ → Pages → Type 0
AreLinked [] pages = Unit {0}
AreLinked (n ∷ ns) pages = (row_at n pages ≡ Some (Free (first_in ns))) × AreLinked ns pages

-- one of the slots has this number
abbrev pub is_among : ℕ → List ℕ → Bool
is_among n ns = list_any (λ m. n == m) ns

-- the free slots are in one chain, from the one that the header names
pub record HasFreeChain (pages : Pages) : Type 0 where
  pub chain : List ℕ
  pub first : (header_of pages).first_free ≡ first_in chain
  pub linked : AreLinked chain pages
  pub whole : (n : ℕ) → is_free n pages ≡ true → is_among n chain ≡ true

-- each slot holds a row, and the free ones are in one chain
pub record KeepsSlots (pages : Pages) : Type 0 where
  pub rows : (n : ℕ) → is_slot n pages ≡ true → IsSome (row_at n pages)
  pub free : HasFreeChain pages

-- the pages of an arena: the header has their number, no store has more slots, and slots are kept
pub record IsArena (pages : Pages) : Type 0 where
  pub whole : ArePages pages
  pub some_page : 2 ≤ page_count pages
  pub few : slot_count pages ≤ slot_limit
  pub told : (header_of pages).pages ≡ page_count pages
  pub slots : KeepsSlots pages

-- ---- what changes, and what stays

-- the slot has this row, and all others hold what they held
abbrev pub IsSet : ℕ → SlotRow → Pages → Pages → Type 0
IsSet slot row old new =
    (n : ℕ) → row_at n new ≡ (if n == slot then Some row else row_at n old)

-- the slot is live with this row, and all others as they were
abbrev pub IsSetLive : ℕ → SlotRow → Pages → Pages → Type 0
IsSetLive slot row old new =
    (n : ℕ) → live_at n new ≡ (if n == slot then Some row else live_at n old)

-- each slot but this one holds what it held
abbrev pub KeepsOthers : ℕ → Pages → Pages → Type 0
KeepsOthers slot old new =
    (n : ℕ) → n ≢ slot → is_slot n old ≡ true → row_at n new ≡ row_at n old

-- all slots hold what they held
abbrev pub KeepsRows : Pages → Pages → Type 0
KeepsRows old new = (n : ℕ) → row_at n new ≡ row_at n old

-- no other pages than these have changed, nor whether they had, and a page that is not marked as
-- changed is as it was
pub record ChangesOnly (these : List ℕ) (old new : Pages) : Type 0 where
  pub before : new.before ≡ old.before
  pub marks : (page : ℕ) → is_among page these ≡ false
      → has_changed page new ≡ has_changed page old
  pub images : (page : ℕ) → is_among page these ≡ false → page < page_count old
      → image_of new page ≡ image_of old page
  pub unmarked : (page : ℕ) → page < page_count old → has_changed page new ≡ false
      → (has_changed page old ≡ false) × (image_of new page ≡ image_of old page)

-- the header but for its length in pages and its first free slot
abbrev pub KeepsFields : Pages → Pages → Type 0
KeepsFields old new =
    header_of new
    ≡ record (header_of old) {
      pages = (header_of new).pages;
      first_free = (header_of new).first_free;
    }

-- a slot that was not live has this row, all else of what slots hold is as it was
pub record IsTaken (slot : ℕ) (row : SlotRow) (old new : Pages) : Type 0 where
  pub fresh : is_live slot old ≡ false
  pub live : IsSetLive slot row old new
  pub others : KeepsOthers slot old new
  pub count : live_count new ≡ live_count old + 1

-- the header is changed by this, and all else is as it was
pub record SetsHeader (change : Header → Header) (old new : Pages) : Type 0 where
  pub header : header_of new ≡ change (header_of old)
  pub rows : KeepsRows old new
  pub count : live_count new ≡ live_count old
  pub pages : ChangesOnly (header_page ∷ []) old new
