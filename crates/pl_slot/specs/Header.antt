-- The header of a store's file: page 1, of which each field has its place.
use Rattle.std.specs.Prelude.{ℕ, ◌+◌, List, drop, take}
use Rattle.pl_base.specs.declared.date.Day.{Day}
use Rattle.pl_base.specs.declared.id.Ids.{Ids}
use Rattle.pl_base.specs.declared.id.Slot.{Slot}
use Rattle.pl_slot.specs.declared.kind.LiveKind.{LiveKind}
use Rattle.pl_slot.specs.declared.kind.LiveKind.TheVariants.{Origin, Place, Visit, Item}
use Rattle.pl_slot.specs.SlotReading.{four_in, slot_in}

-- the first and the last slot of a chain, 0 where it has none
pub record Ends : Type 0 where
  pub first : Slot
  pub last : Slot

-- the text that names the form, the length of the store in pages, its day and next ids, the first
-- free slot, the chains of the live slots of each kind, and how many slots are live; and the bytes
-- behind these fields
pub record Header : Type 0 where
  pub form : List ℕ
  pub pages : ℕ
  pub day : Day
  pub ids : Ids
  pub first_free : Slot
  pub origins : Ends
  pub places : Ends
  pub visits : Ends
  pub items : Ends
  pub live : ℕ
  pub rest : List ℕ

-- a chain whose ends stand here
abbrev pub ends_in : ℕ → List ℕ → Ends
ends_in at bytes = record { first = slot_in at bytes; last = slot_in (at + 4) bytes }

-- the header that the bytes of page 1 are
abbrev pub header_in : List ℕ → Header
header_in bytes =
    record {
      form = take 8 bytes;
      pages = four_in 8 bytes;
      day = record { 0 = four_in 12 bytes };
      ids = record { page = four_in 16 bytes; visit = four_in 20 bytes; item = four_in 24 bytes };
      first_free = slot_in 28 bytes;
      origins = ends_in 32 bytes;
      places = ends_in 40 bytes;
      visits = ends_in 48 bytes;
      items = ends_in 56 bytes;
      live = four_in 64 bytes;
      rest = drop 68 bytes;
    }

-- ---- the chain of a kind

-- the byte at which its ends stand
abbrev pub ends_place : LiveKind → ℕ
ends_place Origin = 32
ends_place Place = 40
ends_place Visit = 48
ends_place Item = 56

-- its ends
abbrev pub ends_of : LiveKind → Header → Ends
ends_of Origin header = header.origins
ends_of Place header = header.places
ends_of Visit header = header.visits
ends_of Item header = header.items

-- the header with other ends of it, all else as it was
abbrev pub with_ends : LiveKind → Ends → Header → Header
with_ends Origin ends header = record header { origins = ends }
with_ends Place ends header = record header { places = ends }
with_ends Visit ends header = record header { visits = ends }
with_ends Item ends header = record header { items = ends }

-- the header with another first slot of it, and with another last one
abbrev pub with_first : LiveKind → Slot → Header → Header
with_first kind slot header = with_ends kind (record (ends_of kind header) { first = slot }) header

abbrev pub with_last : LiveKind → Slot → Header → Header
with_last kind slot header = with_ends kind (record (ends_of kind header) { last = slot }) header
