-- Worked rows of where slots lie, and of the header.
use Rattle.std.proofs.Common.{◌≡◌, ◌+◌, ◌*◌, ◌∷◌, [], ℕ, List, refl, replicate}
use Rattle.pl_base.specs.declared.id.Slot.{Slot}
use Rattle.pl_sheets.specs.Sheets.{place_in}
use Rattle.pl_slot.specs.Arena.{slot_byte, slot_page}
use Rattle.pl_slot.specs.Header.{header_in}
use Rattle.pl_slot.specs.Slot.{four_at, laid}

abbrev slot : ℕ → Slot
slot n = record { 0 = n }

-- ---- where slots lie

first_page : slot_page 1 ≡ 2
first_page = refl

first_byte : slot_byte 1 ≡ 0
first_byte = refl

eighth_page : slot_page 8 ≡ 2
eighth_page = refl

eighth_byte : slot_byte 8 ≡ 896
eighth_byte = refl

ninth : place_in (slot_page 9) (slot_byte 9) ≡ 3_072
ninth = refl

last : place_in (slot_page 4_194_304) (slot_byte 4_194_304) + 128 ≡ 1_024 * 524_290
last = refl

-- ---- the header

-- PLSTORE1, 3 pages, day 12, the next ids 2, 3 and 7, the first free slot 5, chains, and 4 live
-- slots
abbrev header_page : List ℕ
header_page =
    laid 1_024 0
    ((0, 80 ∷ 76 ∷ 83 ∷ 84 ∷ 79 ∷ 82 ∷ 69 ∷ 49 ∷ []) ∷ four_at 8 3 ∷ four_at 12 12 ∷ four_at 16 2 ∷ four_at 20 3
    ∷ four_at 24 7 ∷ four_at 28 5 ∷ four_at 32 1 ∷ four_at 36 1 ∷ four_at 40 2 ∷ four_at 44 258 ∷ four_at 56 6
    ∷ four_at 60 8 ∷ four_at 64 4 ∷ [])

header : header_in header_page
    ≡ record {
      form = 80 ∷ 76 ∷ 83 ∷ 84 ∷ 79 ∷ 82 ∷ 69 ∷ 49 ∷ [];
      pages = 3;
      day = record { 0 = 12 };
      ids = record { page = 2; visit = 3; item = 7 };
      first_free = slot 5;
      origins = record { first = slot 1; last = slot 1 };
      places = record { first = slot 2; last = slot 258 };
      visits = record { first = slot 0; last = slot 0 };
      items = record { first = slot 6; last = slot 8 };
      live = 4;
      rest = replicate 956 0;
    }
header = refl
