-- Texts of 0, 120 and 121 bytes, and the bytes of the slots that hold them.
use Rattle.std.proofs.Common.{◌≡◌, ◌-◌, ◌*◌, ◌∷◌, ◌++◌, [], ℕ, List, false, length, lit≤, refl, replicate}
use Rattle.pl_base.specs.Touched.{page_size}
use Rattle.pl_sheets.specs.Sheets.{Pages}
use Rattle.pl_slot.specs.Arena.{row_at}
use Rattle.pl_slot.specs.SlotReading.{row_of}
use Rattle.pl_text.specs.Chunks.{chunk_count, Hold}

-- a page of slots that begins with these bytes
in_slots : List ℕ → Pages
in_slots bytes =
    record {
      bytes = replicate (2 * page_size) 0 ++ bytes ++ replicate (page_size - length bytes) 0;
      changed = false ∷ false ∷ false ∷ [];
      before = 3;
    }

-- none has no slot, also where the slots are free
nothing : Hold [] [] (in_slots [])
nothing = refl

-- 120 bytes have one: kind 5, all 120 bytes used, none behind
full : List ℕ
full = replicate 120 97

in_one : Pages
in_one = in_slots (5 ∷ 120 ∷ 0 ∷ 0 ∷ 0 ∷ 0 ∷ 0 ∷ 0 ∷ full)

fills_one : Hold (1 ∷ []) full in_one
unfolding in_slots full in_one row_at row_of
fills_one = (lit≤ tt, refl, refl)

-- 121 bytes have two, here slot 2 and behind it slot 1, which has one byte and 0 behind it
in_two : Pages
in_two =
    in_slots
    ((5 ∷ 1 ∷ 0 ∷ 0 ∷ 0 ∷ 0 ∷ 0 ∷ 0 ∷ 98 ∷ replicate 119 0)
    ++ (5 ∷ 120 ∷ 0 ∷ 0 ∷ 1 ∷ 0 ∷ 0 ∷ 0 ∷ full))

takes_two : Hold (2 ∷ 1 ∷ []) (full ++ 98 ∷ []) in_two
unfolding in_slots full in_two row_at row_of
takes_two = (lit≤ tt, refl, (lit≤ tt, refl, refl))

counts : (chunk_count 0 ≡ 0) × (chunk_count 120 ≡ 1) × (chunk_count 121 ≡ 2) × (chunk_count 65_536 ≡ 547)
counts = (refl, refl, refl, refl)
