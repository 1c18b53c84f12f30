-- How a page of free slots is added.
use Rattle.std.specs.Prelude.{◌≡◌, ◌≢◌, ℕ, ◌+◌, ◌-◌, ◌*◌, ◌≤◌, ◌&&◌, true, [], ◌∷◌, nat_le, nat_lt}
use Rattle.std.specs.Prelude.{Some, if◌then◌else◌}
use Rattle.pl_base.specs.Live.{slot_limit}
use Rattle.pl_sheets.specs.Sheets.{ArePages, Pages, page_count}
use Rattle.pl_slot.specs.declared.row.SlotRow.TheVariants.{Free}
use Rattle.pl_slot.specs.Arena.{ChangesOnly, KeepsFields, header_of, header_page, is_slot, live_at}
use Rattle.pl_slot.specs.Arena.{live_count, row_at, slot_count, slot_page, slots_a_page}

-- a slot is free, and all live slots are as they were
pub record MakesFree (old new : Pages) : Type 0 where
  pub free : (header_of new).first_free.0 ≢ 0
  pub live : (n : ℕ) → live_at n new ≡ live_at n old
  pub rows : (n : ℕ) → is_slot n old ≡ true → row_at n new ≡ row_at n old
  pub still : (n : ℕ) → is_slot n old ≡ true → is_slot n new ≡ true
  pub count : live_count new ≡ live_count old
  pub header : KeepsFields old new
  pub pages : ChangesOnly (header_page ∷ slot_page (header_of new).first_free.0 ∷ []) old new
  pub longer : page_count old ≤ page_count new

-- this slot is the first of the last page
pub record IsGrown (first : ℕ) (pages : Pages) : Type 0 where
  pub whole : ArePages pages
  pub some_slot : 3 ≤ page_count pages
  pub few : slot_count pages ≤ slot_limit
  pub starts : first ≡ slots_a_page * (page_count pages - 3) + 1

-- so many slots from this one on are free, each with a link to the one behind it, all else is as it
-- was
pub record IsLinked (count first : ℕ) (old new : Pages) : Type 0 where
  pub whole : ArePages new
  pub rows : (n : ℕ) → row_at n new
      ≡ (if nat_le first n && nat_lt n (first + count) then Some (Free (record { 0 = n + 1 }))
      else row_at n old)
  pub header : header_of new ≡ header_of old
  pub as_many : page_count new ≡ page_count old
  pub pages : ChangesOnly ((page_count old - 1) ∷ []) old new
