-- What taking a slot and giving one back make of an arena.
use Rattle.std.proofs.Common.{◌≡◌, ◌≢◌, ◌∙◌, ◌+◌, ◌*◌, ◌^◌, ◌<◌, ◌≤◌, ◌∷◌, ◌&&◌, [], ℕ, List, ap, arith, Some, subst, sym}
use Rattle.std.proofs.Common.{true, w32, is_some, not}
use Rattle.std.specs.Int.{to_le_bytes}
use Rattle.std.specs.Option.{option_and_then}
use Rattle.pl_base.specs.declared.id.Slot.{Slot}
use Rattle.pl_sheets.specs.Sheets.{Pages, page_count, with_bytes}
use Rattle.pl_slot.specs.declared.row.SlotRow.{SlotRow}
use Rattle.pl_slot.specs.declared.row.SlotRow.TheVariants.{Free}
use Rattle.pl_slot.specs.Arena.{AreLinked, ChangesOnly, IsArena, IsLiveRow, IsSet, KeepsFields, first_in, header_of}
use Rattle.pl_slot.specs.Arena.{header_page, is_free, is_live, live_count, live_row, row_at, slot_page}
use Rattle.pl_slot.specs.Header.{Header}
use Rattle.pl_slot.proofs.ArenaLaws.{PutRow, PutWord, arena_freed, arena_taken, beside_header, free_slot, live_here}
use Rattle.pl_slot.proofs.ArenaLaws.{live_slot, live_there, one_less, one_more, row_put, then_only, word_put}
use Rattle.pl_slot.proofs.HeaderLaws.{first_free_set, keeps_fields}
use Rattle.pl_slot.proofs.RowLaws.{with_row}

-- ---- a slot is given back

pub record GivenBack (slot : ℕ) (old new : Pages) : Type 0 where
  pub arena : IsArena new
  pub rows : IsSet slot (Free (header_of old).first_free) old new
  pub header : header_of new ≡ record (header_of old) { first_free = record { 0 = slot } }
  pub count : live_count new + 1 ≡ live_count old
  pub pages : ChangesOnly (header_page ∷ slot_page slot ∷ []) old new

pub given_back : (slot first : ℕ) (old middle new : Pages) → IsArena old → is_live slot old ≡ true
    → (header_of old).first_free ≡ record { 0 = first } → first < 2 ^ 32 → slot < 2 ^ 32
    → middle ≡ with_row slot (Free (record { 0 = first })) old
    → new ≡ with_bytes header_page (8 + 4 * 5) (to_le_bytes w32 slot) middle → GivenBack slot old new
given_back slot first old middle new arena live first_is small fits put_is set_is =
    let there = live_slot slot old live in
    let row : SlotRow = Free (header_of old).first_free in
    let put : PutRow slot row old middle =
    subst (λ s. PutRow slot (Free s) old middle) (sym first_is)
    (row_put slot (Free (record { 0 = first })) old middle arena.whole there (small, tt) put_is) in
    let some : 2 ≤ page_count middle = rw put.as_many arena.some_page in
    let word : PutWord 5 slot middle new = word_put 5 slot middle new put.whole some (omega arith) fits set_is in
    let header : header_of new ≡ record (header_of middle) { first_free = record { 0 = slot } } =
    word.header ∙ first_free_set slot middle in
    let set : IsSet slot row old new = λ n. word.rows n ∙ put.rows n in
    record {
      arena =
          arena_freed slot old middle new arena live put word.whole word.as_many word.rows (ap (λ (h : Header). h.pages) header)
          (ap (λ (h : Header). h.first_free) header);
      rows = set;
      header = header ∙ ap (λ (h : Header). record h { first_free = record { 0 = slot } }) put.header;
      count =
          one_less slot old new there live (live_here slot row old new set)
          (λ n apart. live_there n slot row old new set apart) (word.as_many ∙ put.as_many);
      pages =
          then_only (slot_page slot ∷ []) (header_page ∷ []) (header_page ∷ slot_page slot ∷ []) old middle new
          (beside_header (slot_page slot)) (same_count old middle put.as_many) put.pages word.pages;
    }
  where
    same_count : (old middle : Pages) → page_count middle ≡ page_count old → page_count old ≤ page_count middle
    same_count old middle same = omega (arith, same)

-- ---- a free slot is taken

pub first_is_free : (pages : Pages) → IsArena pages → (header_of pages).first_free.0 ≢ 0
    → is_free (header_of pages).first_free.0 pages ≡ true
first_is_free pages arena some = from arena.slots.free.chain arena.slots.free.first arena.slots.free.linked
  where
    from : (chain : List ℕ) → (header_of pages).first_free ≡ first_in chain → AreLinked chain pages
        → is_free (header_of pages).first_free.0 pages ≡ true
    from [] first linked = absurd (some (ap (λ (s : Slot). s.0) first))
    from (n ∷ ns) first linked =
        ap (λ (s : Slot). is_free s.0 pages) first
        ∙ ap (λ r. is_some r && not (is_some (option_and_then live_row r))) linked.0

pub record TakenFirst (slot : ℕ) (row : SlotRow) (old new : Pages) : Type 0 where
  pub arena : IsArena new
  pub rows : IsSet slot row old new
  pub header : KeepsFields old new
  pub count : live_count new ≡ live_count old + 1
  pub pages : ChangesOnly (header_page ∷ slot_page slot ∷ []) old new

pub taken_first : (slot : ℕ) (next : Slot) (row : SlotRow) (old middle new : Pages) → IsArena old
    → (header_of old).first_free ≡ record { 0 = slot } → row_at slot old ≡ Some (Free next) → IsLiveRow row
    → next.0 < 2 ^ 32 → middle ≡ with_row slot row old
    → new ≡ with_bytes header_page (8 + 4 * 5) (to_le_bytes w32 next.0) middle → TakenFirst slot row old new
taken_first slot next row old middle new arena first_is is fits small put_is set_is =
    let there =
    free_slot slot old (ap (λ r. is_some r && not (is_some (option_and_then live_row r))) is) in
    let put : PutRow slot row old middle = row_put slot row old middle arena.whole there fits.1 put_is in
    let some : 2 ≤ page_count middle = rw put.as_many arena.some_page in
    let word : PutWord 5 next.0 middle new =
    word_put 5 next.0 middle new put.whole some (omega arith) small set_is in
    let header : header_of new ≡ record (header_of middle) { first_free = next } =
    word.header ∙ first_free_set next.0 middle in
    let set : IsSet slot row old new = λ n. word.rows n ∙ put.rows n in
    record {
      arena =
          arena_taken slot next row old middle new arena (ap (λ (s : Slot). s.0) first_is) is fits put word.whole
          word.as_many word.rows (ap (λ (h : Header). h.pages) header) (ap (λ (h : Header). h.first_free) header);
      rows = set;
      header =
          keeps_fields old new (header_of old).pages next
          (header ∙ ap (λ (h : Header). record h { first_free = next }) put.header);
      count =
          one_more slot old new there (ap (λ r. is_some (option_and_then live_row r)) is)
          (live_here slot row old new set ∙ ap is_some fits.0)
          (λ n apart. live_there n slot row old new set apart) (word.as_many ∙ put.as_many);
      pages =
          then_only (slot_page slot ∷ []) (header_page ∷ []) (header_page ∷ slot_page slot ∷ []) old middle new
          (beside_header (slot_page slot)) (same_count old middle put.as_many) put.pages word.pages;
    }
  where
    same_count : (old middle : Pages) → page_count middle ≡ page_count old → page_count old ≤ page_count middle
    same_count old middle same = omega (arith, same)
