-- What slots and the header hold after a row was put into a slot.
use Rattle.std.proofs.Common.{◌≡◌, ◌≢◌, ◌∙◌, ◌==◌, ◌+◌, ◌*◌, ◌<◌, ◌≤◌, ℕ, ap, arith, cond}
use Rattle.std.proofs.Common.{eq-eqb, inl, inr, length, Some, sym, true}
use Rattle.std.proofs.lemmas.Bool.{cases_Bool, cases_eq, cases_lt, ne_eqb}
use Rattle.pl_base.specs.Live.{slot_size}
use Rattle.pl_base.specs.Touched.{page_size}
use Rattle.pl_sheets.specs.Sheets.{ArePages, Pages, bytes_at, overwritten, place_in, with_bytes}
use Rattle.pl_slot.specs.declared.row.SlotRow.{SlotRow}
use Rattle.pl_slot.specs.Arena.{header_of, header_page, is_slot, row_at, slot_byte, slot_page}
use Rattle.pl_slot.specs.Header.{header_in}
use Rattle.pl_slot.specs.Slot.{IsSlotRow, slot_bytes}
use Rattle.pl_slot.specs.SlotReading.{row_of}
use Rattle.pl_slot.proofs.BytesAt.{at_place, before_place, behind_place}
use Rattle.pl_slot.proofs.RowsRead.{length-slot_bytes, row_spelled}
use Rattle.pl_slot.proofs.SlotPlaces.{count_put, held, no_slot, place_is, place_within, same_slots, slot_bounds}

-- the pages with a row put into a slot
abbrev pub with_row : ℕ → SlotRow → Pages → Pages
with_row m row pages = with_bytes (slot_page m) (slot_byte m) (slot_bytes row) pages

abbrev slot_place : ℕ → ℕ
slot_place n = place_in (slot_page n) (slot_byte n)

row_there : (m : ℕ) (row : SlotRow) (pages : Pages) → ArePages pages → is_slot m pages ≡ true → IsSlotRow row
    → row_at m (with_row m row pages) ≡ Some row
row_there m row pages are there fits =
    let long = length-slot_bytes row fits in
    let reach = place_within m pages are there in
    held m (with_row m row pages) (same_slots m pages (with_row m row pages)
    (count_put (slot_page m) (slot_byte m) (slot_bytes row) pages) ∙ there)
    ∙ ap (λ c. row_of (bytes_at (slot_place m) c (overwritten (slot_place m) (slot_bytes row) pages.bytes))) (sym long)
    ∙ ap row_of (at_place (slot_place m) (slot_bytes row) pages.bytes (omega (arith, reach)))
    ∙ row_spelled row fits

row_elsewhere : (n m : ℕ) (row : SlotRow) (pages : Pages) → ArePages pages → is_slot m pages ≡ true
    → IsSlotRow row → is_slot n pages ≡ true → n ≢ m → row_at n (with_row m row pages) ≡ row_at n pages
row_elsewhere n m row pages are at_m fits at_n apart =
    let long = length-slot_bytes row fits in
    let reach = place_within m pages are at_m in
    let some_n : 1 ≤ n = (slot_bounds n pages at_n).0 in
    let some_m : 1 ≤ m = (slot_bounds m pages at_m).0 in
    held n (with_row m row pages) (same_slots n pages (with_row m row pages)
    (count_put (slot_page m) (slot_byte m) (slot_bytes row) pages) ∙ at_n)
    ∙ ap row_of (elim (cases_lt n m) [
      | inl less ↦
          before_place (slot_place n) slot_size (slot_place m) (slot_bytes row) pages.bytes
          (omega (arith, place_is n some_n, place_is m some_m)) (omega (arith, reach))
      | inr more ↦
          behind_place (slot_place n) slot_size (slot_place m) (slot_bytes row) pages.bytes
          (past n m row some_n some_m more apart long) (omega (arith, reach))
    ])
    ∙ sym (held n pages at_n)
  where
    past : (n m : ℕ) (row : SlotRow) → 1 ≤ n → 1 ≤ m → m ≤ n → n ≢ m → length (slot_bytes row) ≡ slot_size
        → slot_place m + length (slot_bytes row) ≤ slot_place n
    past n m row some_n some_m more apart long =
        let less : m < n = elim (cases_lt m n) [ inl less ↦ less | inr other ↦ absurd (apart (omega arith)) ] in
        omega (arith, place_is n some_n, place_is m some_m)

pub row_set : (n m : ℕ) (row : SlotRow) (pages : Pages) → ArePages pages → is_slot m pages ≡ true
    → IsSlotRow row → row_at n (with_row m row pages) ≡ cond (n == m) (Some row) (row_at n pages)
row_set n m row pages are there fits = elim (cases_eq n m) [
  | inl same ↦
      ap (λ k. row_at k (with_row m row pages)) same ∙ row_there m row pages are there fits
      ∙ sym (ap (λ b. cond b (Some row) (row_at n pages)) (eq-eqb n m same))
  | inr apart ↦
      other n m row pages are there fits apart
      ∙ sym (ap (λ b. cond b (Some row) (row_at n pages)) (ne_eqb n m apart))
]
  where
    other : (n m : ℕ) (row : SlotRow) (pages : Pages) → ArePages pages → is_slot m pages ≡ true
        → IsSlotRow row → n ≢ m → row_at n (with_row m row pages) ≡ row_at n pages
    other n m row pages are there fits apart =
        let count = count_put (slot_page m) (slot_byte m) (slot_bytes row) pages in
        elim (cases_Bool (is_slot n pages)) [
          | inl at_n ↦ row_elsewhere n m row pages are there fits at_n apart
          | inr none ↦
              no_slot n (with_row m row pages) (same_slots n pages (with_row m row pages) count ∙ none)
              ∙ sym (no_slot n pages none)
        ]

-- the header lies in front of all slots
pub header_in_front : (m : ℕ) (row : SlotRow) (pages : Pages) → ArePages pages → is_slot m pages ≡ true
    → header_of (with_row m row pages) ≡ header_of pages
unfolding header_of
header_in_front m row pages are there =
    let reach = place_within m pages are there in
    ap header_in
    (before_place (page_size * header_page) page_size (slot_place m) (slot_bytes row) pages.bytes
    (omega (arith, place_is m (slot_bounds m pages there).0)) (omega (arith, reach)))
