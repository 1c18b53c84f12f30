-- What the header and slots hold after a field of the header was put.
use Rattle.std.proofs.Common.{◌≡◌, ◌≢◌, ◌∙◌, ◌+◌, ◌-◌, ◌*◌, ◌^◌, ◌<◌, ◌≤◌, ℕ, List, ap, arith, drop}
use Rattle.std.proofs.Common.{ext_get_or, get_or, inl, inr, length, length-set, map, refl, set, slice_index, sym, take, w32}
use Rattle.std.specs.Int.{from_le_bytes, to_le_bytes}
use Rattle.std.specs.List.{range_with_len}
use Rattle.std.proofs.lemmas.Bool.{cases_Bool, cases_eq, cases_lt}
use Rattle.std.proofs.lemmas.List.{get_or-set_other, get_or-set_same, length-drop, length-take-le}
use Rattle.std.proofs.lemmas.List.FromFn.{get_or-map-range_with_len, length-map-range_with_len}
use Rattle.std.proofs.lemmas.Nat.{from_le_bytes-to_le_bytes_4}
use Rattle.pl_base.specs.Live.{slot_size}
use Rattle.pl_base.specs.Touched.{page_size}
use Rattle.pl_sheets.specs.Sheets.{ArePages, Pages, bytes_at, image_of, overwritten, page_count, place_in, with_bytes}
use Rattle.pl_base.specs.declared.id.Slot.{Slot}
use Rattle.pl_slot.specs.Arena.{KeepsFields, header_of, header_page, is_slot, row_at, slot_byte, slot_page}
use Rattle.pl_slot.specs.declared.kind.LiveKind.{LiveKind}
use Rattle.pl_slot.specs.declared.kind.LiveKind.TheVariants.{Origin, Place, Visit, Item}
use Rattle.pl_slot.specs.Header.{Ends, Header, ends_of, ends_place, header_in, with_first, with_last}
use Rattle.pl_slot.specs.SlotReading.{four_in, row_of}
use Rattle.pl_slot.proofs.BytesAt.{around_place, at_place, before_place, behind_place, drop_behind}
use Rattle.pl_slot.proofs.SlotPlaces.{count_put, held, no_slot, place_is, same_slots, slot_bounds}

-- ---- the numbers of 4 bytes from byte 8 on

abbrev pub word_count : ℕ
word_count = 15

abbrev pub words : List ℕ → List ℕ
words page = map (λ k. four_in (8 + 4 * k) page) (range_with_len 0 word_count)

four_is : (at : ℕ) (page : List ℕ) → four_in at page ≡ from_le_bytes w32 (bytes_at at 4 page)
four_is at page =
    let size : at + 4 - at ≡ 4 = omega arith in
    ap (λ n. from_le_bytes w32 (take n (drop at page))) size

word_at : (k : ℕ) (page : List ℕ) → k < word_count → get_or (words page) k 0 ≡ four_in (8 + 4 * k) page
word_at k page below =
    get_or-map-range_with_len (λ k. four_in (8 + 4 * k) page) 0 word_count k k 0 below (omega arith)

length-words : (page : List ℕ) → length (words page) ≡ word_count
length-words page = length-map-range_with_len (λ k. four_in (8 + 4 * k) page) 0 word_count

words_put : (k v : ℕ) (page : List ℕ) → k < word_count → v < 2 ^ 32 → length page ≡ page_size
    → words (overwritten (8 + 4 * k) (to_le_bytes w32 v) page) ≡ set (words page) k v
words_put k v page there fits long =
    ext_get_or 0 (words (overwritten (8 + 4 * k) (to_le_bytes w32 v) page)) (set (words page) k v)
    (length-words (overwritten (8 + 4 * k) (to_le_bytes w32 v) page)
    ∙ sym (length-set (words page) k v ∙ length-words page))
    (λ j within. each j (rw length-words at within))
  where
    elsewhere : (j : ℕ) → j ≢ k → j < word_count
        → bytes_at (8 + 4 * j) 4 (overwritten (8 + 4 * k) (to_le_bytes w32 v) page) ≡ bytes_at (8 + 4 * j) 4 page
    elsewhere j apart below = elim (cases_lt j k) [
      | inl less ↦ before_place (8 + 4 * j) 4 (8 + 4 * k) (to_le_bytes w32 v) page (omega arith) (omega arith)
      | inr more ↦
          let past : k < j = elim (cases_lt k j) [ inl past ↦ past | inr other ↦ absurd (apart (omega arith)) ] in
          behind_place (8 + 4 * j) 4 (8 + 4 * k) (to_le_bytes w32 v) page (omega arith) (omega arith)
    ]

    each : (j : ℕ) → j < word_count
        → get_or (words (overwritten (8 + 4 * k) (to_le_bytes w32 v) page)) j 0 ≡ get_or (set (words page) k v) j 0
    each j below = elim (cases_eq j k) [
      | inl same ↦
          word_at j (overwritten (8 + 4 * k) (to_le_bytes w32 v) page) below
          ∙ ap (λ i. four_in (8 + 4 * i) (overwritten (8 + 4 * k) (to_le_bytes w32 v) page)) same
          ∙ four_is (8 + 4 * k) (overwritten (8 + 4 * k) (to_le_bytes w32 v) page)
          ∙ ap (from_le_bytes w32) (at_place (8 + 4 * k) (to_le_bytes w32 v) page (omega arith))
          ∙ from_le_bytes-to_le_bytes_4 v fits
          ∙ sym (ap (λ i. get_or (set (words page) k v) i 0) same
          ∙ get_or-set_same (words page) k v 0 (omega (arith, length-words page)))
      | inr apart ↦
          word_at j (overwritten (8 + 4 * k) (to_le_bytes w32 v) page) below
          ∙ four_is (8 + 4 * j) (overwritten (8 + 4 * k) (to_le_bytes w32 v) page)
          ∙ ap (from_le_bytes w32) (elsewhere j apart below)
          ∙ sym (get_or-set_other (words page) k j v 0 apart ∙ word_at j page below ∙ four_is (8 + 4 * j) page)
    ]

-- ---- the header of these numbers

abbrev ends_from : List ℕ → ℕ → Ends
ends_from ws k = record { first = record { 0 = slice_index ws k }; last = record { 0 = slice_index ws (k + 1) } }

abbrev pub header_from : List ℕ → List ℕ → List ℕ → Header
header_from form ws rest =
    record {
      form = form;
      pages = slice_index ws 0;
      day = record { 0 = slice_index ws 1 };
      ids = record { page = slice_index ws 2; visit = slice_index ws 3; item = slice_index ws 4 };
      first_free = record { 0 = slice_index ws 5 };
      origins = ends_from ws 6;
      places = ends_from ws 8;
      visits = ends_from ws 10;
      items = ends_from ws 12;
      live = slice_index ws 14;
      rest = rest;
    }

from_words : (page : List ℕ) → header_in page ≡ header_from (take 8 page) (words page) (drop 68 page)
from_words page = refl

abbrev page_one : Pages → List ℕ
page_one pages = (image_of pages header_page).image

-- the header with another number in one of these places
abbrev pub with_word : ℕ → ℕ → Pages → Header
with_word k v pages =
    header_from (take 8 (page_one pages)) (set (words (page_one pages)) k v) (drop 68 (page_one pages))

header_put : (k v : ℕ) (page : List ℕ) → k < word_count → v < 2 ^ 32 → length page ≡ page_size
    → header_in (overwritten (8 + 4 * k) (to_le_bytes w32 v) page)
    ≡ header_from (take 8 page) (set (words page) k v) (drop 68 page)
header_put k v page there fits long =
    let new : List ℕ = overwritten (8 + 4 * k) (to_le_bytes w32 v) page in
    let front : take 8 new ≡ take 8 page =
    before_place 0 8 (8 + 4 * k) (to_le_bytes w32 v) page (omega arith) (omega arith) in
    let back : drop 68 new ≡ drop 68 page =
    drop_behind 68 (8 + 4 * k) (to_le_bytes w32 v) page (omega arith) (omega arith) in
    let middle = words_put k v page there fits long in
    from_words new ∙ (λ i. header_from (front i) (middle i) (back i))

length-page_one : (pages : Pages) → ArePages pages → 2 ≤ page_count pages → length (page_one pages) ≡ page_size
length-page_one pages are some =
    let whole : length pages.bytes ≡ page_size * page_count pages = are.whole in
    length-take-le page_size (drop page_size pages.bytes) (omega (arith, length-drop page_size pages.bytes))

pub word_set : (k v : ℕ) (pages : Pages) → ArePages pages → 2 ≤ page_count pages → k < word_count → v < 2 ^ 32
    → header_of (with_bytes header_page (8 + 4 * k) (to_le_bytes w32 v) pages) ≡ with_word k v pages
unfolding header_of
word_set k v pages are some there fits =
    let whole : length pages.bytes ≡ page_size * page_count pages = are.whole in
    ap header_in (around_place page_size page_size (8 + 4 * k) (to_le_bytes w32 v) pages.bytes (omega arith) (omega arith))
    ∙ header_put k v (page_one pages) there fits (length-page_one pages are some)

pub told_header : (pages : Pages) → header_of pages ≡ header_in (page_one pages)
unfolding header_of
told_header pages = refl

-- ---- slots lie behind the header

pub rows_behind : (n at : ℕ) (new : List ℕ) (pages : Pages) → ArePages pages → 2 ≤ page_count pages
    → at + length new ≤ page_size → row_at n (with_bytes header_page at new pages) ≡ row_at n pages
rows_behind n at new pages are some within =
    let whole : length pages.bytes ≡ page_size * page_count pages = are.whole in
    let count = count_put header_page at new pages in
    let same = same_slots n pages (with_bytes header_page at new pages) count in
    elim (cases_Bool (is_slot n pages)) [
      | inl there ↦
          held n (with_bytes header_page at new pages) (same ∙ there)
          ∙ ap row_of
          (behind_place (place_in (slot_page n) (slot_byte n)) slot_size (place_in header_page at) new pages.bytes
          (omega (arith, place_is n (slot_bounds n pages there).0)) (omega arith))
          ∙ sym (held n pages there)
      | inr none ↦
          no_slot n (with_bytes header_page at new pages) (same ∙ none) ∙ sym (no_slot n pages none)
    ]

-- ---- fields

pub first_free_told : (n : ℕ) (pages : Pages) → n ≡ four_in 28 (image_of pages header_page).image
    → (header_of pages).first_free ≡ record { 0 = n }
unfolding header_of
first_free_told n pages told = ap (λ k. record { 0 = k }) (sym told)

pub pages_set : (v : ℕ) (pages : Pages) → with_word 0 v pages ≡ record (header_of pages) { pages = v }
unfolding header_of
pages_set v pages = refl

pub day_set : (v : ℕ) (pages : Pages) → with_word 1 v pages ≡ record (header_of pages) { day = record { 0 = v } }
unfolding header_of
day_set v pages = refl

pub page_id_set : (v : ℕ) (pages : Pages)
    → with_word 2 v pages ≡ record (header_of pages) { ids = record (header_of pages).ids { page = v } }
unfolding header_of
page_id_set v pages = refl

pub visit_id_set : (v : ℕ) (pages : Pages)
    → with_word 3 v pages ≡ record (header_of pages) { ids = record (header_of pages).ids { visit = v } }
unfolding header_of
visit_id_set v pages = refl

pub item_id_set : (v : ℕ) (pages : Pages)
    → with_word 4 v pages ≡ record (header_of pages) { ids = record (header_of pages).ids { item = v } }
unfolding header_of
item_id_set v pages = refl

pub first_free_set : (v : ℕ) (pages : Pages)
    → with_word 5 v pages ≡ record (header_of pages) { first_free = record { 0 = v } }
unfolding header_of
first_free_set v pages = refl

pub live_set : (v : ℕ) (pages : Pages) → with_word 14 v pages ≡ record (header_of pages) { live = v }
unfolding header_of
live_set v pages = refl

-- all but the length and the first free slot are kept
pub keeps_fields : (old new : Pages) (pages : ℕ) (first : Slot)
    → header_of new ≡ record (header_of old) { pages = pages; first_free = first } → KeepsFields old new
keeps_fields old new pages first is =
    is ∙ sym (λ i. record (header_of old) { pages = (is i).pages; first_free = (is i).first_free })

-- ---- what is read of the header

pub told_of : {X : Type 0} (field : Header → X) (x : X) (pages now : Pages)
    → x ≡ field (header_in (image_of pages header_page).image) → pages ≡ now → x ≡ field (header_of now)
unfolding header_of
told_of field x pages now read is = read ∙ ap (λ (p : Pages). field (header_of p)) is

pub first_told : (kind : LiveKind) (at n : ℕ) (pages now : Pages) → at ≡ ends_place kind
    → n ≡ four_in at (image_of pages header_page).image → pages ≡ now
    → record { 0 = n } ≡ (ends_of kind (header_of now)).first
first_told kind at n pages now place read is =
    told_of (λ (h : Header). (ends_of kind h).first) (record { 0 = n }) pages now
    (each kind at n (image_of pages header_page).image place read) is
  where
    each : (kind : LiveKind) (at n : ℕ) (page : List ℕ) → at ≡ ends_place kind → n ≡ four_in at page
        → record { 0 = n } ≡ (ends_of kind (header_in page)).first
    each Origin at n page place read = λ i. record { 0 = (read ∙ ap (λ k. four_in k page) place) i }
    each Place at n page place read = λ i. record { 0 = (read ∙ ap (λ k. four_in k page) place) i }
    each Visit at n page place read = λ i. record { 0 = (read ∙ ap (λ k. four_in k page) place) i }
    each Item at n page place read = λ i. record { 0 = (read ∙ ap (λ k. four_in k page) place) i }

pub last_told : (kind : LiveKind) (at n : ℕ) (pages now : Pages) → at ≡ ends_place kind
    → n ≡ four_in (at + 4) (image_of pages header_page).image → pages ≡ now
    → record { 0 = n } ≡ (ends_of kind (header_of now)).last
last_told kind at n pages now place read is =
    told_of (λ (h : Header). (ends_of kind h).last) (record { 0 = n }) pages now
    (each kind at n (image_of pages header_page).image place read) is
  where
    each : (kind : LiveKind) (at n : ℕ) (page : List ℕ) → at ≡ ends_place kind → n ≡ four_in (at + 4) page
        → record { 0 = n } ≡ (ends_of kind (header_in page)).last
    each Origin at n page place read = λ i. record { 0 = (read ∙ ap (λ k. four_in (k + 4) page) place) i }
    each Place at n page place read = λ i. record { 0 = (read ∙ ap (λ k. four_in (k + 4) page) place) i }
    each Visit at n page place read = λ i. record { 0 = (read ∙ ap (λ k. four_in (k + 4) page) place) i }
    each Item at n page place read = λ i. record { 0 = (read ∙ ap (λ k. four_in (k + 4) page) place) i }

-- ---- the ends of chains

abbrev pub first_word : LiveKind → ℕ
first_word Origin = 6
first_word Place = 8
first_word Visit = 10
first_word Item = 12

pub first_place : (kind : LiveKind) → ends_place kind ≡ 8 + 4 * first_word kind
first_place Origin = refl
first_place Place = refl
first_place Visit = refl
first_place Item = refl

pub word_below : (kind : LiveKind) → first_word kind + 1 < word_count
word_below Origin = omega arith
word_below Place = omega arith
word_below Visit = omega arith
word_below Item = omega arith

pub first_set : (kind : LiveKind) (v : ℕ) (pages : Pages)
    → with_word (first_word kind) v pages ≡ with_first kind (record { 0 = v }) (header_of pages)
unfolding header_of
first_set Origin v pages = refl
first_set Place v pages = refl
first_set Visit v pages = refl
first_set Item v pages = refl

pub last_set : (kind : LiveKind) (v : ℕ) (pages : Pages)
    → with_word (first_word kind + 1) v pages ≡ with_last kind (record { 0 = v }) (header_of pages)
unfolding header_of
last_set Origin v pages = refl
last_set Place v pages = refl
last_set Visit v pages = refl
last_set Item v pages = refl

-- neither changes the length or the first free slot
pub first_keeps : (kind : LiveKind) (slot : Slot) (h : Header)
    → ((with_first kind slot h).pages ≡ h.pages) × ((with_first kind slot h).first_free ≡ h.first_free)
first_keeps Origin slot h = (refl, refl)
first_keeps Place slot h = (refl, refl)
first_keeps Visit slot h = (refl, refl)
first_keeps Item slot h = (refl, refl)

pub last_keeps : (kind : LiveKind) (slot : Slot) (h : Header)
    → ((with_last kind slot h).pages ≡ h.pages) × ((with_last kind slot h).first_free ≡ h.first_free)
last_keeps Origin slot h = (refl, refl)
last_keeps Place slot h = (refl, refl)
last_keeps Visit slot h = (refl, refl)
last_keeps Item slot h = (refl, refl)
