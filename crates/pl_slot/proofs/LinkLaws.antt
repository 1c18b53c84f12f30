-- What a link that is read gives, and what one that is set leaves of an arena.
use Rattle.std.proofs.Common.{◌≡◌, ◌≢◌, ◌∙◌, ◌==◌, ◌+◌, ◌-◌, ◌*◌, ◌^◌, ◌<◌, ◌≤◌, ◌&&◌, ◌⊎◌, ℕ, List, Bool, ap, arith, cond, drop, take}
use Rattle.std.proofs.Common.{eq-eqb, false, inl, inr, IsSome, is_some, length, None, Option, refl, Some, subst, sym, true, w32}
use Rattle.std.specs.Int.{from_le_bytes, to_le_bytes}
use Rattle.std.specs.Option.{IfSome, option_and_then, option_map}
use Rattle.std.proofs.lemmas.Bool.{and_parts, cases_Bool, cases_eq, cases_lt, ne_eqb, true≢false}
use Rattle.std.proofs.lemmas.Option.{MatchOption-at_some}
use Rattle.std.proofs.lemmas.Nat.{from_le_bytes-to_le_bytes_4}
use Rattle.pl_base.specs.declared.id.Slot.{Slot}
use Rattle.pl_base.specs.Live.{slot_size}
use Rattle.pl_base.specs.Touched.{page_size}
use Rattle.pl_sheets.specs.Sheets.{ArePages, Pages, bytes_at, overwritten, place_in, with_bytes}
use Rattle.pl_slot.specs.declared.kind.SlotKind.{SlotKind}
use Rattle.pl_slot.specs.declared.kind.SlotKind.TheVariants as kinds
use Rattle.pl_slot.specs.declared.links.Link.{Link}
use Rattle.pl_slot.specs.declared.links.Rail.{Rail}
use Rattle.pl_slot.specs.declared.row.SlotRow.{SlotRow}
use Rattle.pl_slot.specs.declared.row.SlotRow.TheVariants.{Free, Origin, Place, Visit, Item, Text}
use Rattle.pl_slot.specs.Arena.{IsArena, header_of, header_page, is_live, is_slot, live_row, row_at, slot_byte, slot_page}
use Rattle.pl_slot.specs.Header.{header_in}
use Rattle.pl_slot.specs.Links.{SetsLink, is_link, is_rail, kind_at, link_at, link_in, link_place, other_fields, others_at}
use Rattle.pl_slot.specs.Slot.{IsSlotRow, slot_bytes, slot_kind}
use Rattle.pl_slot.specs.SlotReading.{row_in, row_of, slot_in}
use Rattle.pl_slot.proofs.ArenaLaws.{PutRow, arena_written, row_elsewhere, row_here, same_written}
use Rattle.pl_slot.proofs.BytesAt.{around_place, at_place, before_place, behind_place, part_of_part}
use Rattle.pl_slot.proofs.FitsLaws.{free_has, row_fits}
use Rattle.pl_slot.proofs.LinkPlaces.{places_apart, same_link, same_rail}
use Rattle.pl_slot.proofs.LinkRows.{SetRow, set_row}
use Rattle.pl_slot.proofs.RowsRead.{length-slot_bytes, row_bytes, row_spelled}
use Rattle.pl_slot.proofs.SlotPlaces.{count_put, held, inside_page, no_slot, page_there, place_is, place_within, put_are, put_only, row_slot, same_slots, slot_bounds}

-- ---- the row that a slot holds

-- a slot that holds a row is one
pub holds_slot : (n : ℕ) (row : SlotRow) (pages : Pages) → row_at n pages ≡ Some row → is_slot n pages ≡ true
holds_slot n row pages is = row_slot n pages (ap is_some is)

abbrev slot_place : ℕ → ℕ
slot_place n = place_in (slot_page n) (slot_byte n)

abbrev held_in : ℕ → Pages → List ℕ
held_in n pages = bytes_at (slot_place n) slot_size pages.bytes

held_row : (n : ℕ) (row : SlotRow) (pages : Pages) → row_at n pages ≡ Some row
    → (held_in n pages ≡ slot_bytes row) × (row_in (held_in n pages) ≡ Some row)
held_row n row pages is =
    row_bytes (held_in n pages) row (sym (held n pages (holds_slot n row pages is)) ∙ is)

pub held_bytes : (n : ℕ) (row : SlotRow) (pages : Pages) → row_at n pages ≡ Some row
    → bytes_at (slot_place n) slot_size pages.bytes ≡ slot_bytes row
held_bytes n row pages is = (held_row n row pages is).0

pub held_fits : (rail : Rail) (link : Link) (n : ℕ) (row : SlotRow) (pages : Pages) → row_at n pages ≡ Some row
    → is_some (link_place rail link (slot_kind row)) ≡ true → IsSlotRow row
held_fits rail link n row pages is has =
    let both = held_row n row pages is in
    row_fits rail link row has (sym (ap row_in both.0) ∙ both.1)

-- ---- a link that is read

-- a slot with a link holds a row that has it
pub record HasLink (rail : Rail) (link : Link) (n : ℕ) (pages : Pages) : Type 0 where
  pub row : SlotRow
  pub is : row_at n pages ≡ Some row
  pub place : ℕ
  pub is_place : link_place rail link (slot_kind row) ≡ Some place

pub has_link : (rail : Rail) (link : Link) (n : ℕ) (pages : Pages) → IsSome (link_at rail link n pages)
    → HasLink rail link n pages
unfolding link_at
has_link rail link n pages some = of_row (row_at n pages) refl some
  where
    of_place : (row : SlotRow) (place : Option ℕ) → row_at n pages ≡ Some row
        → link_place rail link (slot_kind row) ≡ place
        → IsSome (option_map (λ at. slot_in at (slot_bytes row)) place) → HasLink rail link n pages
    of_place row None is place_is some = absurd (true≢false (sym some))
    of_place row (Some at) is place_is some = record { row = row; is = is; place = at; is_place = place_is }

    of_row : (held : Option SlotRow) → row_at n pages ≡ held → IsSome (option_and_then (link_in rail link) held)
        → HasLink rail link n pages
    of_row None is some = absurd (true≢false (sym some))
    of_row (Some row) is some = of_place row (link_place rail link (slot_kind row)) is refl some

pub link_is : (rail : Rail) (link : Link) (n : ℕ) (pages : Pages) (has : HasLink rail link n pages)
    → link_at rail link n pages ≡ Some (slot_in has.place (slot_bytes has.row))
unfolding link_at
link_is rail link n pages has =
    ap (option_and_then (link_in rail link)) has.is
    ∙ ap (option_map (λ at. slot_in at (slot_bytes has.row))) has.is_place

-- the number of 4 bytes within those of a slot
pub four_there : (n at : ℕ) (row : SlotRow) (pages : Pages) → row_at n pages ≡ Some row → at + 4 ≤ slot_size
    → from_le_bytes w32 (bytes_at (place_in (slot_page n) (slot_byte n + at)) 4 pages.bytes)
    ≡ (slot_in at (slot_bytes row)).0
four_there n at row pages is within =
    let size : at + 4 - at ≡ 4 = omega arith in
    let where_is : place_in (slot_page n) (slot_byte n + at) ≡ slot_place n + at = omega arith in
    ap (λ q. from_le_bytes w32 (bytes_at q 4 pages.bytes)) where_is
    ∙ ap (from_le_bytes w32) (sym (part_of_part at 4 (slot_place n) slot_size pages.bytes within))
    ∙ ap (λ l. from_le_bytes w32 (bytes_at at 4 l)) (held_bytes n row pages is)
    ∙ ap (λ k. from_le_bytes w32 (take k (drop at (slot_bytes row)))) (sym size)

-- ---- a link that is set

abbrev with_four : ℕ → ℕ → Slot → Pages → Pages
with_four n at to pages = with_bytes (slot_page n) (slot_byte n + at) (to_le_bytes w32 to.0) pages

-- what a slot holds, by its bytes
row_there : (n at : ℕ) (to : Slot) (old : SlotRow) (row : SlotRow) (pages : Pages) → ArePages pages
    → row_at n pages ≡ Some old → at + 4 ≤ slot_size → IsSlotRow row
    → slot_bytes row ≡ overwritten at (to_le_bytes w32 to.0) (slot_bytes old)
    → row_at n (with_four n at to pages) ≡ Some row
row_there n at to old row pages are is within fits bytes =
    let there = holds_slot n old pages is in
    let reach = place_within n pages are there in
    let four : List ℕ = to_le_bytes w32 to.0 in
    let where_is : place_in (slot_page n) (slot_byte n + at) ≡ slot_place n + at = omega arith in
    held n (with_four n at to pages)
    (same_slots n pages (with_four n at to pages) (count_put (slot_page n) (slot_byte n + at) four pages) ∙ there)
    ∙ ap (λ q. row_of (bytes_at (slot_place n) slot_size (overwritten q four pages.bytes))) where_is
    ∙ ap row_of (around_place (slot_place n) slot_size at four pages.bytes (omega arith) (omega (arith, reach)))
    ∙ ap (λ l. row_of (overwritten at four l)) (held_bytes n old pages is)
    ∙ ap row_of (sym bytes)
    ∙ row_spelled row fits

row_beside : (m n at : ℕ) (to : Slot) (pages : Pages) → ArePages pages → is_slot n pages ≡ true → at + 4 ≤ slot_size
    → m ≢ n → row_at m (with_four n at to pages) ≡ row_at m pages
row_beside m n at to pages are there within apart =
    let four : List ℕ = to_le_bytes w32 to.0 in
    let count = count_put (slot_page n) (slot_byte n + at) four pages in
    let same = same_slots m pages (with_four n at to pages) count in
    let reach = place_within n pages are there in
    elim (cases_Bool (is_slot m pages)) [
      | inl at_m ↦
          held m (with_four n at to pages) (same ∙ at_m)
          ∙ ap row_of (elim (cases_lt m n) [
            | inl less ↦
                before_place (slot_place m) slot_size (place_in (slot_page n) (slot_byte n + at)) four pages.bytes
                (omega (arith, place_is m (slot_bounds m pages at_m).0, place_is n (slot_bounds n pages there).0))
                (omega (arith, reach))
            | inr more ↦
                behind_place (slot_place m) slot_size (place_in (slot_page n) (slot_byte n + at)) four pages.bytes
                (past m n at to (slot_bounds m pages at_m).0 (slot_bounds n pages there).0 more apart within)
                (omega (arith, reach))
          ])
          ∙ sym (held m pages at_m)
      | inr none ↦ no_slot m (with_four n at to pages) (same ∙ none) ∙ sym (no_slot m pages none)
    ]
  where
    past : (m n at : ℕ) (to : Slot) → 1 ≤ m → 1 ≤ n → n ≤ m → m ≢ n → at + 4 ≤ slot_size
        → place_in (slot_page n) (slot_byte n + at) + length (to_le_bytes w32 to.0) ≤ slot_place m
    past m n at to some_m some_n more apart within =
        let less : n < m = elim (cases_lt n m) [ inl less ↦ less | inr other ↦ absurd (apart (omega arith)) ] in
        omega (arith, place_is m some_m, place_is n some_n)

header_kept : (n at : ℕ) (to : Slot) (pages : Pages) → ArePages pages → is_slot n pages ≡ true → at + 4 ≤ slot_size
    → header_of (with_four n at to pages) ≡ header_of pages
unfolding header_of
header_kept n at to pages are there within =
    let reach = place_within n pages are there in
    ap header_in
    (before_place (page_size * header_page) page_size (place_in (slot_page n) (slot_byte n + at)) (to_le_bytes w32 to.0)
    pages.bytes (omega (arith, place_is n (slot_bounds n pages there).0)) (omega (arith, reach)))

four_put : (n at : ℕ) (to : Slot) (old row : SlotRow) (pages new : Pages) → ArePages pages → row_at n pages ≡ Some old
    → at + 4 ≤ slot_size → IsSlotRow row → slot_bytes row ≡ overwritten at (to_le_bytes w32 to.0) (slot_bytes old)
    → new ≡ with_four n at to pages → PutRow n row pages new
four_put n at to old row pages new are is within fits bytes is_new =
    let there = holds_slot n old pages is in
    let four : List ℕ = to_le_bytes w32 to.0 in
    let page = page_there n pages there in
    let reach : slot_byte n + at + length four ≤ page_size = omega (arith, inside_page n) in
    let made : PutRow n row pages (with_four n at to pages) = record {
      whole = put_are (slot_page n) (slot_byte n + at) four pages are (some n) page reach;
      as_many = count_put (slot_page n) (slot_byte n + at) four pages;
      rows = λ m. elim (cases_eq m n) [
        | inl same ↦
            ap (λ k. row_at k (with_four n at to pages)) same ∙ row_there n at to old row pages are is within fits bytes
            ∙ sym (ap (λ b. cond b (Some row) (row_at m pages)) (eq-eqb m n same))
        | inr apart ↦
            row_beside m n at to pages are there within apart
            ∙ sym (ap (λ b. cond b (Some row) (row_at m pages)) (ne_eqb m n apart))
      ];
      header = header_kept n at to pages are there within;
      pages = put_only (slot_page n) (slot_byte n + at) four pages are page reach;
    } in
    subst (PutRow n row pages) (sym is_new) made
  where
    some : (slot : ℕ) → 1 ≤ slot_page slot
    some slot = omega arith

-- ---- what links name then

abbrev numbered : ℕ → Slot
numbered n = record { 0 = n }

-- the number that was put
named_here : (at : ℕ) (to : Slot) (bytes : List ℕ) → at + 4 ≤ length bytes → to.0 < 2 ^ 32
    → slot_in at (overwritten at (to_le_bytes w32 to.0) bytes) ≡ to
named_here at to bytes within small =
    let size : at + 4 - at ≡ 4 = omega arith in
    ap numbered
    (ap (λ k. from_le_bytes w32 (take k (drop at (overwritten at (to_le_bytes w32 to.0) bytes)))) size
    ∙ ap (from_le_bytes w32) (at_place at (to_le_bytes w32 to.0) bytes (omega arith))
    ∙ from_le_bytes-to_le_bytes_4 to.0 small)

-- a number beside it
named_beside : (at place : ℕ) (to : Slot) (bytes : List ℕ) → place + 4 ≤ length bytes
    → (place + 4 ≤ at) ⊎ (at + 4 ≤ place) → slot_in at (overwritten place (to_le_bytes w32 to.0) bytes) ≡ slot_in at bytes
named_beside at place to bytes within apart =
    let size : at + 4 - at ≡ 4 = omega arith in
    ap numbered
    (ap (λ k. from_le_bytes w32 (take k (drop at (overwritten place (to_le_bytes w32 to.0) bytes)))) size
    ∙ ap (from_le_bytes w32) (elim apart [
      | inl behind ↦ behind_place at 4 place (to_le_bytes w32 to.0) bytes (omega arith) (omega arith)
      | inr before ↦ before_place at 4 place (to_le_bytes w32 to.0) bytes before (omega arith)
    ])
    ∙ ap (λ k. from_le_bytes w32 (take k (drop at bytes))) (sym size))

-- links of the row in which one was set
links_then : (rail : Rail) (link : Link) (r : Rail) (l : Link) (to : Slot) (old : SlotRow) (made : SetRow rail link old to)
    → IsSlotRow old → made.place + 4 ≤ slot_size → to.0 < 2 ^ 32
    → link_in r l made.row ≡ cond (is_link l link && is_rail r rail) (Some to) (link_in r l old)
links_then rail link r l to old made fits within small = elim (cases_Bool (is_link l link && is_rail r rail)) [
  | inl same ↦
      let parts = and_parts (is_link l link) (is_rail r rail) same in
      let found_place : link_place r l (slot_kind old) ≡ Some made.place =
      (λ i. link_place (same_rail r rail parts.1 i) (same_link l link parts.0 i) (slot_kind old)) ∙ made.is_place in
      ap (λ k. option_map (λ place. slot_in place (slot_bytes made.row)) (link_place r l k)) made.kind
      ∙ ap (option_map (λ place. slot_in place (slot_bytes made.row))) found_place
      ∙ ap (λ bytes. Some (slot_in made.place bytes)) made.bytes
      ∙ ap Some (named_here made.place to (slot_bytes old) (omega (arith, long)) small)
      ∙ sym (ap (λ b. cond b (Some to) (link_in r l old)) same)
  | inr other ↦
      ap (λ k. option_map (λ place. slot_in place (slot_bytes made.row)) (link_place r l k)) made.kind
      ∙ beside (link_place r l (slot_kind old)) refl (swapped (is_link l link) (is_rail r rail) other)
      ∙ sym (ap (λ b. cond b (Some to) (link_in r l old)) other)
]
  where
    long : length (slot_bytes old) ≡ slot_size
    long = length-slot_bytes old fits

    swapped : (a b : Bool) → (a && b) ≡ false → (b && a) ≡ false
    swapped true true is = is
    swapped true false is = refl
    swapped false true is = refl
    swapped false false is = refl

    beside : (at : Option ℕ) → link_place r l (slot_kind old) ≡ at → (is_rail r rail && is_link l link) ≡ false
        → option_map (λ place. slot_in place (slot_bytes made.row)) at
        ≡ option_map (λ place. slot_in place (slot_bytes old)) at
    beside None is other = refl
    beside (Some at) is other =
        ap (λ bytes. Some (slot_in at bytes)) made.bytes
        ∙ ap Some (named_beside at made.place to (slot_bytes old) (omega (arith, long))
        (places_apart rail link (slot_kind old) r l made.place at other made.is_place is))

-- ---- the arena then

pub record LinkSet (rail : Rail) (link : Link) (slot to : Slot) (old new : Pages) : Type 0 where
  pub arena : IsArena new
  pub set : SetsLink rail link slot to old new

has_live : (row : SlotRow) (rail : Rail) (link : Link) → is_some (link_place rail link (slot_kind row)) ≡ true
    → is_some (live_row row) ≡ true
has_live (Free next) rail link has = absurd (free_has rail link has)
has_live (Origin a b c d e) rail link has = refl
has_live (Place a b c d e f g h i j k l m n o p q r) rail link has = refl
has_live (Visit a b c d e f g h i j k l m) rail link has = refl
has_live (Item a b c d e f g h i j k l m n o p) rail link has = refl
has_live (Text a b c) rail link has = refl

live_of : (n : ℕ) (row : SlotRow) (pages : Pages) (place : ℕ) (rail : Rail) (link : Link) → row_at n pages ≡ Some row
    → link_place rail link (slot_kind row) ≡ Some place → is_live n pages ≡ true
live_of n row pages place rail link is has =
    ap (λ r. is_some (option_and_then live_row r)) is ∙ has_live row rail link (ap is_some has)

pub link_put : (rail : Rail) (link : Link) (slot to : Slot) (old new : Pages) → IsArena old
    → (has : HasLink rail link slot.0 old) → IsSlotRow has.row → has.place + 4 ≤ slot_size → to.0 < 2 ^ 32
    → new ≡ with_four slot.0 has.place to old → LinkSet rail link slot to old new
unfolding link_at kind_at others_at
link_put rail link slot to old new arena has fits within small is =
    let made : SetRow rail link has.row to =
    set_row rail link has.row to (ap is_some has.is_place) fits small in
    let same_place : made.place ≡ has.place = one_number made.place has.place (sym made.is_place ∙ has.is_place) in
    let put : PutRow slot.0 made.row old new =
    four_put slot.0 has.place to has.row made.row old new arena.whole has.is within made.live.1
    (made.bytes ∙ ap (λ at. overwritten at (to_le_bytes w32 to.0) (slot_bytes has.row)) same_place) is in
    let live : is_live slot.0 old ≡ true = live_of slot.0 has.row old has.place rail link has.is has.is_place in
    let here : row_at slot.0 new ≡ Some made.row = row_here slot.0 made.row old new put.rows in
    let there : (n : ℕ) → n ≢ slot.0 → row_at n new ≡ row_at n old =
    λ n apart. row_elsewhere n slot.0 made.row old new put.rows apart in
    record {
      arena = arena_written slot.0 made.row old new arena live made.live put;
      set = record {
        links = λ r l n. elim (cases_eq n slot.0) [
          | inl same ↦
              ap (λ k. option_and_then (link_in r l) (row_at k new)) same
              ∙ ap (option_and_then (link_in r l)) here
              ∙ links_then rail link r l to has.row made fits (subst (λ n. n + 4 ≤ slot_size) (sym same_place) within) small
              ∙ ap (λ o. cond (is_link l link && is_rail r rail) (Some to) (option_and_then (link_in r l) o)) (sym has.is)
              ∙ ap (λ k. cond (is_link l link && is_rail r rail) (Some to) (option_and_then (link_in r l) (row_at k old))) (sym same)
              ∙ named_true (is_link l link) (is_rail r rail) (n == slot.0) (Some to) (option_and_then (link_in r l) (row_at n old))
              (eq-eqb n slot.0 same)
          | inr apart ↦
              ap (option_and_then (link_in r l)) (there n apart)
              ∙ named_false (is_link l link) (is_rail r rail) (n == slot.0) (Some to) (option_and_then (link_in r l) (row_at n old))
              (ne_eqb n slot.0 apart)
        ];
        fields = λ n. elim (cases_eq n slot.0) [
          | inl same ↦
              ap (λ k. option_map (other_fields rail) (row_at k new)) same
              ∙ ap (option_map (other_fields rail)) here
              ∙ ap Some made.fields
              ∙ ap (option_map (other_fields rail)) (sym has.is)
              ∙ ap (λ k. option_map (other_fields rail) (row_at k old)) (sym same)
          | inr apart ↦ ap (option_map (other_fields rail)) (there n apart)
        ];
        kinds = λ n. elim (cases_eq n slot.0) [
          | inl same ↦
              ap (λ k. option_map slot_kind (row_at k new)) same
              ∙ ap (option_map slot_kind) here
              ∙ ap Some made.kind
              ∙ ap (option_map slot_kind) (sym has.is)
              ∙ ap (λ k. option_map slot_kind (row_at k old)) (sym same)
          | inr apart ↦ ap (option_map slot_kind) (there n apart)
        ];
        rows = λ n apart _. there n apart;
        header = put.header;
        count = same_written slot.0 made.row old new live made.live put;
        pages = put.pages;
        as_many = put.as_many;
      };
    }
  where
    one_number : (a b : ℕ) → Some a ≡ Some b → a ≡ b
    one_number a b same = cc

    named_true : (a b c : Bool) (x y : Option Slot) → c ≡ true → cond (a && b) x y ≡ cond (a && b && c) x y
    named_true true true c x y is = sym (ap (λ b. cond b x y) is)
    named_true true false c x y is = refl
    named_true false b c x y is = refl

    named_false : (a b c : Bool) (x y : Option Slot) → c ≡ false → y ≡ cond (a && b && c) x y
    named_false true true c x y is = sym (ap (λ b. cond b x y) is)
    named_false true false c x y is = refl
    named_false false b c x y is = refl

-- ---- what the calls give

-- the place of the row's link is the one that was looked up
place_found : (rail : Rail) (link : Link) (kind : SlotKind) (place found : ℕ) → link_place rail link kind ≡ Some found
    → IfSome (link_place rail link kind) (λ n. place ≡ n) → place ≡ found
place_found rail link kind place found is told = MatchOption-at_some (Unit {0}) (λ n. place ≡ n) found is told

pub link_read : (rail : Rail) (link : Link) (slot : Slot) (place four : ℕ) (pages now : Pages) → pages ≡ now
    → IsSome (link_at rail link slot.0 now) → ((kind : SlotKind) → IfSome (link_place rail link kind) (λ n. place ≡ n))
    → place + 4 ≤ slot_size
    → four ≡ from_le_bytes w32 (bytes_at (place_in (slot_page slot.0) (slot_byte slot.0 + place)) 4 pages.bytes)
    → link_at rail link slot.0 now ≡ Some (numbered four)
link_read rail link slot place four pages now same some told within is =
    let has = has_link rail link slot.0 now some in
    let here : place ≡ has.place =
    place_found rail link (slot_kind has.row) place has.place has.is_place (told (slot_kind has.row)) in
    let found : four ≡ (slot_in place (slot_bytes has.row)).0 =
    is ∙ four_there slot.0 place has.row pages (ap (row_at slot.0) same ∙ has.is) within in
    link_is rail link slot.0 now has
    ∙ ap (λ n. Some (slot_in n (slot_bytes has.row))) (sym here)
    ∙ ap (λ n. Some (numbered n)) (sym found)

pub link_slot : (rail : Rail) (link : Link) (slot : Slot) (pages now : Pages) → pages ≡ now
    → IsSome (link_at rail link slot.0 now) → is_slot slot.0 pages ≡ true
link_slot rail link slot pages now same some =
    let has = has_link rail link slot.0 now some in
    holds_slot slot.0 has.row pages (ap (row_at slot.0) same ∙ has.is)

pub link_written : (rail : Rail) (link : Link) (slot to : Slot) (place : ℕ) (pages now new : Pages) → pages ≡ now
    → IsArena pages → IsSome (link_at rail link slot.0 now)
    → ((kind : SlotKind) → IfSome (link_place rail link kind) (λ n. place ≡ n)) → place + 4 ≤ slot_size → to.0 < 2 ^ 32
    → new ≡ with_bytes (slot_page slot.0) (slot_byte slot.0 + place) (to_le_bytes w32 to.0) pages
    → LinkSet rail link slot to pages new
link_written rail link slot to place pages now new same arena some told within small is =
    let has : HasLink rail link slot.0 pages =
    has_link rail link slot.0 pages (subst (λ p. IsSome (link_at rail link slot.0 p)) (sym same) some) in
    let here : place ≡ has.place =
    place_found rail link (slot_kind has.row) place has.place has.is_place (told (slot_kind has.row)) in
    link_put rail link slot to pages new arena has
    (held_fits rail link slot.0 has.row pages has.is (ap is_some has.is_place)) (subst (λ n. n + 4 ≤ slot_size) here within) small
    (is ∙ ap (λ n. with_four slot.0 n to pages) here)
