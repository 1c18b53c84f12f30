-- What a row that is put into a slot, or a field of the header, leaves of an arena.
use Rattle.std.proofs.Common.{◌≡◌, ◌≢◌, ◌∙◌, ◌==◌, ◌+◌, ◌-◌, ◌*◌, ◌^◌, ◌<◌, ◌≤◌, ◌&&◌, ◌||◌, ◌∷◌, [], ℕ, List, Bool, ap, arith}
use Rattle.std.proofs.Common.{cond, eq-eqb, false, inl, inr, IsSome, length, None, not, Option, Some, subst, sym, true, w32, is_some, refl}
use Rattle.std.specs.Int.{to_le_bytes}
use Rattle.std.specs.Option.{option_and_then}
use Rattle.std.proofs.lemmas.Bool.{and_parts, cases_Bool, cases_eq, ne_eqb, not-true, true≢false}
use Rattle.pl_base.specs.declared.id.Slot.{Slot}
use Rattle.pl_base.specs.Touched.{page_size}
use Rattle.pl_sheets.specs.Sheets.{ArePages, Pages, page_count, with_bytes}
use Rattle.pl_slot.specs.declared.row.SlotRow.{SlotRow}
use Rattle.pl_slot.specs.declared.row.SlotRow.TheVariants.{Free}
use Rattle.pl_slot.specs.Arena.{AreLinked, ChangesOnly, IsArena, IsLiveRow, IsSet, IsSetLive, KeepsRows}
use Rattle.pl_slot.specs.Arena.{first_in, header_of, header_page, is_among, is_free, is_live, is_slot, live_at}
use Rattle.pl_slot.specs.Arena.{live_count, live_row, row_at, slot_byte, slot_count, slot_page}
use Rattle.pl_slot.specs.Slot.{IsSlotRow, slot_bytes}
use Rattle.pl_slot.proofs.ChainLaws.{linked_kept, member_free, once}
use Rattle.pl_slot.proofs.CountLaws.{passed, passed_le, passed_more, passed_same}
use Rattle.pl_slot.proofs.HeaderLaws.{rows_behind, with_word, word_count, word_set}
use Rattle.pl_slot.proofs.RowLaws.{header_in_front, row_set, with_row}
use Rattle.pl_slot.proofs.RowsRead.{length-slot_bytes}
use Rattle.pl_slot.proofs.SlotPlaces.{count_put, inside_page, no_slot, page_there, put_are, put_only, row_slot, same_slots, slot_bounds}

-- ---- a row that is put

pub record PutRow (slot : ℕ) (row : SlotRow) (old new : Pages) : Type 0 where
  pub whole : ArePages new
  pub as_many : page_count new ≡ page_count old
  pub rows : IsSet slot row old new
  pub header : header_of new ≡ header_of old
  pub pages : ChangesOnly (slot_page slot ∷ []) old new

pub row_put : (slot : ℕ) (row : SlotRow) (old new : Pages) → ArePages old → is_slot slot old ≡ true → IsSlotRow row
    → new ≡ with_row slot row old → PutRow slot row old new
row_put slot row old new are there fits is =
    let reach : slot_byte slot + length (slot_bytes row) ≤ page_size =
    rw (length-slot_bytes row fits) (inside_page slot) in
    let page = page_there slot old there in
    let made : PutRow slot row old (with_row slot row old) = record {
      whole = put_are (slot_page slot) (slot_byte slot) (slot_bytes row) old are (some slot) page reach;
      as_many = count_put (slot_page slot) (slot_byte slot) (slot_bytes row) old;
      rows = λ n. row_set n slot row old are there fits;
      header = header_in_front slot row old are there;
      pages = put_only (slot_page slot) (slot_byte slot) (slot_bytes row) old are page reach;
    } in
    subst (PutRow slot row old) (sym is) made
  where
    some : (slot : ℕ) → 1 ≤ slot_page slot
    some slot = omega arith

-- ---- a field of the header that is put

pub record PutWord (k v : ℕ) (old new : Pages) : Type 0 where
  pub whole : ArePages new
  pub as_many : page_count new ≡ page_count old
  pub rows : KeepsRows old new
  pub header : header_of new ≡ with_word k v old
  pub pages : ChangesOnly (header_page ∷ []) old new

pub word_put : (k v : ℕ) (old new : Pages) → ArePages old → 2 ≤ page_count old → k < word_count → v < 2 ^ 32
    → new ≡ with_bytes header_page (8 + 4 * k) (to_le_bytes w32 v) old → PutWord k v old new
word_put k v old new are some there fits is =
    let reach : 8 + 4 * k + length (to_le_bytes w32 v) ≤ page_size = omega arith in
    let page : header_page < page_count old = omega arith in
    let made : PutWord k v old (with_bytes header_page (8 + 4 * k) (to_le_bytes w32 v) old) = record {
      whole = put_are header_page (8 + 4 * k) (to_le_bytes w32 v) old are (omega arith) page reach;
      as_many = count_put header_page (8 + 4 * k) (to_le_bytes w32 v) old;
      rows = λ n. rows_behind n (8 + 4 * k) (to_le_bytes w32 v) old are some reach;
      header = word_set k v old are some there fits;
      pages = put_only header_page (8 + 4 * k) (to_le_bytes w32 v) old are page reach;
    } in
    subst (PutWord k v old) (sym is) made

-- ---- pages that stay, and that change one after another

pub only_itself : (these : List ℕ) (pages : Pages) → ChangesOnly these pages pages
only_itself these pages =
    record {
      before = refl;
      marks = λ p other. refl;
      images = λ p other there. refl;
      unmarked = λ p there none. (none, refl);
    }

pub then_only : (xs ys zs : List ℕ) (old middle new : Pages)
    → ((p : ℕ) → is_among p zs ≡ false → (is_among p xs ≡ false) × (is_among p ys ≡ false))
    → page_count old ≤ page_count middle → ChangesOnly xs old middle → ChangesOnly ys middle new
    → ChangesOnly zs old new
then_only xs ys zs old middle new apart longer first second =
    record {
      before = second.before ∙ first.before;
      marks = λ p other. second.marks p (apart p other).1 ∙ first.marks p (apart p other).0;
      images = λ p other there.
          second.images p (apart p other).1 (within p there) ∙ first.images p (apart p other).0 there;
      unmarked = λ p there none.
          let last = second.unmarked p (within p there) none in
          let front = first.unmarked p there last.0 in
          (front.0, last.1 ∙ front.1);
    }
  where
    within : (p : ℕ) → p < page_count old → p < page_count middle
    within p there = omega (arith, longer)

-- the page of the header, and one other
pub beside_header : (page p : ℕ) → is_among p (header_page ∷ page ∷ []) ≡ false
    → (is_among p (page ∷ []) ≡ false) × (is_among p (header_page ∷ []) ≡ false)
beside_header page p other =
    elim (p == header_page) as (λ b. (b || ((p == page) || false)) ≡ false
    → (((p == page) || false) ≡ false) × ((b || false) ≡ false)) [
      | true ↦ λ none. absurd (true≢false none)
      | false ↦ λ none. (none, refl)
    ] other

-- ---- live slots

pub live_set : (n slot : ℕ) (row : SlotRow) (old new : Pages) → IsSet slot row old new
    → is_live n new ≡ cond (n == slot) (is_some (live_row row)) (is_live n old)
live_set n slot row old new set =
    ap (λ r. is_some (option_and_then live_row r)) (set n)
    ∙ elim (n == slot) as (λ b. is_some (option_and_then live_row (cond b (Some row) (row_at n old)))
    ≡ cond b (is_some (live_row row)) (is_live n old)) [ true ↦ refl | false ↦ refl ]

pub live_here : (slot : ℕ) (row : SlotRow) (old new : Pages) → IsSet slot row old new
    → is_live slot new ≡ is_some (live_row row)
live_here slot row old new set =
    live_set slot slot row old new set
    ∙ ap (λ b. cond b (is_some (live_row row)) (is_live slot old)) (eq-eqb slot slot refl)

pub live_there : (n slot : ℕ) (row : SlotRow) (old new : Pages) → IsSet slot row old new → n ≢ slot
    → is_live n new ≡ is_live n old
live_there n slot row old new set apart =
    live_set n slot row old new set
    ∙ ap (λ b. cond b (is_some (live_row row)) (is_live n old)) (ne_eqb n slot apart)

pub row_elsewhere : (n slot : ℕ) (row : SlotRow) (old new : Pages) → IsSet slot row old new → n ≢ slot
    → row_at n new ≡ row_at n old
row_elsewhere n slot row old new set apart =
    set n ∙ ap (λ b. cond b (Some row) (row_at n old)) (ne_eqb n slot apart)

pub row_here : (slot : ℕ) (row : SlotRow) (old new : Pages) → IsSet slot row old new → row_at slot new ≡ Some row
row_here slot row old new set = set slot ∙ ap (λ b. cond b (Some row) (row_at slot old)) (eq-eqb slot slot refl)

pub sets_live : (slot : ℕ) (row : SlotRow) (old new : Pages) → IsLiveRow row → IsSet slot row old new
    → IsSetLive slot row old new
sets_live slot row old new live set n =
    ap (option_and_then live_row) (set n)
    ∙ elim (n == slot) as (λ b. option_and_then live_row (cond b (Some row) (row_at n old))
    ≡ cond b (Some row) (live_at n old)) [ true ↦ live.0 | false ↦ refl ]

-- a live slot is one
pub live_slot : (n : ℕ) (pages : Pages) → is_live n pages ≡ true → is_slot n pages ≡ true
live_slot n pages live = elim (cases_Bool (is_slot n pages)) [
  | inl there ↦ there
  | inr none ↦
      absurd (true≢false (sym live ∙ ap (λ r. is_some (option_and_then live_row r)) (no_slot n pages none)))
]

-- ---- how many are live

pub same_live : (old new : Pages) → ((n : ℕ) → is_live n new ≡ is_live n old) → page_count new ≡ page_count old
    → live_count new ≡ live_count old
unfolding live_count
same_live old new same as_many =
    passed_same (λ n. is_live n old) (λ n. is_live n new) 1 (slot_count new) (λ k _. same k)
    ∙ ap (λ c. passed (λ n. is_live n old) 1 (8 * (c - 2))) as_many

pub same_rows : (old new : Pages) → KeepsRows old new → page_count new ≡ page_count old
    → live_count new ≡ live_count old
same_rows old new rows = same_live old new (λ n. ap (λ r. is_some (option_and_then live_row r)) (rows n))

pub one_more : (slot : ℕ) (old new : Pages) → is_slot slot old ≡ true → is_live slot old ≡ false
    → is_live slot new ≡ true → ((n : ℕ) → n ≢ slot → is_live n new ≡ is_live n old)
    → page_count new ≡ page_count old → live_count new ≡ live_count old + 1
unfolding live_count
one_more slot old new there none some same as_many =
    let bounds = slot_bounds slot old there in
    ap (λ c. passed (λ n. is_live n new) 1 (8 * (c - 2))) as_many
    ∙ passed_more (λ n. is_live n old) (λ n. is_live n new) slot 1 (slot_count old) bounds.0
    (below slot (slot_count old) bounds.1) none some same
  where
    below : (slot count : ℕ) → slot ≤ count → slot < 1 + count
    below slot count within = omega arith

pub one_less : (slot : ℕ) (old new : Pages) → is_slot slot old ≡ true → is_live slot old ≡ true
    → is_live slot new ≡ false → ((n : ℕ) → n ≢ slot → is_live n new ≡ is_live n old)
    → page_count new ≡ page_count old → live_count new + 1 ≡ live_count old
one_less slot old new there some none same as_many =
    sym (one_more slot new old (same_slots slot old new as_many ∙ there) none some (λ n apart. sym (same n apart))
    (sym as_many))

-- ---- an arena stays one

is_free_of : (n : ℕ) (pages : Pages) (next : Slot) → row_at n pages ≡ Some (Free next) → is_live n pages ≡ false
is_free_of n pages next is = ap (λ r. is_some (option_and_then live_row r)) is

pub arena_kept : (old new : Pages) → IsArena old → ArePages new → page_count new ≡ page_count old → KeepsRows old new
    → (header_of new).pages ≡ (header_of old).pages → (header_of new).first_free ≡ (header_of old).first_free
    → IsArena new
arena_kept old new arena whole as_many rows told first =
    let chain = arena.slots.free in
    record {
      whole = whole;
      some_page = rw as_many arena.some_page;
      few = rw as_many arena.few;
      told = told ∙ arena.told ∙ sym as_many;
      slots = record {
        rows = λ n there.
            subst IsSome (sym (rows n)) (arena.slots.rows n (sym (same_slots n old new as_many) ∙ there));
        free = record {
          chain = chain.chain;
          first = first ∙ chain.first;
          linked = linked_kept chain.chain old new (λ n _. rows n) chain.linked;
          whole = λ n free. chain.whole n
              (sym (ap (λ r. is_some r && not (is_some (option_and_then live_row r))) (rows n)) ∙ free);
        };
      };
    }

-- a slot has another row, and the free ones are in this chain
pub arena_with : (slot : ℕ) (row : SlotRow) (chain : List ℕ) (old new : Pages) → IsArena old → ArePages new
    → page_count new ≡ page_count old → (header_of new).pages ≡ (header_of old).pages → IsSet slot row old new
    → (header_of new).first_free ≡ first_in chain → AreLinked chain new
    → ((n : ℕ) → is_free n new ≡ true → is_among n chain ≡ true) → IsArena new
arena_with slot row chain old new arena whole as_many told set first linked all =
    record {
      whole = whole;
      some_page = rw as_many arena.some_page;
      few = rw as_many arena.few;
      told = told ∙ arena.told ∙ sym as_many;
      slots = record {
        rows = λ n there.
            subst IsSome (sym (set n))
            (still (n == slot) (row_at n old) (arena.slots.rows n (sym (same_slots n old new as_many) ∙ there)));
        free = record { chain = chain; first = first; linked = linked; whole = all };
      };
    }
  where
    still : (b : Bool) (r : Option SlotRow) → IsSome r → IsSome (cond b (Some row) r)
    still true r some = refl
    still false r some = some

-- a free slot that is not the one that has the row was free before
pub free_before : (n slot : ℕ) (row : SlotRow) (old new : Pages) → IsSet slot row old new → n ≢ slot
    → is_free n new ≡ true → is_free n old ≡ true
free_before n slot row old new set apart free =
    sym (ap (λ r. is_some r && not (is_some (option_and_then live_row r))) (row_elsewhere n slot row old new set apart))
    ∙ free

-- a live slot is in no chain of free ones
pub live_outside : (n slot : ℕ) (ns : List ℕ) (pages : Pages) → AreLinked ns pages → is_live slot pages ≡ true
    → is_among n ns ≡ true → n ≢ slot
live_outside n slot ns pages linked live among same =
    let found = member_free n ns pages linked among in
    true≢false (sym live ∙ ap (λ k. is_live k pages) (sym same) ∙ is_free_of n pages found.0 found.1)

pub not_free : (n : ℕ) (pages : Pages) → is_live n pages ≡ true → is_free n pages ≡ true → ⊥
not_free n pages live free =
    let parts = and_parts (is_some (row_at n pages)) (not (is_live n pages)) free in
    true≢false (sym live ∙ not-true (is_live n pages) parts.1)

-- a live slot is written
pub arena_written : (slot : ℕ) (row : SlotRow) (old new : Pages) → IsArena old → is_live slot old ≡ true
    → IsLiveRow row → PutRow slot row old new → IsArena new
arena_written slot row old new arena live fits put =
    let chain = arena.slots.free in
    let now : is_live slot new ≡ true = live_here slot row old new put.rows ∙ ap is_some fits.0 in
    arena_with slot row chain.chain old new arena put.whole put.as_many (ap (λ h. h.pages) put.header) put.rows
    (ap (λ h. h.first_free) put.header ∙ chain.first)
    (linked_kept chain.chain old new
    (λ n among. row_elsewhere n slot row old new put.rows
    (live_outside n slot chain.chain old chain.linked live among)) chain.linked)
    (λ n free. chain.whole n (free_before n slot row old new put.rows
    (λ same. not_free slot new now (ap (λ k. is_free k new) (sym same) ∙ free)) free))

-- the first free slot is taken
pub arena_taken : (slot : ℕ) (next : Slot) (row : SlotRow) (old middle new : Pages) → IsArena old
    → (header_of old).first_free.0 ≡ slot → row_at slot old ≡ Some (Free next) → IsLiveRow row
    → PutRow slot row old middle → ArePages new → page_count new ≡ page_count middle → KeepsRows middle new
    → (header_of new).pages ≡ (header_of middle).pages → (header_of new).first_free ≡ next → IsArena new
arena_taken slot next row old middle new arena first is fits put whole as_many rows told next_is =
    from arena.slots.free.chain arena.slots.free.first arena.slots.free.linked arena.slots.free.whole
  where
    set : IsSet slot row old new
    set n = rows n ∙ put.rows n

    now : is_live slot new ≡ true
    now = live_here slot row old new set ∙ ap is_some fits.0

    of_free : (a b : Slot) → Some (Free a) ≡ Some (Free b) → a ≡ b
    of_free a b same = cc

    behind : (m n : ℕ) (ns : List ℕ) → n ≡ slot → m ≢ slot → is_among m (n ∷ ns) ≡ true → is_among m ns ≡ true
    behind m n ns here apart among =
        sym (ap (λ b. b || is_among m ns) (ne_eqb m n (λ same. apart (same ∙ here)))) ∙ among

    from : (chain : List ℕ) → (header_of old).first_free ≡ first_in chain → AreLinked chain old
        → ((n : ℕ) → is_free n old ≡ true → is_among n chain ≡ true) → IsArena new
    from [] first_is linked all =
        let zero_is : slot ≡ 0 = sym first ∙ ap (λ (s : Slot). s.0) first_is in
        let none : Some (Free next) ≡ None = sym is ∙ ap (λ k. row_at k old) zero_is ∙ no_slot 0 old refl in
        absurd (cc)
    from (n ∷ ns) first_is linked all =
        let here : n ≡ slot = sym (ap (λ (s : Slot). s.0) first_is) ∙ first in
        let link_is : next ≡ first_in ns =
        of_free next (first_in ns) (sym is ∙ ap (λ k. row_at k old) (sym here) ∙ linked.0) in
        let never = once n ns old linked in
        arena_with slot row ns old new arena whole (as_many ∙ put.as_many)
        (told ∙ ap (λ h. h.pages) put.header) set (next_is ∙ link_is)
        (linked_kept ns old new
        (λ m among. row_elsewhere m slot row old new set
        (λ same. true≢false (sym among ∙ ap (λ k. is_among k ns) (same ∙ sym here) ∙ never))) linked.1)
        (λ m free. behind m n ns here (λ same. not_free slot new now (ap (λ k. is_free k new) (sym same) ∙ free))
        (all m (free_before m slot row old new set
        (λ same. not_free slot new now (ap (λ k. is_free k new) (sym same) ∙ free)) free)))

-- a live slot is freed
pub arena_freed : (slot : ℕ) (old middle new : Pages) → IsArena old → is_live slot old ≡ true
    → PutRow slot (Free (header_of old).first_free) old middle → ArePages new → page_count new ≡ page_count middle
    → KeepsRows middle new → (header_of new).pages ≡ (header_of middle).pages
    → (header_of new).first_free ≡ record { 0 = slot } → IsArena new
arena_freed slot old middle new arena live put whole as_many rows told first_is =
    let chain = arena.slots.free in
    let row : SlotRow = Free (header_of old).first_free in
    let set : IsSet slot row old new = λ n. rows n ∙ put.rows n in
    arena_with slot row (slot ∷ chain.chain) old new arena whole (as_many ∙ put.as_many)
    (told ∙ ap (λ h. h.pages) put.header) set first_is (
      row_here slot row old new set ∙ ap (λ s. Some (Free s)) chain.first,
      linked_kept chain.chain old new
          (λ n among. row_elsewhere n slot row old new set
          (live_outside n slot chain.chain old chain.linked live among)) chain.linked,
    )
    (λ n free. elim (cases_eq n slot) [
      | inl same ↦ ap (λ b. b || is_among n chain.chain) (eq-eqb n slot same)
      | inr apart ↦ behind n slot chain.chain (chain.whole n (free_before n slot row old new set apart free))
    ])
  where
    behind : (m n : ℕ) (ns : List ℕ) → is_among m ns ≡ true → is_among m (n ∷ ns) ≡ true
    behind m n ns among = elim (m == n) as (λ b. (b || is_among m ns) ≡ true) [ true ↦ refl | false ↦ among ]

-- as many slots are live after a live one is written
pub same_written : (slot : ℕ) (row : SlotRow) (old new : Pages) → is_live slot old ≡ true → IsLiveRow row
    → PutRow slot row old new → live_count new ≡ live_count old
same_written slot row old new live fits put =
    same_live old new (λ n. elim (cases_eq n slot) [
      | inl same ↦
          ap (λ k. is_live k new) same ∙ live_here slot row old new put.rows ∙ ap is_some fits.0
          ∙ sym (ap (λ k. is_live k old) same ∙ live)
      | inr apart ↦ live_there n slot row old new put.rows apart
    ]) put.as_many

-- a free slot holds a row, and is one
pub free_held : (n : ℕ) (pages : Pages) → is_free n pages ≡ true → IsSome (row_at n pages)
free_held n pages free = (and_parts (is_some (row_at n pages)) (not (is_live n pages)) free).0

pub free_slot : (n : ℕ) (pages : Pages) → is_free n pages ≡ true → is_slot n pages ≡ true
free_slot n pages free = row_slot n pages (free_held n pages free)

pub live_few : (pages : Pages) → live_count pages ≤ slot_count pages
unfolding live_count
live_few pages = passed_le (λ n. is_live n pages) 1 (slot_count pages)
