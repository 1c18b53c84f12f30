-- A loop that stores a text, its last part first, and what is left where it is given up.
use Rattle.std.proofs.Common.{◌≡◌, ◌≢◌, ◌∙◌, ◌+◌, ◌≤◌, ◌∷◌, ◌||◌, ◌==◌, [], ℕ, List, ap, arith}
use Rattle.std.proofs.Common.{cond, drop, eq-eqb, false, inl, inr, is_some, length, map, None, not, Option, refl}
use Rattle.std.proofs.Common.{Some, sym, take}
use Rattle.std.proofs.lemmas.Bool.{and_parts, cases_Bool, cases_eq, ne_eqb, not-true, true≢false}
use Rattle.pl_base.specs.declared.id.Slot.{Slot}
use Rattle.pl_sheets.specs.Sheets.{Pages, page_count}
use Rattle.pl_slot.specs.declared.row.SlotRow.{SlotRow}
use Rattle.pl_slot.specs.Arena.{ChangesOnly, first_in, header_of, header_page, is_among, is_live, IsTaken}
use Rattle.pl_slot.specs.Arena.{KeepsFields, live_at, live_count, row_at, slot_page}
use Rattle.pl_slot.specs.Header.{Header}
use Rattle.pl_slot.specs.Slot.{payload_size}
use Rattle.pl_slot.proofs.ArenaLaws.{only_itself, then_only}
use Rattle.pl_text.specs.Chunks.{chunk_count, chunk_row, FreesSlots, KeepsLive, pages_of, StoresText}
use Rattle.pl_text.proofs.Freeing.{beside, neither}
use Rattle.pl_text.proofs.HeldTexts.{held_count, held_kept, member_live}

none_live : (n : ℕ) (pages : Pages) → is_live n pages ≡ false → live_at n pages ≡ None
none_live n pages none = from (live_at n pages) none
  where
    from : (row : Option SlotRow) → is_some row ≡ false → row ≡ None
    from None none = refl
    from (Some row) some = absurd (true≢false some)

pub stores_none : (pages : Pages) → StoresText (first_in []) [] pages pages
stores_none pages =
    record {
      slots = [];
      first = refl;
      held = refl;
      fresh = λ n among. absurd (true≢false (sym among));
      others = λ n other. refl;
      count = omega arith;
      pages = only_itself (pages_of []) pages;
    }

-- a page that is none of these is none of those behind, nor that of the first
apart_front : (n p : ℕ) (ns : List ℕ) → is_among p (pages_of (n ∷ ns)) ≡ false
    → (is_among p (pages_of ns) ≡ false) × (is_among p (pages_of (n ∷ [])) ≡ false)
apart_front n p ns other =
    let head = neither (p == header_page) (is_among p (map slot_page (n ∷ ns))) other in
    let tail = neither (p == slot_page n) (is_among p (map slot_page ns)) head.1 in (
      beside (p == header_page) (is_among p (map slot_page ns)) head.0 tail.1,
      beside (p == header_page) (is_among p (slot_page n ∷ [])) head.0 (beside (p == slot_page n) false tail.0 refl),
    )

module _ (n : ℕ) (text : List ℕ) (next : Slot) (old middle new : Pages) (some : 1 ≤ length text)
    (stored : StoresText next (drop payload_size text) old middle)
    (taken : IsTaken n (chunk_row (take payload_size text) next) middle new) where
  not_taken : is_among n stored.slots ≡ false
  not_taken = elim (cases_Bool (is_among n stored.slots)) [
    | inl among ↦
        absurd (true≢false
        (sym (member_live n stored.slots (drop payload_size text) middle stored.held among) ∙ taken.fresh))
    | inr never ↦ never
  ]

  still : (m : ℕ) → m ≢ n → live_at m new ≡ live_at m middle
  still m apart =
      taken.live m
      ∙ ap (λ b. cond b (Some (chunk_row (take payload_size text) next)) (live_at m middle)) (ne_eqb m n apart)

  pub stores_more : page_count old ≤ page_count middle → ChangesOnly (pages_of (n ∷ [])) middle new
      → StoresText (record { 0 = n }) text old new
  stores_more longer changed =
      record {
        slots = n ∷ stored.slots;
        first = refl;
        held = (
          some,
          taken.live n
              ∙ ap (λ b. cond b (Some (chunk_row (take payload_size text) next)) (live_at n middle)) (eq-eqb n n refl)
              ∙ ap (λ s. Some (chunk_row (take payload_size text) s)) stored.first,
          held_kept stored.slots (drop payload_size text) middle new
              (λ m among. still m (λ same. true≢false
              (sym among ∙ ap (λ k. is_among k stored.slots) same ∙ not_taken)))
              stored.held,
        );
        fresh = λ m among. elim (cases_eq m n) [
          | inl same ↦
              ap (λ k. is_live k old) same ∙ ap is_some (sym (stored.others n not_taken)) ∙ taken.fresh
          | inr apart ↦
              stored.fresh m (sym (ap (λ b. b || is_among m stored.slots) (ne_eqb m n apart)) ∙ among)
        ];
        others = λ m other.
            let parts = neither (m == n) (is_among m stored.slots) other in
            still m (λ same. true≢false (sym (eq-eqb m n same) ∙ parts.0)) ∙ stored.others m parts.1;
        count = omega (arith, taken.count, stored.count);
        pages =
            then_only (pages_of stored.slots) (pages_of (n ∷ [])) (pages_of (n ∷ stored.slots)) old middle new
            (λ p other. apart_front n p stored.slots other) longer stored.pages changed;
      }

-- ---- how many slots are taken

pub stored_count : (slot : Slot) (text : List ℕ) (old new : Pages) → StoresText slot text old new
    → live_count new ≡ live_count old + chunk_count (length text)
stored_count slot text old new stored =
    stored.count ∙ ap (λ n. live_count old + n) (held_count stored.slots text new stored.held)

-- ---- what is left where it is given up

module _ (slot : Slot) (text : List ℕ) (old middle new : Pages) (stored : StoresText slot text old middle)
    (freed : FreesSlots stored.slots middle new) where
  pub given_up : KeepsLive [] old new
  given_up n other = elim (cases_Bool (is_among n stored.slots)) [
    | inl among ↦
        let free = and_parts (is_some (row_at n new)) (not (is_live n new)) (freed.free n among) in
        none_live n new (not-true (is_live n new) free.1) ∙ sym (none_live n old (stored.fresh n among))
    | inr never ↦ freed.others n never ∙ stored.others n never
  ]

  pub given_up_count : live_count new ≡ live_count old
  given_up_count = omega (arith, freed.count, stored.count)

pub fields_freed : (slots : List ℕ) (old new : Pages) → FreesSlots slots old new → KeepsFields old new
fields_freed slots old new freed =
    let pages_are : (header_of new).pages ≡ (header_of old).pages = ap (λ (h : Header). h.pages) freed.header in
    freed.header
    ∙ ap (λ (p : ℕ). record (header_of old) { pages = p; first_free = (header_of new).first_free }) (sym pages_are)
