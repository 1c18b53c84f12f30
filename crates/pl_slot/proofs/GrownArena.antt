-- The pages that have a page more make an arena.
use Rattle.std.proofs.Common.{◌≡◌, ◌≢◌, ◌∙◌, ◌==◌, ◌+◌, ◌-◌, ◌*◌, ◌<◌, ◌≤◌, ◌&&◌, ◌||◌, ◌⊎◌, ◌∷◌, [], ℕ, List, ap}
use Rattle.std.proofs.Common.{arith, eq-eqb, false, inl, inr, IsSome, is_some}
use Rattle.std.proofs.Common.{None, not, refl, Some, subst, suc, sym, true, zero}
use Rattle.std.specs.List.{range_with_len}
use Rattle.std.specs.Option.{option_and_then}
use Rattle.std.proofs.lemmas.Bool.{and_from, cases_Bool, cases_eq, cases_lt, or_right}
use Rattle.std.proofs.lemmas.Bool.{true≢false}
use Rattle.pl_base.specs.declared.id.Slot.{Slot}
use Rattle.pl_base.specs.Live.{slot_limit}
use Rattle.pl_sheets.specs.Sheets.{Pages, page_count, with_blank}
use Rattle.pl_slot.specs.declared.row.SlotRow.TheVariants.{Free}
use Rattle.pl_slot.specs.Arena.{AreLinked, ChangesOnly, IsArena, first_in, header_of, header_page, is_among}
use Rattle.pl_slot.specs.Arena.{is_free, is_live, is_slot, live_at, live_count, live_row, row_at, slot_count}
use Rattle.pl_slot.specs.Arena.{slot_page}
use Rattle.pl_slot.specs.Header.{Header}
use Rattle.pl_slot.specs.Taking.{MakesFree}
use Rattle.pl_slot.proofs.ArenaLaws.{free_slot, not_free}
use Rattle.pl_slot.proofs.CountLaws.{passed, passed_all, passed_past, passed_same}
use Rattle.pl_slot.proofs.HeaderLaws.{keeps_fields}
use Rattle.pl_slot.proofs.SlotPlaces.{no_slot, slot_bounds, slot_within}
use Rattle.pl_slot.proofs.Grown.{GrownPages, blank_count}

-- ---- they make an arena

chain_empty : (pages : Pages) (ns : List ℕ) → (header_of pages).first_free.0 ≡ 0
    → (header_of pages).first_free ≡ first_in ns → AreLinked ns pages → (n : ℕ) → is_among n ns ≡ true → ⊥
chain_empty pages [] full first linked n among = true≢false (sym among)
chain_empty pages (m ∷ ns) full first linked n among =
    let zero_is : m ≡ 0 = sym (ap (λ (s : Slot). s.0) first) ∙ full in
    let none : Some (Free (first_in ns)) ≡ None = sym linked.0 ∙ ap (λ k. row_at k pages) zero_is ∙ no_slot 0 pages refl in
    absurd (cc)

-- where no slot is free each is live
live_each : (n : ℕ) (pages : Pages) → IsArena pages → (header_of pages).first_free.0 ≡ 0 → is_slot n pages ≡ true
    → is_live n pages ≡ true
live_each n pages arena full there = elim (cases_Bool (is_live n pages)) [
  | inl live ↦ live
  | inr other ↦
      let free : is_free n pages ≡ true =
      and_from (is_some (row_at n pages)) (not (is_live n pages)) (arena.slots.rows n there) (ap not other) in
      absurd (chain_empty pages arena.slots.free.chain full arena.slots.free.first arena.slots.free.linked n
      (arena.slots.free.whole n free))
]

all_live : (pages : Pages) → IsArena pages → (header_of pages).first_free.0 ≡ 0 → live_count pages ≡ slot_count pages
unfolding live_count
all_live pages arena full =
    passed_all (λ n. is_live n pages) 1 (slot_count pages)
    (λ n above below. live_each n pages arena full (slot_within n pages above (within n (slot_count pages) below)))
  where
    within : (n count : ℕ) → n < 1 + count → n ≤ count
    within n count below = omega arith

linked_range : (k n : ℕ) (pages : Pages) → ((m : ℕ) → n ≤ m → m < n + k → row_at m pages ≡ Some (Free (record { 0 = m + 1 })))
    → row_at (n + k) pages ≡ Some (Free (record { 0 = 0 })) → AreLinked (range_with_len n (suc k)) pages
linked_range zero n pages linked last = (ap (λ m. row_at m pages) (sym (same n)) ∙ last, tt)
  where
    same : (n : ℕ) → n + 0 ≡ n
    same n = omega arith
linked_range (suc k) n pages linked last = (
  linked n (omega arith) (omega arith),
  linked_range k (n + 1) pages (λ m above below. linked m (omega arith) (omega arith))
      (ap (λ m. row_at m pages) (same n k) ∙ last),
)
  where
    same : (n k : ℕ) → n + 1 + k ≡ n + suc k
    same n k = omega arith

in_range : (n from count : ℕ) → from ≤ n → n < from + count → is_among n (range_with_len from count) ≡ true
in_range n from zero above below = absurd (omega arith)
in_range n from (suc count) above below = elim (cases_eq n from) [
  | inl here ↦ ap (λ b. b || is_among n (range_with_len (from + 1) count)) (eq-eqb n from here)
  | inr apart ↦
      or_right (n == from) (is_among n (range_with_len (from + 1) count))
      (in_range n (from + 1) count (more n from above apart) (omega arith))
]
  where
    more : (n from : ℕ) → from ≤ n → n ≢ from → from + 1 ≤ n
    more n from above apart = elim (cases_lt from n) [ inl less ↦ omega arith | inr other ↦ absurd (apart (omega arith)) ]

-- the row of a slot that was added
added_row : (n first : ℕ) (old new : Pages) → GrownPages first old new → first ≤ n → n < first + 8
    → (next : Slot) × (row_at n new ≡ Some (Free next))
added_row n first old new grown above below = elim (cases_lt n (first + 7)) [
  | inl less ↦ (record { 0 = n + 1 }, grown.linked n above less)
  | inr more ↦ (record { 0 = 0 }, ap (λ k. row_at k new) (last n first more below) ∙ grown.last)
]
  where
    last : (n first : ℕ) → first + 7 ≤ n → n < first + 8 → n ≡ first + 7
    last n first more below = omega arith

-- a slot of more pages was one before, or was added
old_or_new : (n first : ℕ) (old new : Pages) → GrownPages first old new → 2 ≤ page_count old → is_slot n new ≡ true
    → (is_slot n old ≡ true) ⊎ ((first ≤ n) × (n < first + 8))
old_or_new n first old new grown some there = elim (cases_lt n first) [
  | inl less ↦ inl (slot_within n old (slot_bounds n new there).0 (within n first old grown.starts less))
  | inr more ↦ inr (more, below n first (page_count old) (page_count new) some grown.starts grown.longer (slot_bounds n new there).1)
]
  where
    within : (n first : ℕ) (old : Pages) → first ≡ 8 * (page_count old - 2) + 1 → n < first → n ≤ slot_count old
    within n first old starts less = omega arith

    below : (n first a b : ℕ) → 2 ≤ a → first ≡ 8 * (a - 2) + 1 → b ≡ a + 1 → n ≤ 8 * (b - 2) → n < first + 8
    below n first a b some starts more bound = omega arith

pub grown_arena : (first : ℕ) (old new : Pages) → IsArena old → (header_of old).first_free.0 ≡ 0
    → live_count old < slot_limit → GrownPages first old new → IsArena new
grown_arena first old new arena full few grown =
    record {
      whole = grown.whole;
      some_page = more (page_count old) (page_count new) grown.longer arena.some_page;
      few = room (page_count old) (page_count new) grown.longer arena.some_page
          (subst (λ c. c < slot_limit) (all_live old arena full) few);
      told = ap (λ (h : Header). h.pages) grown.header ∙ sym grown.longer;
      slots = record {
        rows = λ n there. elim (old_or_new n first old new grown arena.some_page there) [
          | inl before ↦ subst IsSome (sym (grown.kept n before)) (arena.slots.rows n before)
          | inr added ↦
              let row = added_row n first old new grown added.0 added.1 in
              subst IsSome (sym row.1) refl
        ];
        free = record {
          chain = range_with_len first 8;
          first = ap (λ (h : Header). h.first_free) grown.header;
          linked = linked_range 7 first new grown.linked grown.last;
          whole = λ n free. elim (old_or_new n first old new grown arena.some_page (free_slot n new free)) [
            | inl before ↦
                absurd (not_free n old (live_each n old arena full before)
                (sym (ap (λ r. is_some r && not (is_some (option_and_then live_row r))) (grown.kept n before)) ∙ free))
            | inr added ↦ in_range n first 8 added.0 added.1
          ];
        };
      };
    }
  where
    more : (a b : ℕ) → b ≡ a + 1 → 2 ≤ a → 2 ≤ b
    more a b longer some = omega arith

    room : (a b : ℕ) → b ≡ a + 1 → 2 ≤ a → 8 * (a - 2) < slot_limit → 8 * (b - 2) ≤ slot_limit
    room a b longer some below = omega arith

count_same : (first : ℕ) (old new : Pages) → GrownPages first old new → 2 ≤ page_count old
    → ((n : ℕ) → live_at n new ≡ live_at n old) → ((n : ℕ) → 1 + slot_count old ≤ n → is_live n new ≡ false)
    → live_count new ≡ live_count old
unfolding live_count
count_same first old new grown some live past =
    ap (passed (λ n. is_live n new) 1) (size (page_count old) (page_count new) some grown.longer)
    ∙ passed_past (λ n. is_live n new) 1 (slot_count old) 8 past
    ∙ passed_same (λ n. is_live n old) (λ n. is_live n new) 1 (slot_count old) (λ n _. ap is_some (live n))
  where
    size : (a b : ℕ) → 2 ≤ a → b ≡ a + 1 → 8 * (b - 2) ≡ 8 * (a - 2) + 8
    size a b some more = omega arith

pub grown_makes : (first : ℕ) (old new : Pages) → IsArena old → (header_of old).first_free.0 ≡ 0
    → GrownPages first old new → MakesFree old new
grown_makes first old new arena full grown =
    record {
      free = λ none. some first (page_count old) grown.starts
          (sym (ap (λ (h : Header). h.first_free.0) grown.header) ∙ none);
      live = live;
      rows = grown.kept;
      still = λ n there.
          slot_within n new (slot_bounds n old there).0
          (further n (page_count old) (page_count new) grown.longer (slot_bounds n old there).1);
      count = as_many;
      header = keeps_fields old new (page_count old + 1) (record { 0 = first }) grown.header;
      pages =
          subst (λ p. ChangesOnly (header_page ∷ p ∷ []) old new)
          (sym (ap (λ (h : Header). slot_page h.first_free.0) grown.header ∙ page first (page_count old) arena.some_page grown.starts))
          grown.pages;
      longer = longer (page_count old) (page_count new) grown.longer;
    }
  where
    some : (first count : ℕ) → first ≡ 8 * (count - 2) + 1 → first ≡ 0 → ⊥
    some first count starts none = omega arith

    further : (n a b : ℕ) → b ≡ a + 1 → n ≤ 8 * (a - 2) → n ≤ 8 * (b - 2)
    further n a b more within = omega arith

    page : (first count : ℕ) → 2 ≤ count → first ≡ 8 * (count - 2) + 1 → slot_page first ≡ count
    page first count some starts = omega arith

    longer : (a b : ℕ) → b ≡ a + 1 → a ≤ b
    longer a b more = omega arith

    not_there : (n : ℕ) → is_slot n old ≡ false → live_at n new ≡ live_at n old
    not_there n none = elim (cases_Bool (is_slot n new)) [
      | inl there ↦ elim (old_or_new n first old new grown arena.some_page there) [
        | inl before ↦ absurd (true≢false (sym before ∙ none))
        | inr added ↦
            let row = added_row n first old new grown added.0 added.1 in
            ap (option_and_then live_row) row.1 ∙ sym (ap (option_and_then live_row) (no_slot n old none))
      ]
      | inr still_none ↦
          ap (option_and_then live_row) (no_slot n new still_none)
          ∙ sym (ap (option_and_then live_row) (no_slot n old none))
    ]

    live : (n : ℕ) → live_at n new ≡ live_at n old
    live n = elim (cases_Bool (is_slot n old)) [
      | inl there ↦ ap (option_and_then live_row) (grown.kept n there)
      | inr none ↦ not_there n none
    ]

    past : (n : ℕ) → 1 + slot_count old ≤ n → is_live n new ≡ false
    past n above =
        let none : is_slot n old ≡ false = elim (cases_Bool (is_slot n old)) [
          | inl there ↦ absurd (never n (slot_count old) above (slot_bounds n old there).1)
          | inr none ↦ none
        ] in
        ap is_some (live n ∙ ap (option_and_then live_row) (no_slot n old none))
      where
        never : (n count : ℕ) → 1 + count ≤ n → n ≤ count → ⊥
        never n count above within = omega arith

    as_many : live_count new ≡ live_count old
    as_many = count_same first old new grown arena.some_page live past

-- no store has more slots than before a page more
pub grown_few : (old blank : Pages) → IsArena old → (header_of old).first_free.0 ≡ 0 → live_count old < slot_limit
    → blank ≡ with_blank old → slot_count blank ≤ slot_limit
grown_few old blank arena full few is =
    room (page_count old) (page_count blank) (ap page_count is ∙ blank_count old) arena.some_page
    (subst (λ c. c < slot_limit) (all_live old arena full) few)
  where
    room : (a b : ℕ) → b ≡ a + 1 → 2 ≤ a → 8 * (a - 2) < slot_limit → 8 * (b - 2) ≤ slot_limit
    room a b longer some below = omega arith
