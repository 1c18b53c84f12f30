-- A chain of free slots has all of them exactly where it is as long as they are many.
use Rattle.std.proofs.Common.{◌≡◌, ◌≢◌, ◌∙◌, ◌==◌, ◌+◌, ◌-◌, ◌<◌, ◌≤◌, ◌&&◌, ◌||◌, ◌⊎◌, ◌∷◌, [], ℕ, List, Bool, ap, arith, cond, drop}
use Rattle.std.proofs.Common.{eq-eqb, eqb, eqb-true, false, filter, inl, inr, is_some, length, None, not, Option, refl, Some}
use Rattle.std.proofs.Common.{subst, suc, sym, true, zero}
use Rattle.std.specs.Cmp.{IsEquivalence}
use Rattle.std.specs.List.{AllByRecursion, IsDistinct, range_with_len}
use Rattle.std.specs.Option.{option_and_then}
use Rattle.std.proofs.lemmas.Bool.{cases_Bool, cases_eq, ne_eqb, or_cases, or_parts, or_right, true≢false}
use Rattle.std.proofs.lemmas.List.{drop-drop, length-drop}
use Rattle.std.proofs.lemmas.Map.Keys.{IsDistinct-cons}
use Rattle.std.proofs.lemmas.Map.Made.{length-le_from_is_member}
use Rattle.pl_base.specs.declared.id.Slot.{Slot}
use Rattle.pl_sheets.specs.Sheets.{Pages}
use Rattle.pl_slot.specs.declared.row.SlotRow.{SlotRow}
use Rattle.pl_slot.specs.declared.row.SlotRow.TheVariants.{Free, Origin, Place, Visit, Item, Text}
use Rattle.pl_slot.specs.Arena.{AreLinked, HasFreeChain, first_in, header_of, is_among, is_free, is_slot, live_row}
use Rattle.pl_slot.specs.Arena.{row_at, slot_count, slots_of}
use Rattle.pl_slot.specs.Checking.{free_count, link_of, next_free}
use Rattle.pl_slot.proofs.ArenaLaws.{free_slot}
use Rattle.pl_slot.proofs.ChainLaws.{member_free, once}
use Rattle.pl_slot.proofs.CountLaws.{passed}
use Rattle.pl_slot.proofs.SlotPlaces.{no_slot, slot_bounds}

equal_numbers : IsEquivalence eqb
equal_numbers =
    record {
      refl = λ x. eq-eqb x x refl;
      symm = turned;
      congr = λ x y z same. ap (λ k. eqb k z) (eqb-true x y same);
    }
  where
    turned : (x y : ℕ) → eqb x y ≡ eqb y x
    turned x y = elim (cases_eq x y) [
      | inl same ↦ eq-eqb x y same ∙ sym (eq-eqb y x (sym same))
      | inr apart ↦ ne_eqb x y apart ∙ sym (ne_eqb y x (λ same. apart (sym same)))
    ]

pub none_equal : (n : ℕ) (ns : List ℕ) → is_among n ns ≡ false → AllByRecursion (λ m. eqb n m ≡ false) ns
none_equal n [] none = tt
none_equal n (m ∷ ns) none =
    let parts = or_parts (n == m) (is_among n ns) none in
    (parts.0, none_equal n ns parts.1)

-- ---- numbers of a range that pass

pub among_range : (p : ℕ → Bool) (n from count : ℕ) → from ≤ n → n < from + count → p n ≡ true
    → is_among n (filter p (range_with_len from count)) ≡ true
among_range p n from zero above below passes = absurd (omega arith)
among_range p n from (suc count) above below passes = elim (cases_eq n from) [
  | inl here ↦
      let first : p from ≡ true = ap p (sym here) ∙ passes in
      ap (λ b. is_among n (cond b (from ∷ filter p (range_with_len (from + 1) count))
      (filter p (range_with_len (from + 1) count)))) first
      ∙ ap (λ b. b || is_among n (filter p (range_with_len (from + 1) count))) (eq-eqb n from here)
  | inr apart ↦
      further (p from) from n (filter p (range_with_len (from + 1) count))
      (among_range p n (from + 1) count (more from n above apart) (omega arith) passes)
]
  where
    further : (b : Bool) (m n : ℕ) (ns : List ℕ) → is_among n ns ≡ true → is_among n (cond b (m ∷ ns) ns) ≡ true
    further true m n ns among = or_right (n == m) (is_among n ns) among
    further false m n ns among = among

    more : (from n : ℕ) → from ≤ n → n ≢ from → from + 1 ≤ n
    more from n above apart = elim (cases_eq n from) [ inl is ↦ absurd (apart is) | inr other ↦ omega arith ]

pub passes_within : (p : ℕ → Bool) (n from count : ℕ) → is_among n (filter p (range_with_len from count)) ≡ true
    → (p n ≡ true) × (from ≤ n)
passes_within p n from zero among = absurd (true≢false (sym among))
passes_within p n from (suc count) among = elim (cases_Bool (p from)) [
  | inl passes ↦
      let there : (n == from || is_among n (filter p (range_with_len (from + 1) count))) ≡ true =
      subst (λ b. is_among n (cond b (from ∷ filter p (range_with_len (from + 1) count))
      (filter p (range_with_len (from + 1) count))) ≡ true) passes among in
      elim (or_cases (n == from) (is_among n (filter p (range_with_len (from + 1) count))) there) [
        | inl here ↦ (ap p (eqb-true n from here) ∙ passes, omega (arith, eqb-true n from here))
        | inr rest ↦
            let found = passes_within p n (from + 1) count rest in
            (found.0, omega (arith, found.1))
      ]
  | inr fails ↦
      let found = passes_within p n (from + 1) count
      (subst (λ b. is_among n (cond b (from ∷ filter p (range_with_len (from + 1) count))
      (filter p (range_with_len (from + 1) count))) ≡ true) fails among) in
      (found.0, omega (arith, found.1))
]

pub range_distinct : (p : ℕ → Bool) (from count : ℕ) → IsDistinct eqb (filter p (range_with_len from count))
unfolding IsDistinct
range_distinct p from zero = tt
range_distinct p from (suc count) =
    let rest : List ℕ = filter p (range_with_len (from + 1) count) in
    let apart : is_among from rest ≡ false = never in
    elim (p from) as (λ b. IsDistinct eqb (cond b (from ∷ rest) rest)) [
      | true ↦ IsDistinct-cons eqb from rest (none_equal from rest apart) (range_distinct p (from + 1) count)
      | false ↦ range_distinct p (from + 1) count
    ]
  where
    less : (n : ℕ) → n + 1 ≤ n → ⊥
    less n above = omega arith

    never : is_among from (filter p (range_with_len (from + 1) count)) ≡ false
    never = elim (cases_Bool (is_among from (filter p (range_with_len (from + 1) count)))) [
      | inl among ↦ absurd (less from (passes_within p from (from + 1) count among).1)
      | inr apart ↦ apart
    ]

-- ---- the free slots

abbrev free_slots : Pages → List ℕ
free_slots pages = filter (λ n. is_free n pages) (slots_of pages)

free_among : (n : ℕ) (pages : Pages) → is_free n pages ≡ true → is_among n (free_slots pages) ≡ true
free_among n pages free =
    let bounds = slot_bounds n pages (free_slot n pages free) in
    among_range (λ k. is_free k pages) n 1 (slot_count pages) bounds.0 (below n (slot_count pages) bounds.1) free
  where
    below : (n count : ℕ) → n ≤ count → n < 1 + count
    below n count within = omega arith

pub chain_distinct : (ns : List ℕ) (pages : Pages) → AreLinked ns pages → IsDistinct eqb ns
unfolding IsDistinct
chain_distinct [] pages linked = tt
chain_distinct (n ∷ ns) pages linked =
    IsDistinct-cons eqb n ns (none_equal n ns (once n ns pages linked)) (chain_distinct ns pages linked.1)

member_is_free : (n : ℕ) (ns : List ℕ) (pages : Pages) → AreLinked ns pages → is_among n ns ≡ true
    → is_free n pages ≡ true
member_is_free n ns pages linked among =
    let found = member_free n ns pages linked among in
    ap (λ r. is_some r && not (is_some (option_and_then live_row r))) found.1

-- the chain of all free slots is as long as they are many
pub chain_long : (pages : Pages) (chain : HasFreeChain pages) → length chain.chain ≡ free_count pages
unfolding free_count
chain_long pages chain =
    let at_most : length chain.chain ≤ length (free_slots pages) =
    length-le_from_is_member equal_numbers chain.chain (free_slots pages)
    (chain_distinct chain.chain pages chain.linked)
    (λ n among. free_among n pages (member_is_free n chain.chain pages chain.linked among)) in
    let at_least : length (free_slots pages) ≤ length chain.chain =
    length-le_from_is_member equal_numbers (free_slots pages) chain.chain
    (range_distinct (λ n. is_free n pages) 1 (slot_count pages))
    (λ n among. chain.whole n (passes_within (λ k. is_free k pages) n 1 (slot_count pages) among).0) in
    omega arith

-- a chain that is as long has all of them
pub chain_whole : (ns : List ℕ) (pages : Pages) → AreLinked ns pages → length ns ≡ free_count pages
    → (n : ℕ) → is_free n pages ≡ true → is_among n ns ≡ true
unfolding free_count
chain_whole ns pages linked long n free = elim (cases_Bool (is_among n ns)) [
  | inl among ↦ among
  | inr apart ↦
      let at_most : length (n ∷ ns) ≤ length (free_slots pages) =
      length-le_from_is_member equal_numbers (n ∷ ns) (free_slots pages)
      (IsDistinct-cons eqb n ns (none_equal n ns apart) (chain_distinct ns pages linked))
      (λ m among. each m (or_cases (m == n) (is_among m ns) among)) in
      absurd (longer (length ns) (length (n ∷ ns)) (length (free_slots pages)) refl at_most long)
]
  where
    each : (m : ℕ) → (m == n ≡ true) ⊎ (is_among m ns ≡ true) → is_among m (free_slots pages) ≡ true
    each m told = elim told [
      | inl here ↦ ap (λ k. is_among k (free_slots pages)) (eqb-true m n here) ∙ free_among n pages free
      | inr there ↦ free_among m pages (member_is_free m ns pages linked there)
    ]

    longer : (a b c : ℕ) → b ≡ suc a → b ≤ c → a ≡ c → ⊥
    longer a b c more within same = omega arith

-- ---- a chain that is followed

-- a chain from this slot on
pub record IsChain (next : Slot) (ns : List ℕ) (pages : Pages) : Type 0 where
  pub first : next ≡ first_in ns
  pub linked : AreLinked ns pages

-- a chain of this length from the slot on
pub record HasChain (first : Slot) (count : ℕ) (pages : Pages) : Type 0 where
  pub chain : List ℕ
  pub is : IsChain first chain pages
  pub long : length chain ≡ count

-- after so many steps from the first slot on
pub record IsFollowed (count : ℕ) (first next : Slot) (pages : Pages) : Type 0 where
  pub more : (rest : List ℕ) → IsChain next rest pages → HasChain first (count + length rest) pages
  pub within : (ns : List ℕ) → IsChain first ns pages → (count ≤ length ns) × IsChain next (drop count ns) pages

pub starts : (first : Slot) (pages : Pages) → IsFollowed 0 first first pages
starts first pages =
    record {
      more = λ rest is. record { chain = rest; is = is; long = none (length rest) };
      within = λ ns is. (omega arith, is);
    }
  where
    none : (n : ℕ) → n ≡ 0 + n
    none n = omega arith

from_row : (row : SlotRow) (next : Slot) → Some next ≡ link_of row → Some row ≡ Some (Free next)
from_row (Free other) next is = ap (λ s. Some (Free s)) (same other next is)
  where
    same : (a b : Slot) → Some b ≡ Some a → a ≡ b
    same a b is = cc
from_row (Origin live_previous live_next first_page last_page total) next is = absurd (cc)
from_row
    (Place typed hidden live_previous live_next id origin origin_previous origin_next first_visit
    last_visit first_reference last_reference url_text url_length title_text title_length frecency
    count) next is = absurd (cc)
from_row
    (Visit transition live_previous live_next id page page_previous page_next source
    target_previous target_next first_target last_target date) next is = absurd (cc)
from_row
    (Item kind live_previous live_next id parent sibling_previous sibling_next first_child
    last_child page reference_previous reference_next title_text title_length added modified) next is = absurd (cc)
from_row (Text used link payload) next is = absurd (cc)

from_option : (row : Option SlotRow) (next : Slot) → Some next ≡ option_and_then link_of row → row ≡ Some (Free next)
from_option None next is = absurd (cc)
from_option (Some row) next is = from_row row next is

linked_row : (n : ℕ) (next : Slot) (pages : Pages) → Some next ≡ next_free n pages
    → row_at n pages ≡ Some (Free next)
linked_row n next pages told = from_option (row_at n pages) next told

pub steps_on : (count : ℕ) (first next behind : Slot) (pages : Pages) → IsFollowed count first next pages
    → Some behind ≡ next_free next.0 pages → IsFollowed (count + 1) first behind pages
steps_on count first next behind pages before told =
    let row = linked_row next.0 behind pages told in
    record {
      more = λ rest is.
          let found = before.more (next.0 ∷ rest) (record {
            first = refl;
            linked = (row ∙ ap (λ s. Some (Free s)) is.first, is.linked);
          }) in
          record { chain = found.chain; is = found.is; long = found.long ∙ one_more (length rest) };
      within = λ ns is.
          let found = before.within ns is in
          further ns (drop count ns) refl found.0 found.1.first found.1.linked row;
    }
  where
    one_more : (n : ℕ) → count + suc n ≡ count + 1 + n
    one_more n = omega arith

    of_free : (a b : Slot) → Some (Free a) ≡ Some (Free b) → a ≡ b
    of_free a b same = cc

    longer : (a b : ℕ) → a - count ≡ suc b → count + 1 ≤ a
    longer a b is = omega arith

    further : (ns rest : List ℕ) → drop count ns ≡ rest → count ≤ length ns → next ≡ first_in rest → AreLinked rest pages
        → row_at next.0 pages ≡ Some (Free behind)
        → (count + 1 ≤ length ns) × IsChain behind (drop (count + 1) ns) pages
    further ns [] is within first linked row =
        let none : Some (Free behind) ≡ None =
        sym row ∙ ap (λ (s : Slot). row_at s.0 pages) first ∙ no_slot 0 pages refl in
        absurd (cc)
    further ns (n ∷ rest) is within first linked row =
        let here : row_at n pages ≡ Some (Free behind) = ap (λ (s : Slot). row_at s.0 pages) (sym first) ∙ row in
        let dropped : drop (count + 1) ns ≡ rest = sym (drop-drop 1 count ns) ∙ ap (drop 1) is in (
          longer (length ns) (length rest) (sym (length-drop count ns) ∙ ap length is),
          record {
            first = of_free behind (first_in rest) (sym here ∙ linked.0) ∙ ap first_in (sym dropped);
            linked = subst (λ l. AreLinked l pages) (sym dropped) linked.1;
          },
        )

-- a chain of all free slots goes on where not all were met
pub goes_on : (count : ℕ) (first next : Slot) (pages : Pages) → IsFollowed count first next pages
    → first ≡ (header_of pages).first_free → count < free_count pages → None ≡ next_free next.0 pages
    → HasFreeChain pages → ⊥
goes_on count first next pages followed is few stops chain =
    let long = chain_long pages chain in
    let found = followed.within chain.chain (record { first = is ∙ chain.first; linked = chain.linked }) in
    from (drop count chain.chain) (length-drop count chain.chain) found.1.first found.1.linked long
  where
    from : (rest : List ℕ) → length rest ≡ length chain.chain - count → next ≡ first_in rest → AreLinked rest pages
        → length chain.chain ≡ free_count pages → ⊥
    from [] left first linked long = omega (arith, left, long, few)
    from (n ∷ rest) left first linked long =
        let here : next_free next.0 pages ≡ Some (first_in rest) =
        ap (λ (s : Slot). next_free s.0 pages) first ∙ ap (option_and_then link_of) linked.0 in
        let both : None ≡ Some (first_in rest) = stops ∙ here in
        absurd (cc)

-- all were met and the last one names none: this is the chain
pub all_met : (count : ℕ) (first next : Slot) (pages : Pages) → IsFollowed count first next pages
    → first ≡ (header_of pages).first_free → count ≡ free_count pages → next.0 ≡ 0 → HasFreeChain pages
all_met count first next pages followed is all ends =
    let found = followed.more [] (record { first = ap (λ n. record { 0 = n }) ends; linked = tt }) in
    record {
      chain = found.chain;
      first = sym is ∙ found.is.first;
      linked = found.is.linked;
      whole = chain_whole found.chain pages found.is.linked (found.long ∙ none count ∙ all);
    }
  where
    none : (n : ℕ) → n + 0 ≡ n
    none n = omega arith

pub not_all : (count : ℕ) (first next : Slot) (pages : Pages) → IsFollowed count first next pages
    → first ≡ (header_of pages).first_free → count ≡ free_count pages → next.0 ≢ 0 → HasFreeChain pages → ⊥
not_all count first next pages followed is all more chain =
    let long = chain_long pages chain in
    let found = followed.within chain.chain (record { first = is ∙ chain.first; linked = chain.linked }) in
    from (drop count chain.chain) (length-drop count chain.chain) found.1.first long
  where
    from : (rest : List ℕ) → length rest ≡ length chain.chain - count → next ≡ first_in rest
        → length chain.chain ≡ free_count pages → ⊥
    from [] left first long = more (ap (λ (s : Slot). s.0) first)
    from (n ∷ rest) left first long = omega (arith, left, long, all)

-- ---- how they are counted

pub counted_all : (pages : Pages) (slot free : ℕ) → free ≡ passed (λ n. is_free n pages) 1 (slot - 1)
    → slot - 1 ≡ slot_count pages → free ≡ free_count pages
unfolding free_count
counted_all pages slot free counted all = counted ∙ ap (passed (λ n. is_free n pages) 1) all

pub none_behind : (n : ℕ) (pages : Pages) → (1 ≤ n → n ≤ slot_count pages → ⊥) → None ≡ next_free n pages
none_behind n pages outside =
    sym (ap (option_and_then link_of) (no_slot n pages (missing (cases_Bool (is_slot n pages)))))
  where
    missing : (is_slot n pages ≡ true) ⊎ (is_slot n pages ≡ false) → is_slot n pages ≡ false
    missing told = elim told [
      | inl there ↦
          let bounds = slot_bounds n pages there in
          absurd (outside bounds.0 bounds.1)
      | inr none ↦ none
    ]
