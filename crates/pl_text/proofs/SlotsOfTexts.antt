-- That no text has more slots than there are.
use Rattle.std.proofs.Common.{◌≡◌, ◌==◌, ◌+◌, ◌<◌, ◌≤◌, ◌∷◌, [], ℕ, List, arith, eqb}
use Rattle.std.proofs.Common.{drop, eqb-true, false, inl, inr, length, suc, true}
use Rattle.std.proofs.lemmas.Bool.{cases_Bool, or_cases}
use Rattle.std.proofs.lemmas.Map.Steps.{length-le_from_distinct_below}
use Rattle.std.specs.List.{IsDistinct}
use Rattle.pl_sheets.specs.Sheets.{Pages}
use Rattle.pl_slot.specs.Arena.{is_among, slot_count}
use Rattle.pl_slot.specs.Slot.{payload_size}
use Rattle.pl_slot.proofs.SlotPlaces.{slot_bounds}
use Rattle.pl_slot.proofs.ArenaLaws.{live_slot}
use Rattle.pl_slot.proofs.ChainCount.{none_equal}
use Rattle.pl_text.specs.Chunks.{Hold}
use Rattle.pl_text.proofs.HeldTexts.{held_once, member_live}

distinct : (ns t : List ℕ) (pages : Pages) → Hold ns t pages → IsDistinct eqb ns
unfolding IsDistinct
distinct [] t pages held = tt
distinct (n ∷ ns) t pages held =
    (none_equal n ns (held_once n ns t pages held), distinct ns (drop payload_size t) pages held.2)

-- the number of a member, from 1 to that of slots
member_bounds : (n : ℕ) (ns t : List ℕ) (pages : Pages) → Hold ns t pages → is_among n ns ≡ true
    → (1 ≤ n) × (n ≤ slot_count pages)
member_bounds n ns t pages held among =
    slot_bounds n pages (live_slot n pages (member_live n ns t pages held among))

zero_apart : (ns t : List ℕ) (pages : Pages) → Hold ns t pages → is_among 0 ns ≡ false
zero_apart ns t pages held = elim (cases_Bool (is_among 0 ns)) [
  | inl among ↦ absurd (omega (arith, (member_bounds 0 ns t pages held among).0))
  | inr none ↦ none
]

-- with slot 0, which is none, they stand below the number behind the last
pub held_few : (ns t : List ℕ) (pages : Pages) → Hold ns t pages → length ns ≤ slot_count pages
unfolding IsDistinct
held_few ns t pages held =
    let most : length (0 ∷ ns) ≤ slot_count pages + 1 =
    length-le_from_distinct_below (0 ∷ ns) (slot_count pages + 1)
    (none_equal 0 ns (zero_apart ns t pages held), distinct ns t pages held)
    (λ n among. elim (or_cases (n == 0) (is_among n ns) among) [
      | inl zero ↦ below_zero n (slot_count pages) (eqb-true n 0 zero)
      | inr member ↦ below n (slot_count pages) (member_bounds n ns t pages held member).1
    ]) in
    less (length ns) (slot_count pages) most
  where
    less : (a b : ℕ) → suc a ≤ b + 1 → a ≤ b
    less a b within = omega arith

    below_zero : (n count : ℕ) → n ≡ 0 → n < count + 1
    below_zero n count zero = omega arith

    below : (n count : ℕ) → n ≤ count → n < count + 1
    below n count within = omega arith
