-- The slots of texts that are there: they are live, as many as the lengths want, and where none is
-- met twice no more than there are.
use Rattle.std.proofs.Common.{◌≡◌, ◌∙◌, ◌+◌, ◌<◌, ◌≤◌, ◌∷◌, [], ℕ, List, ap, arith, drop, eqb, is_some, length}
use Rattle.std.proofs.Common.{false, length-append, refl, subst, suc, sym, true}
use Rattle.std.proofs.lemmas.Bool.{or_cases}
use Rattle.std.proofs.lemmas.List.Elements.{recursion_from_All}
use Rattle.std.proofs.lemmas.List.Sums.{sum_by-cons}
use Rattle.std.proofs.lemmas.Map.Steps.{length-le_from_distinct_below}
use Rattle.std.proofs.Common.{◌==◌, eqb-true, inl, inr}
use Rattle.std.specs.List.{All, AllByRecursion, IsDistinct, flat_map}
use Rattle.pl_base.proofs.ListLaws.{all_append}
use Rattle.pl_base.proofs.Truths.{no_test}
use Rattle.pl_reading.specs.Texts.{IsHeld, text_parts, wanted}
use Rattle.pl_reading.proofs.Parts.{parts_are}
use Rattle.pl_record.specs.declared.rows.TextAt.{TextAt}
use Rattle.pl_record.proofs.LaidSlots.{among_holds}
use Rattle.pl_sheets.specs.Sheets.{Pages}
use Rattle.pl_slot.specs.Arena.{is_among, is_live, slot_count}
use Rattle.pl_slot.specs.Slot.{payload_size}
use Rattle.pl_slot.proofs.ArenaLaws.{live_slot}
use Rattle.pl_slot.proofs.ChainCount.{none_equal}
use Rattle.pl_slot.proofs.SlotPlaces.{slot_bounds}
use Rattle.pl_text.specs.Chunks.{Hold, chunk_count}
use Rattle.pl_text.proofs.HeldTexts.{held_count}

module _ (pages : Pages) where
  abbrev Live : ℕ → Type 0
  Live n = is_live n pages ≡ true

  hold_live : (ns text : List ℕ) → Hold ns text pages → AllByRecursion Live ns
  hold_live [] text held = tt
  hold_live (n ∷ ns) text held = (ap is_some held.1, hold_live ns (drop payload_size text) held.2)

  own_parts : (at : TextAt) (has : IsHeld pages at) → text_parts pages at ≡ has.1.slots
  own_parts at has = parts_are has.1.slots has.0 at pages has.1.held has.1.first has.2

  -- ---- all texts

  pub parts_live : (texts : List TextAt) → AllByRecursion (IsHeld pages) texts
      → AllByRecursion Live (flat_map (text_parts pages) texts)
  parts_live [] held = tt
  parts_live (t ∷ texts) held =
      all_append Live (text_parts pages t) (flat_map (text_parts pages) texts)
      (subst (AllByRecursion Live) (sym (own_parts t held.0)) (hold_live held.0.1.slots held.0.0 held.0.1.held))
      (parts_live texts held.1)

  pub parts_long : (texts : List TextAt) → AllByRecursion (IsHeld pages) texts
      → length (flat_map (text_parts pages) texts) ≡ wanted texts
  parts_long [] held = refl
  parts_long (t ∷ texts) held =
      let here : length (text_parts pages t) ≡ chunk_count t.length =
      ap length (own_parts t held.0) ∙ held_count held.0.1.slots held.0.0 pages held.0.1.held
      ∙ ap chunk_count held.0.2 in
      length-append (text_parts pages t) (flat_map (text_parts pages) texts)
      ∙ (λ i. here i + parts_long texts held.1 i)
      ∙ sym (sum_by-cons (λ (t : TextAt). chunk_count t.length) t texts)

  -- ---- live slots that differ are no more than there are

  zero_apart : (ns : List ℕ) → AllByRecursion Live ns → is_among 0 ns ≡ false
  zero_apart ns live =
      no_test (is_among 0 ns)
      (λ among.
      omega (arith, (slot_bounds 0 pages (live_slot 0 pages (among_holds Live 0 ns live among))).0))

  pub few : (ns : List ℕ) → IsDistinct eqb ns → AllByRecursion Live ns → length ns ≤ slot_count pages
  unfolding IsDistinct
  few ns distinct live =
      let most : length (0 ∷ ns) ≤ slot_count pages + 1 =
      length-le_from_distinct_below (0 ∷ ns) (slot_count pages + 1)
      (none_equal 0 ns (zero_apart ns live), distinct)
      (λ n among. elim (or_cases (n == 0) (is_among n ns) among) [
        | inl zero ↦ below_zero n (slot_count pages) (eqb-true n 0 zero)
        | inr member ↦
            below n (slot_count pages)
            (slot_bounds n pages (live_slot n pages (among_holds Live n ns live member))).1
      ]) in
      less (length ns) (slot_count pages) most
    where
      less : (a b : ℕ) → suc a ≤ b + 1 → a ≤ b
      less a b within = omega arith

      below_zero : (n count : ℕ) → n ≡ 0 → n < count + 1
      below_zero n count zero = omega arith

      below : (n count : ℕ) → n ≤ count → n < count + 1
      below n count within = omega arith

  pub too_many : (texts : List TextAt) → All (IsHeld pages) texts
      → IsDistinct eqb (flat_map (text_parts pages) texts) → slot_count pages < wanted texts → ⊥
  too_many texts held distinct more =
      let each = recursion_from_All (IsHeld pages) texts held in
      omega (
        arith,
        few (flat_map (text_parts pages) texts) distinct (parts_live texts each),
        parts_long texts each,
        more,
      )
