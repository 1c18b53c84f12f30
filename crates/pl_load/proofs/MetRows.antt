-- The slots of rows and of their texts: they are live, and those of any reading of the file.
use Rattle.std.proofs.Common.{◌≡◌, ◌≢◌, ◌∷◌, ◌++◌, [], eqb, ℕ, List, Some, subst, sym, true}
use Rattle.std.proofs.lemmas.List.Elements.{All-from_recursion, recursion_from_All}
use Rattle.std.specs.List.{All, AllByRecursion, IsDistinct, flat_map}
use Rattle.pl_base.specs.declared.id.Slot.{Slot}
use Rattle.pl_base.proofs.ListLaws.{all_append, to_map, weaker}
use Rattle.pl_load.specs.declared.held.LiveRows.{LiveRows}
use Rattle.pl_load.specs.Held.{AreHeld, held_slots}
use Rattle.pl_load.specs.Reads.{AreReadFrom, Reads, met_slots, numbers}
use Rattle.pl_load.proofs.HeldKinds.{SameHeld, kinds_listed, same_held}
use Rattle.pl_load.proofs.MetTexts.{parts_live}
use Rattle.pl_reading.specs.Texts.{IsHeld, row_texts, text_parts}
use Rattle.pl_record.specs.declared.rows.TextAt.{TextAt}
use Rattle.pl_record.proofs.LaidSlots.{kind_live}
use Rattle.pl_sheets.specs.Sheets.{Pages}
use Rattle.pl_slot.specs.declared.kind.LiveKind.TheVariants as live
use Rattle.pl_slot.specs.declared.kind.SlotKind.{SlotKind}
use Rattle.pl_slot.specs.declared.kind.SlotKind.TheVariants as kinds
use Rattle.pl_slot.specs.Arena.{is_among, is_live}
use Rattle.pl_slot.specs.Links.{kind_at}

-- the texts of the rows
abbrev pub held_texts : LiveRows → List TextAt
held_texts h = row_texts h.places.items h.items.items

distinct_behind : (xs ys : List ℕ) → IsDistinct eqb (xs ++ ys) → IsDistinct eqb ys
unfolding IsDistinct
distinct_behind [] ys once = once
distinct_behind (x ∷ xs) ys once = distinct_behind xs ys once.1

module _ (pages : Pages) where
  abbrev pub Live : ℕ → Type 0
  Live n = is_live n pages ≡ true

  numbers_live : (kind : SlotKind) → kind ≢ kinds.Free → (slots : List Slot)
      → All (λ (s : Slot). kind_at s.0 pages ≡ Some kind) slots → AllByRecursion Live (numbers slots)
  numbers_live kind other slots all =
      to_map Live (λ (s : Slot). s.0) slots
      (weaker (λ (s : Slot). kind_at s.0 pages ≡ Some kind) (λ (s : Slot). Live s.0) slots
      (λ s is. kind_live s.0 kind pages is other)
      (recursion_from_All (λ (s : Slot). kind_at s.0 pages ≡ Some kind) slots all))

  -- with these slots of texts
  pub all_live : (h : LiveRows) → AreHeld pages h → All (IsHeld pages) (held_texts h) → (texts : List ℕ)
      → texts ≡ flat_map (text_parts pages) (held_texts h)
      → All Live
      (numbers h.live.origins.items ++ numbers h.live.places.items ++ numbers h.live.visits.items
      ++ numbers h.live.items.items ++ texts)
  all_live h held there texts are =
      let origins =
      numbers_live kinds.Origin (λ same. absurd (cc)) h.live.origins.items
      (kinds_listed live.Origin h.live.origins.items pages held.listed.origins) in
      let places =
      numbers_live kinds.Place (λ same. absurd (cc)) h.live.places.items
      (kinds_listed live.Place h.live.places.items pages held.listed.places) in
      let visits =
      numbers_live kinds.Visit (λ same. absurd (cc)) h.live.visits.items
      (kinds_listed live.Visit h.live.visits.items pages held.listed.visits) in
      let items =
      numbers_live kinds.Item (λ same. absurd (cc)) h.live.items.items
      (kinds_listed live.Item h.live.items.items pages held.listed.items) in
      let parts =
      subst (AllByRecursion Live) (sym are)
      (parts_live pages (held_texts h) (recursion_from_All (IsHeld pages) (held_texts h) there)) in
      All-from_recursion Live _
      (all_append Live _ texts
      (all_append Live _ (numbers h.live.items.items)
      (all_append Live _ (numbers h.live.visits.items)
      (all_append Live (numbers h.live.origins.items) (numbers h.live.places.items) origins places) visits) items)
      parts)

  -- ---- any reading

  module _ (h : LiveRows) (held : AreHeld pages h) (reads : Reads) (from : AreReadFrom pages reads) where
    same : SameHeld h reads
    same = same_held pages h reads held from

    texts_same : row_texts reads.places reads.items ≡ held_texts h
    texts_same = λ i. row_texts (same.places i) (same.items i)

    pub texts_there : All (IsHeld pages) (held_texts h)
    texts_there = subst (All (IsHeld pages)) texts_same from.texts

    met_same : met_slots pages reads ≡ held_slots pages h
    met_same =
        λ i.
        numbers (same.origins i) ++ numbers (same.place_slots i) ++ numbers (same.visit_slots i)
        ++ numbers (same.item_slots i) ++ flat_map (text_parts pages) (texts_same i)

    pub met_once : IsDistinct eqb (held_slots pages h)
    met_once = subst (IsDistinct eqb) met_same from.once

    pub met_whole : (n : ℕ) → is_live n pages ≡ true → is_among n (held_slots pages h) ≡ true
    met_whole n is = subst (λ (ns : List ℕ). is_among n ns ≡ true) met_same (from.whole n is)

    pub texts_once : IsDistinct eqb (flat_map (text_parts pages) (held_texts h))
    texts_once =
        distinct_behind
        (numbers h.live.origins.items ++ numbers h.live.places.items ++ numbers h.live.visits.items
        ++ numbers h.live.items.items)
        (flat_map (text_parts pages) (held_texts h)) met_once
