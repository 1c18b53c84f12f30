-- What stands in the slots of a layout: each live slot is that of one row, or of one text.
use Rattle.std.proofs.Common.{◌≡◌, ◌≢◌, ◌∙◌, ◌⊎◌, ◌∷◌, ◌++◌, ◌==◌, [], ℕ, List, Option, Some, None, ap, drop, eq-eqb}
use Rattle.std.proofs.Common.{eqb-true, find, get_or, inl, inr, is_some, map, refl, subst, sym, take, true}
use Rattle.std.specs.Cmp.{nat_eq_equiv}
use Rattle.std.specs.List.{AllByRecursion, Contains, flat_map, list_any}
use Rattle.std.specs.Option.{option_and_then, option_map}
use Rattle.std.proofs.lemmas.Bool.{or_cases, true≢false}
use Rattle.std.proofs.lemmas.List.Elements.{recursion_from_All}
use Rattle.std.proofs.lemmas.List.Folds.{list_any-append, list_any_at}
use Rattle.pl_base.specs.declared.id.Slot.{Slot}
use Rattle.pl_base.specs.declared.id.VisitId.{VisitId}
use Rattle.pl_base.specs.Rows.{IsWellKept, Kept, KeptOrigin, KeptPage, origin_names}
use Rattle.pl_base.specs.Store.{Item, Visit}
use Rattle.pl_base.proofs.ListLaws.{all_append, list_any-alike, list_any-map, to_map, weaker}
use Rattle.pl_base.proofs.LookUps.{both, found_passes}
use Rattle.pl_record.specs.Form.{IsLaid}
use Rattle.pl_record.proofs.NamedSlots.{found_of}
use Rattle.pl_record.specs.Records.{HoldsRow, HoldsRows, HoldsTexts, Layout, item_record, origin_record, page_record}
use Rattle.pl_record.specs.Records.{row_slots, text_slots, visit_record}
use Rattle.pl_record.proofs.LookUps.{Found}
use Rattle.pl_record.proofs.PagesTold.{kind_told}
use Rattle.pl_record.proofs.RowSets.{row_of_live}
use Rattle.pl_sheets.specs.Sheets.{Pages}
use Rattle.pl_slot.specs.declared.kind.SlotKind.{SlotKind}
use Rattle.pl_slot.specs.declared.kind.SlotKind.TheVariants as kinds
use Rattle.pl_slot.specs.declared.row.SlotRow.{SlotRow}
use Rattle.pl_slot.specs.declared.row.SlotRow.TheVariants as rows
use Rattle.pl_slot.specs.Arena.{first_in, is_among, is_live, live_at, live_row, row_at}
use Rattle.pl_slot.specs.Links.{kind_at}
use Rattle.pl_slot.specs.Slot.{payload_size, slot_kind}
use Rattle.pl_text.specs.Chunks.{Hold, chunk_row}

-- ---- numbers among others

pub among_holds : (P : ℕ → Type 0) (n : ℕ) (ns : List ℕ) → AllByRecursion P ns → is_among n ns ≡ true → P n
among_holds P n [] all among = absurd (true≢false (sym among))
among_holds P n (m ∷ ns) all among = elim (or_cases (n == m) (is_among n ns) among) [
  | inl here ↦ subst P (sym (eqb-true n m here)) all.0
  | inr further ↦ among_holds P n ns all.1 further
]

pub among_either : (n : ℕ) (ms ns : List ℕ) → is_among n (ms ++ ns) ≡ true
    → (is_among n ms ≡ true) ⊎ (is_among n ns ≡ true)
among_either n ms ns among =
    or_cases (is_among n ms) (is_among n ns) (sym (list_any-append (λ m. n == m) ms ns) ∙ among)

pub contained_among : (n : ℕ) (ns : List ℕ) → Contains ns n → is_among n ns ≡ true
contained_among n ns has =
    list_any_at (λ m. n == m) ns has.0 n has.1 (eq-eqb n (get_or ns has.0 n) (sym has.2))

all_flat : {X : Type 0} (P : ℕ → Type 0) (f : X → List ℕ) (xs : List X)
    → AllByRecursion (λ x. AllByRecursion P (f x)) xs → AllByRecursion P (flat_map f xs)
all_flat P f [] all = tt
all_flat P f (x ∷ xs) all = all_append P (f x) (flat_map f xs) all.0 (all_flat P f xs all.1)

-- ---- the kind of a live slot

live_kind : (n : ℕ) (row : SlotRow) (pages : Pages) → live_at n pages ≡ Some row
    → kind_at n pages ≡ Some (slot_kind row)
unfolding kind_at
live_kind n row pages live = ap (option_map slot_kind) (row_of_live n row pages live)

pub kind_live : (n : ℕ) (kind : SlotKind) (pages : Pages) → kind_at n pages ≡ Some kind → kind ≢ kinds.Free
    → is_live n pages ≡ true
unfolding kind_at
kind_live n kind pages is other = choose (row_at n pages) is
  where
    choose : (o : Option SlotRow) → option_map slot_kind o ≡ Some kind
        → is_some (option_and_then live_row o) ≡ true
    choose None none = absurd (cc)
    choose (Some (rows.Free next)) free =
        let same : kind ≡ kinds.Free = cc in
        absurd (other same)
    choose (Some row) some = refl

-- the slot holds a part of a text
abbrev IsText : Pages → ℕ → Type 0
IsText pages n = kind_at n pages ≡ Some kinds.Text

part_kinds : (ns t : List ℕ) (pages : Pages) → Hold ns t pages
    → AllByRecursion (IsText pages) ns
part_kinds [] t pages held = tt
part_kinds (n ∷ ns) t pages held = (
  live_kind n (chunk_row (take payload_size t) (first_in ns)) pages held.1,
  part_kinds ns (drop payload_size t) pages held.2,
)

-- ---- the kinds of rows

module _ (at : Layout) (kept : Kept) (pages : Pages) (held : HoldsRows at kept pages) where
  pub origin_kinds : AllByRecursion (λ (o : KeptOrigin). kind_at o.origin.0 pages ≡ Some kinds.Origin) kept.origins
  origin_kinds =
      weaker (λ (o : KeptOrigin). HoldsRow (origin_record o) pages)
      (λ (o : KeptOrigin). kind_at o.origin.0 pages ≡ Some kinds.Origin) kept.origins
      (λ o is. kind_told o.origin (origin_record o).row pages is)
      (recursion_from_All (λ (o : KeptOrigin). HoldsRow (origin_record o) pages) kept.origins held.origins)

  pub place_kinds
      : AllByRecursion (λ (p : KeptPage). kind_at (at.page p.page.id).0 pages ≡ Some kinds.Place) kept.pages
  place_kinds =
      weaker (λ (p : KeptPage). HoldsRow (page_record at p) pages)
      (λ (p : KeptPage). kind_at (at.page p.page.id).0 pages ≡ Some kinds.Place) kept.pages
      (λ p is. kind_told (at.page p.page.id) (page_record at p).row pages is)
      (recursion_from_All (λ (p : KeptPage). HoldsRow (page_record at p) pages) kept.pages held.places)

  pub visit_kinds : AllByRecursion (λ (v : Visit). kind_at (at.visit v.id).0 pages ≡ Some kinds.Visit) kept.visits
  visit_kinds =
      weaker (λ (v : Visit). HoldsRow (visit_record at v) pages)
      (λ (v : Visit). kind_at (at.visit v.id).0 pages ≡ Some kinds.Visit) kept.visits
      (λ v is. kind_told (at.visit v.id) (visit_record at v).row pages is)
      (recursion_from_All (λ (v : Visit). HoldsRow (visit_record at v) pages) kept.visits held.visits)

  pub item_kinds : AllByRecursion (λ (i : Item). kind_at (at.item i.id).0 pages ≡ Some kinds.Item) kept.items
  item_kinds =
      weaker (λ (i : Item). HoldsRow (item_record at kept.items i) pages)
      (λ (i : Item). kind_at (at.item i.id).0 pages ≡ Some kinds.Item) kept.items
      (λ i is. kind_told (at.item i.id) (item_record at kept.items i).row pages is)
      (recursion_from_All (λ (i : Item). HoldsRow (item_record at kept.items i) pages) kept.items held.items)

  -- the name of a page's origin is the slot of one
  pub named_kinds : IsWellKept kept
      → AllByRecursion (λ (p : KeptPage). kind_at p.origin.0 pages ≡ Some kinds.Origin) kept.pages
  named_kinds well =
      weaker (λ (p : KeptPage). Contains (origin_names kept) p.origin.0)
      (λ (p : KeptPage). kind_at p.origin.0 pages ≡ Some kinds.Origin) kept.pages
      (λ p known.
      among_holds (λ n. kind_at n pages ≡ Some kinds.Origin) p.origin.0 (origin_names kept)
      (to_map (λ n. kind_at n pages ≡ Some kinds.Origin) (λ (o : KeptOrigin). o.origin.0) kept.origins origin_kinds)
      (contained_among p.origin.0 (origin_names kept) known))
      (recursion_from_All (λ (p : KeptPage). Contains (origin_names kept) p.origin.0) kept.pages well.origins.known)

text_kinds : (at : Layout) (kept : Kept) (pages : Pages) → HoldsTexts at kept pages
    → AllByRecursion (IsText pages) (text_slots at kept)
text_kinds at kept pages held =
    all_append (IsText pages) (flat_map (λ (p : KeptPage). at.url p.page.id ++ at.title p.page.id) kept.pages)
    (flat_map (λ (i : Item). at.item_title i.id) kept.items)
    (all_flat (IsText pages) (λ (p : KeptPage). at.url p.page.id ++ at.title p.page.id) kept.pages
    (both (λ (p : KeptPage). Hold (at.url p.page.id) p.page.url pages)
    (λ (p : KeptPage). Hold (at.title p.page.id) p.page.title pages)
    (λ (p : KeptPage). AllByRecursion (IsText pages) (at.url p.page.id ++ at.title p.page.id)) kept.pages
    (λ p url title.
    all_append (IsText pages) (at.url p.page.id) (at.title p.page.id)
    (part_kinds (at.url p.page.id) p.page.url pages url) (part_kinds (at.title p.page.id) p.page.title pages title))
    (recursion_from_All (λ (p : KeptPage). Hold (at.url p.page.id) p.page.url pages) kept.pages held.urls)
    (recursion_from_All (λ (p : KeptPage). Hold (at.title p.page.id) p.page.title pages) kept.pages held.titles)))
    (all_flat (IsText pages) (λ (i : Item). at.item_title i.id) kept.items
    (weaker (λ (i : Item). Hold (at.item_title i.id) i.title pages)
    (λ (i : Item). AllByRecursion (IsText pages) (at.item_title i.id)) kept.items
    (λ i title. part_kinds (at.item_title i.id) i.title pages title)
    (recursion_from_All (λ (i : Item). Hold (at.item_title i.id) i.title pages) kept.items held.item_titles)))

-- ---- the slots of a kind

-- the slots that hold rows of a kind, or texts
abbrev pub slots_with : Layout → Kept → SlotKind → List ℕ
slots_with at kept kinds.Free = []
slots_with at kept kinds.Origin = map (λ (o : KeptOrigin). o.origin.0) kept.origins
slots_with at kept kinds.Place = map (λ (p : KeptPage). (at.page p.page.id).0) kept.pages
slots_with at kept kinds.Visit = map (λ (v : Visit). (at.visit v.id).0) kept.visits
slots_with at kept kinds.Item = map (λ (i : Item). (at.item i.id).0) kept.items
slots_with at kept kinds.Text = text_slots at kept

-- the slot is that of one of these rows, which is found by it
abbrev pub SlotOf : {X : Type 0} → (X → Slot) → List X → Slot → Type 0
SlotOf at xs slot = Found at (find (λ x. (at x).0 == slot.0) xs) slot

slot_found : {X : Type 0} (at : X → Slot) (xs : List X) (slot : Slot)
    → is_among slot.0 (map (λ x. (at x).0) xs) ≡ true → SlotOf at xs slot
slot_found at xs slot among =
    let there : list_any (λ x. (at x).0 == slot.0) xs ≡ true =
    list_any-alike (λ x. (at x).0 == slot.0) (λ x. slot.0 == (at x).0) xs (λ x. nat_eq_equiv.symm (at x).0 slot.0)
    ∙ sym (list_any-map (λ m. slot.0 == m) (λ x. (at x).0) xs) ∙ among in
    let found = found_of (λ x. (at x).0 == slot.0) xs there in
    let here : at found.0 ≡ slot =
    ap (λ (n : ℕ). record { 0 = n })
    (eqb-true (at found.0).0 slot.0 (found_passes (λ x. (at x).0 == slot.0) xs found.0 found.1)) in
    record { row = found.0; there = found.1; here = here }

module _ (at : Layout) (kept : Kept) (pages : Pages) (held : HoldsRows at kept pages)
    (texts : HoldsTexts at kept pages) where
  of_kind : (kind : SlotKind) → AllByRecursion (λ n. kind_at n pages ≡ Some kind) (slots_with at kept kind)
  of_kind kinds.Free = tt
  of_kind kinds.Origin =
      to_map (λ n. kind_at n pages ≡ Some kinds.Origin) (λ (o : KeptOrigin). o.origin.0) kept.origins
      (origin_kinds at kept pages held)
  of_kind kinds.Place =
      to_map (λ n. kind_at n pages ≡ Some kinds.Place) (λ (p : KeptPage). (at.page p.page.id).0) kept.pages
      (place_kinds at kept pages held)
  of_kind kinds.Visit =
      to_map (λ n. kind_at n pages ≡ Some kinds.Visit) (λ (v : Visit). (at.visit v.id).0) kept.visits
      (visit_kinds at kept pages held)
  of_kind kinds.Item =
      to_map (λ n. kind_at n pages ≡ Some kinds.Item) (λ (i : Item). (at.item i.id).0) kept.items
      (item_kinds at kept pages held)
  of_kind kinds.Text = text_kinds at kept pages texts

  kind_is : (n : ℕ) (kind : SlotKind) → is_among n (slots_with at kept kind) ≡ true → kind_at n pages ≡ Some kind
  kind_is n kind among =
      among_holds (λ m. kind_at m pages ≡ Some kind) n (slots_with at kept kind) (of_kind kind) among

  -- a slot of the layout is one of a kind
  one_kind : (n : ℕ) → is_among n (row_slots at kept ++ text_slots at kept) ≡ true
      → (kind : SlotKind) × (is_among n (slots_with at kept kind) ≡ true)
  one_kind n among = elim (among_either n (row_slots at kept) (text_slots at kept) among) [
    | inl row ↦ of_row row
    | inr text ↦ (kinds.Text, text)
  ]
    where
      of_origin : is_among n (slots_with at kept kinds.Origin ++ slots_with at kept kinds.Place) ≡ true
          → (kind : SlotKind) × (is_among n (slots_with at kept kind) ≡ true)
      of_origin here =
          elim (among_either n (slots_with at kept kinds.Origin) (slots_with at kept kinds.Place) here) [
            | inl origin ↦ (kinds.Origin, origin)
            | inr place ↦ (kinds.Place, place)
          ]

      of_visit : is_among n
          (slots_with at kept kinds.Origin ++ slots_with at kept kinds.Place ++ slots_with at kept kinds.Visit)
          ≡ true → (kind : SlotKind) × (is_among n (slots_with at kept kind) ≡ true)
      of_visit here =
          elim (among_either n (slots_with at kept kinds.Origin ++ slots_with at kept kinds.Place)
          (slots_with at kept kinds.Visit) here) [
            | inl rest ↦ of_origin rest
            | inr visit ↦ (kinds.Visit, visit)
          ]

      of_row : is_among n (row_slots at kept) ≡ true
          → (kind : SlotKind) × (is_among n (slots_with at kept kind) ≡ true)
      of_row here =
          elim (among_either n
          (slots_with at kept kinds.Origin ++ slots_with at kept kinds.Place ++ slots_with at kept kinds.Visit)
          (slots_with at kept kinds.Item) here) [
            | inl rest ↦ of_visit rest
            | inr item ↦ (kinds.Item, item)
          ]

  -- it is live
  pub held_live : (n : ℕ) → is_among n (row_slots at kept ++ text_slots at kept) ≡ true → is_live n pages ≡ true
  held_live n among =
      let found = one_kind n among in
      kind_live n found.0 pages (kind_is n found.0 found.1)
      (λ free. true≢false (sym found.1 ∙ ap (λ k. is_among n (slots_with at kept k)) free))

module _ (at : Layout) (kept : Kept) (targets : VisitId → List Visit) (pages : Pages)
    (laid : IsLaid at kept targets pages) where
  pub layout_live : (n : ℕ) → is_among n (row_slots at kept ++ text_slots at kept) ≡ true → is_live n pages ≡ true
  layout_live = held_live at kept pages laid.rows laid.texts

  -- a live slot is among those of its kind
  pub slot_among : (n : ℕ) (kind : SlotKind) → kind_at n pages ≡ Some kind → kind ≢ kinds.Free
      → is_among n (slots_with at kept kind) ≡ true
  slot_among n kind is live =
      let found = one_kind at kept pages laid.rows laid.texts n (laid.slots.whole n (kind_live n kind pages is live)) in
      let kinds_same : Some found.0 ≡ Some kind =
      sym (kind_is at kept pages laid.rows laid.texts n found.0 found.1) ∙ is in
      let same : found.0 ≡ kind = cc in
      subst (λ k. is_among n (slots_with at kept k) ≡ true) same found.1

  -- so it is the slot of one row
  pub origin_slot_is : (slot : Slot) → kind_at slot.0 pages ≡ Some kinds.Origin
      → SlotOf (λ (o : KeptOrigin). o.origin) kept.origins slot
  origin_slot_is slot is =
      slot_found (λ (o : KeptOrigin). o.origin) kept.origins slot
      (slot_among slot.0 kinds.Origin is (λ free. absurd (cc)))

  pub place_slot_is : (slot : Slot) → kind_at slot.0 pages ≡ Some kinds.Place
      → SlotOf (λ (p : KeptPage). at.page p.page.id) kept.pages slot
  place_slot_is slot is =
      slot_found (λ (p : KeptPage). at.page p.page.id) kept.pages slot
      (slot_among slot.0 kinds.Place is (λ free. absurd (cc)))

  pub visit_slot_is : (slot : Slot) → kind_at slot.0 pages ≡ Some kinds.Visit
      → SlotOf (λ (v : Visit). at.visit v.id) kept.visits slot
  visit_slot_is slot is =
      slot_found (λ (v : Visit). at.visit v.id) kept.visits slot
      (slot_among slot.0 kinds.Visit is (λ free. absurd (cc)))

  pub item_slot_is : (slot : Slot) → kind_at slot.0 pages ≡ Some kinds.Item
      → SlotOf (λ (i : Item). at.item i.id) kept.items slot
  item_slot_is slot is =
      slot_found (λ (i : Item). at.item i.id) kept.items slot
      (slot_among slot.0 kinds.Item is (λ free. absurd (cc)))
