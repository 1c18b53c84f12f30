-- The slots that were met: each live slot of a kind is one of those that were read of this kind.
use Rattle.std.proofs.Common.{◌≡◌, ◌≢◌, ◌∙◌, ◌∷◌, ◌++◌, ◌==◌, [], ℕ, List, Option, Some, None, ap, drop}
use Rattle.std.proofs.Common.{inl, inr, refl, subst, sym, take, true}
use Rattle.std.specs.Cmp.{nat_eq_equiv}
use Rattle.std.specs.List.{AllByRecursion, flat_map}
use Rattle.std.specs.Option.{option_and_then, option_map}
use Rattle.std.proofs.lemmas.List.Elements.{recursion_from_All}
use Rattle.pl_base.specs.declared.id.ItemId.{ItemId}
use Rattle.pl_base.specs.declared.id.PageId.{PageId}
use Rattle.pl_base.specs.declared.id.Slot.{Slot}
use Rattle.pl_base.specs.declared.id.VisitId.{VisitId}
use Rattle.pl_base.proofs.ListLaws.{all_append, list_any-alike, list_any-map, to_map}
use Rattle.pl_load.specs.Reads.{AreReadFrom, Reads, met_slots, numbers}
use Rattle.pl_load.proofs.Zips.{firsts}
use Rattle.pl_reading.specs.Live.{HoldsItem, HoldsPlace, HoldsTotal, HoldsVisit}
use Rattle.pl_reading.specs.Texts.{IsHeld, row_texts, text_parts}
use Rattle.pl_reading.proofs.Parts.{parts_are}
use Rattle.pl_record.specs.declared.rows.TextAt.{TextAt}
use Rattle.pl_record.specs.Rows.{item_id, item_in, item_row, origin_row, page_id, page_in, place_row, row_in, visit_id}
use Rattle.pl_record.specs.Rows.{visit_in, visit_row}
use Rattle.pl_record.proofs.LaidSlots.{among_either, among_holds, kind_live}
use Rattle.pl_record.proofs.PagesTold.{kind_told}
use Rattle.pl_rail.specs.Rails.{is_in}
use Rattle.pl_record.proofs.RowSets.{row_of_live}
use Rattle.pl_sheets.specs.Sheets.{Pages}
use Rattle.pl_slot.specs.declared.kind.SlotKind.{SlotKind}
use Rattle.pl_slot.specs.declared.kind.SlotKind.TheVariants as kinds
use Rattle.pl_slot.specs.declared.row.SlotRow.{SlotRow}
use Rattle.pl_slot.specs.declared.row.SlotRow.TheVariants as rows
use Rattle.pl_slot.specs.Arena.{first_in, is_among, live_at}
use Rattle.pl_slot.specs.Links.{kind_at}
use Rattle.pl_slot.specs.Slot.{payload_size, slot_kind}
use Rattle.pl_text.specs.Chunks.{Hold, chunk_row}

-- ---- what slots say, and their kinds

-- the slot is of this kind
abbrev pub IsOf : Pages → SlotKind → ℕ → Type 0
IsOf pages kind n = kind_at n pages ≡ Some kind

-- a slot that says the id of a page, a visit or an item holds one
pub page_kind : (pages : Pages) (slot : Slot) (id : PageId) → page_in pages slot ≡ Some id
    → IsOf pages kinds.Place slot.0
page_kind pages slot id says = choose (row_in slot pages) refl says
  where
    choose : (o : Option SlotRow) → row_in slot pages ≡ o → option_and_then page_id o ≡ Some id
        → IsOf pages kinds.Place slot.0
    choose None is said = absurd (cc)
    choose (Some (rows.Free next)) is said = absurd (cc)
    choose (Some (rows.Origin lp ln fp la total)) is said = absurd (cc)
    choose (Some (rows.Place typed hidden lp ln own origin op on fv lv fr lr ut ul ts tl frecency count)) is said =
        kind_told slot (rows.Place typed hidden lp ln own origin op on fv lv fr lr ut ul ts tl frecency count) pages is
    choose (Some (rows.Visit transition lp ln own page pp pn source tp tn ft lt date)) is said = absurd (cc)
    choose (Some (rows.Item kind lp ln own parent sp sn fc lc page rp rn ts tl added modified)) is said = absurd (cc)
    choose (Some (rows.Text used next payload)) is said = absurd (cc)

pub visit_kind : (pages : Pages) (slot : Slot) (id : VisitId) → visit_in pages slot ≡ Some id
    → IsOf pages kinds.Visit slot.0
visit_kind pages slot id says = choose (row_in slot pages) refl says
  where
    choose : (o : Option SlotRow) → row_in slot pages ≡ o → option_and_then visit_id o ≡ Some id
        → IsOf pages kinds.Visit slot.0
    choose None is said = absurd (cc)
    choose (Some (rows.Free next)) is said = absurd (cc)
    choose (Some (rows.Origin lp ln fp la total)) is said = absurd (cc)
    choose (Some (rows.Place typed hidden lp ln own origin op on fv lv fr lr ut ul ts tl frecency count)) is said =
        absurd (cc)
    choose (Some (rows.Visit transition lp ln own page pp pn source tp tn ft lt date)) is said =
        kind_told slot (rows.Visit transition lp ln own page pp pn source tp tn ft lt date) pages is
    choose (Some (rows.Item kind lp ln own parent sp sn fc lc page rp rn ts tl added modified)) is said = absurd (cc)
    choose (Some (rows.Text used next payload)) is said = absurd (cc)

pub item_kind : (pages : Pages) (slot : Slot) (id : ItemId) → item_in pages slot ≡ Some id
    → IsOf pages kinds.Item slot.0
item_kind pages slot id says = choose (row_in slot pages) refl says
  where
    choose : (o : Option SlotRow) → row_in slot pages ≡ o → option_and_then item_id o ≡ Some id
        → IsOf pages kinds.Item slot.0
    choose None is said = absurd (cc)
    choose (Some (rows.Free next)) is said = absurd (cc)
    choose (Some (rows.Origin lp ln fp la total)) is said = absurd (cc)
    choose (Some (rows.Place typed hidden lp ln own origin op on fv lv fr lr ut ul ts tl frecency count)) is said =
        absurd (cc)
    choose (Some (rows.Visit transition lp ln own page pp pn source tp tn ft lt date)) is said = absurd (cc)
    choose (Some (rows.Item kind lp ln own parent sp sn fc lc page rp rn ts tl added modified)) is said =
        kind_told slot (rows.Item kind lp ln own parent sp sn fc lc page rp rn ts tl added modified) pages is
    choose (Some (rows.Text used next payload)) is said = absurd (cc)

-- the slots of a text hold its parts
part_kind : (n : ℕ) (row : SlotRow) (pages : Pages) → live_at n pages ≡ Some row → IsOf pages (slot_kind row) n
unfolding kind_at
part_kind n row pages live = ap (option_map slot_kind) (row_of_live n row pages live)

part_kinds : (ns text : List ℕ) (pages : Pages) → Hold ns text pages → AllByRecursion (IsOf pages kinds.Text) ns
part_kinds [] text pages held = tt
part_kinds (n ∷ ns) text pages held = (
  part_kind n (chunk_row (take payload_size text) (first_in ns)) pages held.1,
  part_kinds ns (drop payload_size text) pages held.2,
)

text_kinds : (pages : Pages) (texts : List TextAt) → AllByRecursion (IsHeld pages) texts
    → AllByRecursion (IsOf pages kinds.Text) (flat_map (text_parts pages) texts)
text_kinds pages [] all = tt
text_kinds pages (t ∷ texts) all =
    all_append (IsOf pages kinds.Text) (text_parts pages t) (flat_map (text_parts pages) texts)
    (subst (AllByRecursion (IsOf pages kinds.Text))
    (sym (parts_are all.0.1.slots all.0.0 t pages all.0.1.held all.0.1.first all.0.2))
    (part_kinds all.0.1.slots all.0.0 pages all.0.1.held))
    (text_kinds pages texts all.1)

-- ---- slots among others

pub in_among : (slot : Slot) (slots : List Slot) → is_among slot.0 (numbers slots) ≡ true → is_in slot slots ≡ true
in_among slot slots among =
    list_any-alike (λ (s : Slot). s.0 == slot.0) (λ (s : Slot). slot.0 == s.0) slots
    (λ s. nat_eq_equiv.symm s.0 slot.0)
    ∙ sym (list_any-map (λ m. slot.0 == m) (λ (s : Slot). s.0) slots) ∙ among

pub among_in : (slot : Slot) (slots : List Slot) → is_in slot slots ≡ true → is_among slot.0 (numbers slots) ≡ true
among_in slot slots within =
    list_any-map (λ m. slot.0 == m) (λ (s : Slot). s.0) slots
    ∙ list_any-alike (λ (s : Slot). slot.0 == s.0) (λ (s : Slot). s.0 == slot.0) slots
    (λ s. nat_eq_equiv.symm slot.0 s.0) ∙ within

-- what holds of all slots holds of one among them
pub in_holds : (P : Slot → Type 0) (slot : Slot) (slots : List Slot) → AllByRecursion P slots → is_in slot slots ≡ true
    → P slot
in_holds P slot slots all within =
    among_holds (λ n. P (record { 0 = n })) slot.0 (numbers slots)
    (to_map (λ n. P (record { 0 = n })) (λ (s : Slot). s.0) slots all) (among_in slot slots within)

-- ---- the slots that were met

module _ (pages : Pages) (reads : Reads) (from : AreReadFrom pages reads) where
  -- those of a kind
  abbrev pub met_of : SlotKind → List ℕ
  met_of kinds.Free = []
  met_of kinds.Origin = numbers reads.origins
  met_of kinds.Place = numbers reads.place_slots
  met_of kinds.Visit = numbers reads.visit_slots
  met_of kinds.Item = numbers reads.item_slots
  met_of kinds.Text = flat_map (text_parts pages) (row_texts reads.places reads.items)

  pub of_kind : (kind : SlotKind) → AllByRecursion (IsOf pages kind) (met_of kind)
  of_kind kinds.Free = tt
  of_kind kinds.Origin =
      to_map (IsOf pages kinds.Origin) (λ (s : Slot). s.0) reads.origins
      (firsts (HoldsTotal pages) (λ (s : Slot). IsOf pages kinds.Origin s.0) reads.origins reads.totals
      (λ s total holds. kind_told s (origin_row total) pages holds) from.totals)
  of_kind kinds.Place =
      to_map (IsOf pages kinds.Place) (λ (s : Slot). s.0) reads.place_slots
      (firsts (HoldsPlace pages) (λ (s : Slot). IsOf pages kinds.Place s.0) reads.place_slots reads.places
      (λ s p holds. kind_told s (place_row p) pages holds) from.places)
  of_kind kinds.Visit =
      to_map (IsOf pages kinds.Visit) (λ (s : Slot). s.0) reads.visit_slots
      (firsts (HoldsVisit pages) (λ (s : Slot). IsOf pages kinds.Visit s.0) reads.visit_slots reads.visits
      (λ s v holds. kind_told s (visit_row v) pages holds) from.visits)
  of_kind kinds.Item =
      to_map (IsOf pages kinds.Item) (λ (s : Slot). s.0) reads.item_slots
      (firsts (HoldsItem pages) (λ (s : Slot). IsOf pages kinds.Item s.0) reads.item_slots reads.items
      (λ s i holds. kind_told s (item_row i) pages holds) from.items)
  of_kind kinds.Text =
      text_kinds pages (row_texts reads.places reads.items)
      (recursion_from_All (IsHeld pages) (row_texts reads.places reads.items) from.texts)

  kind_is : (n : ℕ) (kind : SlotKind) → is_among n (met_of kind) ≡ true → kind_at n pages ≡ Some kind
  kind_is n kind among = among_holds (IsOf pages kind) n (met_of kind) (of_kind kind) among

  -- a slot that was met is one of a kind
  one_kind : (n : ℕ) → is_among n (met_slots pages reads) ≡ true
      → (kind : SlotKind) × (is_among n (met_of kind) ≡ true)
  one_kind n among =
      elim (among_either n (met_of kinds.Origin ++ met_of kinds.Place ++ met_of kinds.Visit ++ met_of kinds.Item)
      (met_of kinds.Text) among) [
        | inl row ↦ of_row row
        | inr text ↦ (kinds.Text, text)
      ]
    where
      of_origin : is_among n (met_of kinds.Origin ++ met_of kinds.Place) ≡ true
          → (kind : SlotKind) × (is_among n (met_of kind) ≡ true)
      of_origin here = elim (among_either n (met_of kinds.Origin) (met_of kinds.Place) here) [
        | inl origin ↦ (kinds.Origin, origin)
        | inr place ↦ (kinds.Place, place)
      ]

      of_visit : is_among n (met_of kinds.Origin ++ met_of kinds.Place ++ met_of kinds.Visit) ≡ true
          → (kind : SlotKind) × (is_among n (met_of kind) ≡ true)
      of_visit here =
          elim (among_either n (met_of kinds.Origin ++ met_of kinds.Place) (met_of kinds.Visit) here) [
            | inl rest ↦ of_origin rest
            | inr visit ↦ (kinds.Visit, visit)
          ]

      of_row : is_among n (met_of kinds.Origin ++ met_of kinds.Place ++ met_of kinds.Visit ++ met_of kinds.Item) ≡ true
          → (kind : SlotKind) × (is_among n (met_of kind) ≡ true)
      of_row here =
          elim (among_either n (met_of kinds.Origin ++ met_of kinds.Place ++ met_of kinds.Visit) (met_of kinds.Item)
          here) [
            | inl rest ↦ of_visit rest
            | inr item ↦ (kinds.Item, item)
          ]

  -- so a slot of a kind is one of those of this kind
  pub met_among : (n : ℕ) (kind : SlotKind) → kind_at n pages ≡ Some kind → kind ≢ kinds.Free
      → is_among n (met_of kind) ≡ true
  met_among n kind is live =
      let found = one_kind n (from.whole n (kind_live n kind pages is live)) in
      let kinds_same : Some found.0 ≡ Some kind = sym (kind_is n found.0 found.1) ∙ is in
      let same : found.0 ≡ kind = cc in
      subst (λ k. is_among n (met_of k) ≡ true) same found.1

  pub origin_there : (slot : Slot) → kind_at slot.0 pages ≡ Some kinds.Origin → is_in slot reads.origins ≡ true
  origin_there slot is =
      in_among slot reads.origins (met_among slot.0 kinds.Origin is (λ free. absurd (cc)))

  pub place_there : (slot : Slot) → kind_at slot.0 pages ≡ Some kinds.Place → is_in slot reads.place_slots ≡ true
  place_there slot is =
      in_among slot reads.place_slots (met_among slot.0 kinds.Place is (λ free. absurd (cc)))

  pub visit_there : (slot : Slot) → kind_at slot.0 pages ≡ Some kinds.Visit → is_in slot reads.visit_slots ≡ true
  visit_there slot is =
      in_among slot reads.visit_slots (met_among slot.0 kinds.Visit is (λ free. absurd (cc)))

  pub item_there : (slot : Slot) → kind_at slot.0 pages ≡ Some kinds.Item → is_in slot reads.item_slots ≡ true
  item_there slot is =
      in_among slot reads.item_slots (met_among slot.0 kinds.Item is (λ free. absurd (cc)))
