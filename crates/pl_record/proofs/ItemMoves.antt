-- What the slots of a store hold, and how they are chained, where an item becomes a child of
-- another.
use Rattle.std.proofs.Common.{◌≡◌, ◌≢◌, ◌∙◌, ◌==◌, ◌++◌, ℕ, All, Bool, IfSome, List, None, Option, Some, ap}
use Rattle.std.proofs.Common.{eq-eqb, eqb, false, if◌then◌else◌, inl, inr, is_some, map, refl, subst}
use Rattle.std.proofs.Common.{sym, true}
use Rattle.std.specs.List.{IsDistinct, flat_map, slice_index_or}
use Rattle.std.specs.Option.{option_map}
use Rattle.std.proofs.lemmas.Bool.{cases_Bool, ne_eqb, true≢false}
use Rattle.std.proofs.lemmas.List.Elements.{All-from_recursion}
use Rattle.std.proofs.lemmas.List.Folds.{flat_map-map}
use Rattle.pl_base.specs.declared.id.ItemId.{ItemId}
use Rattle.pl_base.specs.declared.id.Slot.{Slot}
use Rattle.pl_base.specs.declared.id.VisitId.{VisitId}
use Rattle.pl_base.specs.Rows.{Kept, KeptOrigin, KeptPage, with_items}
use Rattle.pl_base.specs.Store.{Item, Visit}
use Rattle.pl_base.specs.Tree.{IsFolder, has_item, item_at, moved, parent_of}
use Rattle.pl_base.proofs.ItemLookUps.{same_item}
use Rattle.pl_base.proofs.ListLaws.{map-map}
use Rattle.pl_base.proofs.LookUps.{found_passes, found_some}
use Rattle.pl_record.specs.declared.rows.Item.{Item as Row}
use Rattle.pl_record.specs.ChainMap.{AreApart, ChainMap, IsLoose}
use Rattle.pl_record.specs.Chains.{HasAlone, IsAlone}
use Rattle.pl_record.specs.Form.{AreRows}
use Rattle.pl_record.specs.ItemChanges.{MovesItem}
use Rattle.pl_record.proofs.NamedSlots.{item_row_is, one_row}
use Rattle.pl_record.specs.Records.{HoldsOnce, HoldsRow, HoldsRows, HoldsTexts, Layout, Record, item_record}
use Rattle.pl_record.specs.Records.{origin_record, page_record, row_slots, slot_or_none, text_slots, visit_record}
use Rattle.pl_record.specs.Rows.{record_at, with_parent}
use Rattle.pl_record.proofs.Filled.{IsFilled}
use Rattle.pl_record.proofs.ItemChains.{slotted_item}
use Rattle.pl_record.proofs.ItemMovedChains.{child_there, each_found, found_there, moved_apart, moved_chains}
use Rattle.pl_record.proofs.ItemMovedChains.{moved_named, one_item, root_loose}
use Rattle.pl_record.proofs.ItemMovedRows.{all_moved, folder_there, items_moved, parent_moved, parents_moved, placed}
use Rattle.pl_record.proofs.RecordMaps.{held_record, part_record, record_held, record_live, record_part}
use Rattle.pl_record.proofs.RowSets.{texts_by_parts, texts_each}
use Rattle.pl_sheets.specs.Sheets.{Pages}
use Rattle.pl_slot.specs.declared.links.Rail.TheVariants.{Children, OriginPages, References, Targets}
use Rattle.pl_slot.specs.declared.row.SlotRow.{SlotRow}
use Rattle.pl_slot.specs.Arena.{is_among, is_live, live_row}
use Rattle.pl_text.specs.Chunks.{Hold, HoldsPart, chunk_row}

module _ (at : Layout) (kept : Kept) (targets : VisitId → List Visit) (id : ItemId) (i : Item)
    (found : item_at kept.items id ≡ Some i) (parent : ItemId) (folder : IsFolder kept.items parent)
    (after : Option ItemId)
    (behind : IfSome after (λ a. (a ≢ id) × (parent_of kept.items a ≡ Some parent)))
    (old new : Pages) (rows : AreRows kept targets) (filled : IsFilled at kept targets old)
    (children_apart : AreApart Children filled.chains)
    (lone_roots : All (λ (j : Item). parent_of kept.items j.id ≡ None → IsLoose Children (at.item j.id) filled.chains)
    kept.items)
    (lone_others : All (λ (j : Item). j.page ≡ None → IsLoose References (at.item j.id) filled.chains) kept.items)
    (moves : MovesItem (slotted_item at kept.items i) (at.item id) (at.item parent) (option_map at.item after) old new)
  where
    abbrev slot : Slot
    slot = at.item id

    abbrev now : Kept
    now = with_items (moved id parent after kept.items) kept

    abbrev made : Row
    made = slotted_item at kept.items i

    abbrev pub IsThere : ItemId → Type 0
    IsThere item = has_item kept.items item ≡ true

    abbrev IsFound : Item → Type 0
    IsFound j = item_at kept.items j.id ≡ Some j

    own_id : i.id ≡ id
    own_id = same_item i.id id (found_passes (λ (j : Item). j.id.0 == id.0) kept.items i found)

    id_there : IsThere id
    id_there = found_some (λ (j : Item). j.id.0 == id.0) kept.items i found

    parent_there : IsThere parent
    parent_there = folder_there id parent after kept folder

    after_there : IfSome after IsThere
    after_there = choose after behind
      where
        choose : (o : Option ItemId) → IfSome o (λ a. (a ≢ id) × (parent_of kept.items a ≡ Some parent))
            → IfSome o IsThere
        choose None known = tt
        choose (Some a) known = (child_there kept rows.children a parent known.1).0

    all_found : All IsFound kept.items
    all_found = All-from_recursion IsFound kept.items (each_found at kept targets old rows filled.rows)

    there : (j : Item) → IsFound j → IsThere j.id
    there j is = found_there at kept targets old rows filled.rows j is

    -- the slot of another item is another one
    apart : (j : Item) → IsFound j → j.id ≢ id → at.item j.id ≢ slot
    apart j is other same =
        other (one_item at kept targets old rows filled.rows j.id id (there j is) id_there same)

    -- ---- rows and texts

    -- a row that says no parent is as it was
    fixed : (n : ℕ) (row : SlotRow) → with_parent (at.item parent) row ≡ row → record_at n old ≡ Some row
        → record_at n new ≡ Some row
    fixed n row same was = moves.records n ∙ choose (n == slot.0)
      where
        choose : (b : Bool)
            → (if b then option_map (with_parent (at.item parent)) (record_at n old) else record_at n old) ≡ Some row
        choose true = ap (option_map (with_parent (at.item parent))) was ∙ ap Some same
        choose false = was

    row_fixed : (r : Record) → with_parent (at.item parent) r.row ≡ r.row → live_row r.row ≡ Some r.row
        → HoldsRow r old → HoldsRow r new
    row_fixed r same live held = record_held r new (fixed r.slot.0 r.row same (held_record r old live held))

    -- an item's record with this parent
    abbrev with_above : Item → Option ItemId → Record
    with_above j above =
        record { slot = at.item j.id; row = with_parent (slot_or_none at.item above) (item_record at kept.items j).row }

    item_now : (j : Item) → IsFound j → HoldsRow (item_record at kept.items j) old
        → HoldsRow (item_record at now.items (placed id parent after kept j)) new
    item_now j is held = choose (j.id.0 == id.0) refl
      where
        was : record_at (at.item j.id).0 old ≡ Some (item_record at kept.items j).row
        was = held_record (item_record at kept.items j) old refl held

        row_if : Bool → Option SlotRow
        row_if b =
            if b then option_map (with_parent (at.item parent)) (record_at (at.item j.id).0 old)
            else record_at (at.item j.id).0 old

        choose : (b : Bool) → (j.id.0 == id.0) ≡ b → HoldsRow (with_above j (parent_of now.items j.id)) new
        choose true same =
            let one : j.id ≡ id = same_item j.id id same in
            subst (λ o. HoldsRow (with_above j o) new)
            (sym (ap (parent_of now.items) one ∙ parent_moved id parent after kept folder))
            (record_held (with_above j (Some parent)) new
            (moves.records (at.item j.id).0
            ∙ ap row_if (eq-eqb (at.item j.id).0 slot.0 (ap (λ (c : ItemId). (at.item c).0) one))
            ∙ ap (option_map (with_parent (at.item parent))) was))
        choose false differs =
            let other : j.id ≢ id = λ same.
            true≢false (sym (eq-eqb j.id.0 id.0 (ap (λ (c : ItemId). c.0) same)) ∙ differs) in
            subst (λ o. HoldsRow (with_above j o) new)
            (sym (parents_moved id parent after kept j.id (λ same. other (ap (λ n. record { 0 = n }) same))))
            (record_held (item_record at kept.items j) new
            (moves.records (at.item j.id).0
            ∙ ap row_if (ne_eqb (at.item j.id).0 slot.0 (λ same.
            apart j is other (ap (λ n. record { 0 = n }) same)))
            ∙ was))

    held : HoldsRows at now new
    held =
        record {
          origins = λ k d within.
              row_fixed (origin_record (slice_index_or kept.origins k d)) refl refl (filled.rows.origins k d within);
          places = λ k d within.
              row_fixed (page_record at (slice_index_or kept.pages k d)) refl refl (filled.rows.places k d within);
          visits = λ k d within.
              row_fixed (visit_record at (slice_index_or kept.visits k d)) refl refl (filled.rows.visits k d within);
          items =
              all_moved id parent after kept (λ (j : Item). HoldsRow (item_record at now.items j) new)
              (λ k d within.
              item_now (slice_index_or kept.items k d) (all_found k d within) (filled.rows.items k d within));
        }

    part_fixed : (n : ℕ) (part : List ℕ) (next : Slot) → HoldsPart n part next old → HoldsPart n part next new
    part_fixed n part next held =
        record_part n part next new (fixed n (chunk_row part next) refl (part_record n part next old held))

    texts : HoldsTexts at now new
    texts =
        let before : HoldsTexts at kept new =
        texts_each at kept old new (texts_by_parts old new part_fixed) filled.texts in
        record {
          urls = before.urls;
          titles = before.titles;
          item_titles =
              all_moved id parent after kept (λ (j : Item). Hold (at.item_title j.id) j.title new) before.item_titles;
        }

    -- ---- each slot has one

    live_same : (n : ℕ) → is_live n new ≡ is_live n old
    live_same n =
        record_live n new ∙ ap is_some (moves.records n) ∙ choose (n == slot.0) (record_at n old)
        ∙ sym (record_live n old)
      where
        choose : (b : Bool) (o : Option SlotRow)
            → is_some (if b then option_map (with_parent (at.item parent)) o else o) ≡ is_some o
        choose true None = refl
        choose true (Some row) = refl
        choose false o = refl

    same_slots : row_slots at kept ++ text_slots at kept ≡ row_slots at now ++ text_slots at now
    same_slots =
        (λ k. (map (λ (o : KeptOrigin). o.origin.0) kept.origins
        ++ map (λ (p : KeptPage). (at.page p.page.id).0) kept.pages
        ++ map (λ (v : Visit). (at.visit v.id).0) kept.visits
        ++ ids k)
        ++ (flat_map (λ (p : KeptPage). at.url p.page.id ++ at.title p.page.id) kept.pages ++ titles k))
      where
        ids : map (λ (j : Item). (at.item j.id).0) kept.items ≡ map (λ (j : Item). (at.item j.id).0) now.items
        ids =
            sym (ap (map (λ (j : Item). (at.item j.id).0)) (items_moved id parent after kept)
            ∙ map-map (λ (j : Item). (at.item j.id).0) (placed id parent after kept) kept.items)

        titles : flat_map (λ (j : Item). at.item_title j.id) kept.items
            ≡ flat_map (λ (j : Item). at.item_title j.id) now.items
        titles =
            sym (ap (flat_map (λ (j : Item). at.item_title j.id)) (items_moved id parent after kept)
            ∙ flat_map-map (λ (j : Item). at.item_title j.id) (placed id parent after kept) kept.items)

    once : HoldsOnce at now new
    once =
        record {
          once = subst (IsDistinct eqb) same_slots filled.slots.once;
          whole = λ n live.
              subst (λ (ns : List ℕ). is_among n ns ≡ true) same_slots
              (filled.slots.whole n (sym (live_same n) ∙ live));
        }

    -- ---- slots that stand alone

    visit_apart : (v : Visit) → HoldsRow (visit_record at v) old → at.visit v.id ≢ slot
    visit_apart v held same =
        let row : (visit_record at v).row ≡ (item_record at kept.items i).row =
        one_row (visit_record at v) (item_record at kept.items i) old held
        (item_row_is at kept old filled.rows id i found) (same ∙ sym (ap at.item own_id)) in
        absurd (cc)

    alone : HasAlone at now new
    alone =
        record {
          visits = λ k d within none.
              let v : Visit = slice_index_or kept.visits k d in
              moves.alone filled.chains filled.are Targets (at.visit v.id)
              (visit_apart v (filled.rows.visits k d within)) refl (λ is. absurd (true≢false (sym is)))
              (λ is. absurd (true≢false (sym is))) (filled.alone.visits k d within none);
          roots =
              all_moved id parent after kept
              (λ (j : Item). parent_of now.items j.id ≡ None → IsAlone Children (at.item j.id) new)
              (λ k d within none.
              let j : Item = slice_index_or kept.items k d in
              let other : j.id ≢ id = λ same.
              true≢false (ap is_some
              (sym (ap (parent_of now.items) same ∙ parent_moved id parent after kept folder) ∙ none)) in
              let root : parent_of kept.items j.id ≡ None =
              sym (parents_moved id parent after kept j.id (λ same. other (ap (λ n. record { 0 = n }) same))) ∙ none in
              moves.alone filled.chains filled.are Children (at.item j.id) (apart j (all_found k d within) other) refl
              (λ _. lone_roots k d within root) (λ is. absurd (true≢false (sym is)))
              (filled.alone.roots k d within root));
          others =
              all_moved id parent after kept
              (λ (j : Item). j.page ≡ None → IsAlone References (at.item j.id) new)
              (λ k d within none.
              let j : Item = slice_index_or kept.items k d in
              no_page j (all_found k d within) (lone_others k d within none) (filled.alone.others k d within none));
        }
      where
        no_page : (j : Item) → IsFound j → IsLoose References (at.item j.id) filled.chains
            → IsAlone References (at.item j.id) old → IsAlone References (at.item j.id) new
        no_page j is loose was = elim (cases_Bool (j.id.0 == id.0)) [
          | inl same ↦
              let one : id ≡ j.id = sym (same_item j.id id same) in
              subst (λ (c : ItemId). IsAlone References (at.item c) new) one
              (moves.own (subst (λ (c : ItemId). IsAlone References (at.item c) old) (sym one) was))
          | inr differs ↦
              moves.alone filled.chains filled.are References (at.item j.id)
              (apart j is (λ same.
              true≢false (sym (eq-eqb j.id.0 id.0 (ap (λ (c : ItemId). c.0) same)) ∙ differs)))
              refl (λ is. absurd (true≢false (sym is))) (λ _. loose) was
        ]

    -- ---- all

    abbrev chains : ChainMap
    chains =
        moved_chains at kept targets old rows filled.rows id id_there filled.chains i own_id parent parent_there after
        after_there filled.named

    -- where it has no parent, it is in no chain of children
    own_loose : made.parent.0 ≡ 0 → IsLoose Children slot filled.chains
    own_loose zero =
        root_loose at kept targets old rows filled.rows id id_there filled.chains lone_roots
        (ap (λ (c : ItemId). (slot_or_none at.item (parent_of kept.items c)).0) (sym own_id) ∙ zero)

    pub item_moves : IsFilled at (with_items (moved id parent after kept.items) kept) targets new
    item_moves =
        record {
          chains = chains;
          are = moves.chains filled.chains filled.are children_apart own_loose;
          named =
              moved_named at kept targets old rows filled.rows id id_there filled.chains i own_id parent parent_there
              after after_there filled.named;
          apart =
              moved_apart made slot (at.item parent) (option_map at.item after) filled.chains OriginPages refl
              filled.apart;
          rows = held;
          texts = texts;
          slots = once;
          alone = alone;
        }
