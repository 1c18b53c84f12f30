-- The rows of a store in linked slots where the row of one item is written anew, with all but its
-- title and its date.
use Rattle.std.proofs.Common.{◌≡◌, ◌≢◌, ◌∙◌, ◌==◌, ℕ, Bool, List, Some, ap, eq-eqb, if◌then◌else◌, inl, inr, is_some}
use Rattle.std.proofs.Common.{map, subst, sym}
use Rattle.std.specs.List.{slice_index_or}
use Rattle.std.proofs.lemmas.Bool.{cases_eq, ne_eqb}
use Rattle.std.proofs.lemmas.List.Elements.{All-map}
use Rattle.pl_base.specs.declared.id.ItemId.{ItemId}
use Rattle.pl_base.specs.declared.id.Slot.{Slot}
use Rattle.pl_base.specs.declared.id.VisitId.{VisitId}
use Rattle.pl_base.specs.Rows.{Kept, with_items}
use Rattle.pl_base.specs.Store.{Item, Visit}
use Rattle.pl_base.specs.Tree.{item_at}
use Rattle.pl_base.proofs.ItemLookUps.{id_of_item, same_item_number}
use Rattle.pl_record.specs.Chains.{HasAlone, HasChains, HasLive}
use Rattle.pl_record.proofs.NamedSlots.{found_all, one_row}
use Rattle.pl_record.specs.Records.{HoldsOnce, HoldsRow, HoldsRows, Layout, Record, item_record, origin_record}
use Rattle.pl_record.specs.Records.{page_record, unlinked, visit_record}
use Rattle.pl_record.specs.Rows.{SetsRow}
use Rattle.pl_record.proofs.ChainsKept as held
use Rattle.pl_record.proofs.ChainsKept.{same_header, same_kinds, same_links}
use Rattle.pl_record.proofs.ItemMaps.{KeepsTree, alone_mapped, at_item, chains_mapped, live_mapped, parent_kept}
use Rattle.pl_record.proofs.ItemMaps.{tree_at, with_titles_at}
use Rattle.pl_record.proofs.RowSets.{changed_row, live_kept, other_row, part_kept, row_beside_kept, texts_by_parts}
use Rattle.pl_sheets.specs.Sheets.{Pages}
use Rattle.pl_slot.specs.declared.kind.SlotKind.TheVariants as kinds
use Rattle.pl_slot.specs.declared.row.SlotRow.{SlotRow}
use Rattle.pl_slot.specs.Arena.{live_row}
use Rattle.pl_slot.specs.Slot.{slot_kind}
use Rattle.pl_text.specs.Chunks.{Hold}

module _ (at : Layout) (kept : Kept) (old : Pages) (id : ItemId) (slot : Slot) (owner : Item)
    (found : item_at kept.items id ≡ Some owner) (here : at.item owner.id ≡ slot) (titles : ItemId → List ℕ)
    (new : Pages) (change : SlotRow → SlotRow) (f : Item → Item) (keeps : KeepsTree f)
    (sets : SetsRow slot change old new) (unlinks : (row : SlotRow) → unlinked (change row) ≡ change (unlinked row))
    (others : (row : SlotRow) → slot_kind row ≢ kinds.Item → change row ≡ row)
    (lives : (row : SlotRow) → is_some (live_row (change row)) ≡ is_some (live_row row)) where
  abbrev bt : Layout
  bt = with_titles_at titles at

  abbrev now : Kept
  now = with_items (map (at_item id f) kept.items) kept

  -- ---- rows

  module _ (held : HoldsRows at kept old)
      (made : (i : Item) → i.id.0 ≡ id.0
      → change (item_record at kept.items i).row ≡ (item_record bt kept.items (f i)).row)
      (same : (i : Item) → i.id.0 ≢ id.0 → item_record bt kept.items i ≡ item_record at kept.items i) where
    -- the slot is that of the item with this id alone
    slot_here : (i : Item) → i.id.0 ≡ id.0 → at.item i.id ≡ slot
    slot_here i is =
        ap at.item (same_item_number i.id id is ∙ sym (id_of_item kept.items id owner found)) ∙ here

    slot_beside : (i : Item) → i.id.0 ≢ id.0 → HoldsRow (item_record at kept.items i) old → (at.item i.id).0 ≢ slot.0
    slot_beside i apart row is =
        let own : HoldsRow (item_record at kept.items owner) old =
        found_all (λ (j : Item). HoldsRow (item_record at kept.items j) old) (λ (j : Item). j.id.0 == id.0) kept.items
        owner held.items found in
        let slots : at.item i.id ≡ at.item owner.id = ap (λ n. record { 0 = n }) is ∙ sym here in
        let rows : (item_record at kept.items i).row ≡ (item_record at kept.items owner).row =
        one_row (item_record at kept.items i) (item_record at kept.items owner) old row own slots in
        let ids : i.id ≡ owner.id = cc in
        apart (ap (λ (c : ItemId). c.0) (ids ∙ id_of_item kept.items id owner found))

    -- the item's own record
    made_record : (i : Item) → i.id.0 ≡ id.0
        → record { slot = at.item i.id; row = change (item_record at kept.items i).row }
        ≡ item_record bt kept.items (f i)
    made_record i is =
        (λ k. record { slot = at.item i.id; row = made i is k })
        ∙ ap (λ (c : ItemId). record { slot = at.item c; row = (item_record bt kept.items (f i)).row })
        (sym (ap (λ (j : Item). j.id) (keeps i)))

    each : (i : Item) → HoldsRow (item_record at kept.items i) old
        → HoldsRow (item_record bt kept.items (at_item id f i)) new
    each i row = elim (cases_eq i.id.0 id.0) [
      | inl is ↦
          subst (λ (b : Bool). HoldsRow (item_record bt kept.items (if b then f i else i)) new)
          (sym (eq-eqb i.id.0 id.0 is))
          (subst (λ (r : Record). HoldsRow r new) (made_record i is)
          (changed_row slot change kinds.Item old new sets unlinks others lives (item_record at kept.items i)
          (ap (λ (s : Slot). s.0) (slot_here i is)) row))
      | inr apart ↦
          subst (λ (b : Bool). HoldsRow (item_record bt kept.items (if b then f i else i)) new)
          (sym (ne_eqb i.id.0 id.0 apart))
          (subst (λ (r : Record). HoldsRow r new) (sym (same i apart))
          (row_beside_kept slot change kinds.Item old new sets unlinks others lives (item_record at kept.items i)
          (slot_beside i apart row) row))
    ]

    pub put_rows : HoldsRows bt now new
    put_rows =
        record {
          origins = λ k d within.
              other_row slot change kinds.Item old new sets unlinks others lives
              (origin_record (slice_index_or kept.origins k d)) (λ is. absurd (cc)) (held.origins k d within);
          places = λ k d within.
              other_row slot change kinds.Item old new sets unlinks others lives
              (page_record at (slice_index_or kept.pages k d)) (λ is. absurd (cc)) (held.places k d within);
          visits = λ k d within.
              other_row slot change kinds.Item old new sets unlinks others lives
              (visit_record at (slice_index_or kept.visits k d)) (λ is. absurd (cc)) (held.visits k d within);
          items =
              All-map (λ (i : Item). HoldsRow (item_record bt now.items i) new) (at_item id f) kept.items
              (λ k d within.
              let i : Item = slice_index_or kept.items k d in
              subst (λ (r : Record). HoldsRow r new)
              (sym (parent_kept (at_item id f) (tree_at id f keeps) bt kept.items (at_item id f i)))
              (each i (held.items k d within)));
        }

  -- ---- texts, slots and chains

  pub put_texts : (ns text : List ℕ) → Hold ns text old → Hold ns text new
  put_texts =
      texts_by_parts old new
      (part_kept slot change kinds.Item old new sets unlinks others lives (λ is. absurd (cc)))

  pub put_once : (a : Layout) (k : Kept) → HoldsOnce a k old → HoldsOnce a k new
  put_once a k once =
      record {
        once = once.once;
        whole = λ n is.
            once.whole n (sym (live_kept slot change kinds.Item old new sets unlinks others lives n) ∙ is);
      }

  module _ (targets : VisitId → List Visit) where
    pub put_live : HasLive at kept old → HasLive bt now new
    put_live live =
        live_mapped (at_item id f) (tree_at id f keeps) kept at titles new
        (held.live_kept old new (same_kinds old new sets.kinds) (same_links old new sets.links)
        (same_header old new sets.header) at kept targets live)

    pub put_chains : HasChains at kept targets old → HasChains bt now targets new
    put_chains chains =
        chains_mapped (at_item id f) (tree_at id f keeps) kept at titles targets new
        (held.chains_kept old new (same_kinds old new sets.kinds) (same_links old new sets.links)
        (same_header old new sets.header) at kept targets chains)

    pub put_alone : HasAlone at kept old → HasAlone bt now new
    put_alone alone =
        alone_mapped (at_item id f) (tree_at id f keeps) kept at titles new
        (held.alone_all_kept old new (same_kinds old new sets.kinds) (same_links old new sets.links)
        (same_header old new sets.header) at kept targets alone)
