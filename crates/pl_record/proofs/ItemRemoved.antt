-- The rows that linked slots keep without an item, and the bytes that may have been before.
use Rattle.std.proofs.Common.{◌≡◌, ◌∙◌, ◌+◌, ◌-◌, ◌≤◌, ◌∷◌, ◌==◌, [], ℕ, List, Some, ap, arith, filter}
use Rattle.std.proofs.Common.{not, subst, sym, true}
use Rattle.std.specs.BTreeMap.{is_at}
use Rattle.std.specs.Map.{remove_entry}
use Rattle.std.specs.Ordering.{nat_cmp}
use Rattle.pl_base.specs.declared.id.ItemId.{ItemId}
use Rattle.pl_base.specs.declared.id.Slot.{Slot}
use Rattle.pl_base.specs.declared.id.VisitId.{VisitId}
use Rattle.pl_base.specs.Live.{chunks, live_slots, slot_limit}
use Rattle.pl_base.specs.Rows.{Kept, store_of, with_items}
use Rattle.pl_base.specs.Store.{Item, Visit}
use Rattle.pl_base.specs.Tree.{children_of, has_item, leaving, removed}
use Rattle.pl_base.proofs.ListLaws.{map-map}
use Rattle.pl_base.proofs.OneChanged.{once_by_number}
use Rattle.pl_record.specs.declared.rows.Item.{Item as Row}
use Rattle.pl_record.specs.ItemChanges.{HoldsLeaf, RemovesItem}
use Rattle.pl_record.specs.LinkedRows.{AreLinked, Entries, IsBaseOf, slot_at}
use Rattle.pl_record.specs.Rows.{item_row, row_in}
use Rattle.pl_record.proofs.Bases.{base_kept}
use Rattle.pl_record.proofs.Filled.{IsFilled, filled, laid_out}
use Rattle.pl_record.proofs.FilledMoves.{filled_still}
use Rattle.pl_record.proofs.ItemChains.{children_apart, pageless_loose, parentless_loose, references_apart}
use Rattle.pl_record.proofs.ItemChains.{slotted_item}
use Rattle.pl_record.proofs.ItemGoes.{item_goes}
use Rattle.pl_record.proofs.ItemGone.{item_gone, item_gone_live}
use Rattle.pl_record.proofs.ItemHeld.{found, leaf_held, leaf_is, slot_is, text_is, title_long}
use Rattle.pl_record.proofs.SlotsById as by_id
use Rattle.pl_record.proofs.TitleSet.{live_ends}
use Rattle.pl_sheets.specs.Sheets.{Pages}
use Rattle.pl_slot.specs.Arena.{IsArena, SetsHeader, header_of, header_page}
use Rattle.pl_text.specs.Chunks.{chunk_count}

module _ (kept : Kept) (targets : VisitId → List Visit) (old : Pages) (pages visits items : Entries)
    (l : AreLinked kept targets old pages visits items) (id : ItemId) (slot : Slot)
    (some : slot_at items id.0 ≡ Some slot) (there : has_item kept.items id ≡ true)
    (bare : children_of kept.items id ≡ []) (row : Row) (read : row_in slot old ≡ Some (item_row row)) where
  pub held : HoldsLeaf slot old
  held = leaf_held kept targets old pages visits items l id slot some bare

  module _ (b : Pages) (removes_it : (h : HoldsLeaf slot old) → RemovesItem h.item h.text slot old b)
      (arena : IsArena b) where
    abbrev gone : Item
    gone = (found kept targets old pages visits items l id slot some).row

    removes : RemovesItem (slotted_item l.at kept.items gone) (l.at.item_title id) slot old b
    unfolding held
    removes =
        subst (λ i. RemovesItem i (l.at.item_title id) slot old b)
        (leaf_is kept targets old pages visits items l id slot some bare)
        (subst (λ text. RemovesItem held.item text slot old b)
        (text_is kept targets old pages visits items l id slot some bare) (removes_it held))

    abbrev whole : Kept
    whole = with_items (removed id kept.items) kept

    left : IsFilled l.at whole targets b
    unfolding filled
    left =
        let f = found kept targets old pages visits items l id slot some in
        item_goes l.at kept targets id f.row f.there bare old b l.rows (filled l.at kept targets old l.rows l.laid)
        (parentless_loose l.at kept targets old l.rows l.laid.rows)
        (pageless_loose l.at kept targets old l.rows l.laid.rows)
        (children_apart l.at kept targets old l.rows l.laid.rows)
        (references_apart l.at kept targets old l.rows l.laid.rows)
        (subst (λ s. RemovesItem (slotted_item l.at kept.items gone) (l.at.item_title id) s old b)
        (sym (slot_is kept targets old pages visits items l id slot some)) removes)

    module _ (live slots : ℕ) (live_is : live ≡ (header_of b).live) (slots_are : slots ≡ chunk_count row.title.length)
      where
        was : live ≡ live_slots (store_of kept)
        was = live_is ∙ removes.body.live ∙ l.laid.header.live

        counted : live ≡ live_slots (store_of whole) + (1 + slots)
        counted =
            let f = found kept targets old pages visits items l id slot some in
            let title : slots ≡ chunks f.row.title =
            slots_are
            ∙ sym (ap chunk_count (title_long kept targets old pages visits items l id slot some bare row read)) in
            omega (arith, was, title, item_gone_live id kept f.row l.rows.well f.there)

        pub few_gone : (1 + slots ≤ live) × (live ≤ slot_limit)
        few_gone = (omega (arith, counted), omega (arith, was, l.rows.well.live))

        module _ (c : Pages) (counts : SetsHeader (λ h. record h { live = live - (1 + slots) }) b c)
            (whole_c : IsArena c) where
          abbrev entry : Item → ℕ × Slot
          entry i = (i.id.0, l.at.item i.id)

          pub removed_item : AreLinked whole targets c pages visits (remove_entry (is_at (nat_cmp id.0)) items)
          removed_item =
              record {
                at = l.at;
                rows = item_gone id kept targets l.rows there bare;
                laid =
                    laid_out l.at whole targets c
                    (filled_still l.at whole targets b c left (live_ends (live - (1 + slots)) b c counts) counts.rows)
                    whole_c
                    (record {
                      form = ap (λ h. h.form) counts.header ∙ removes.body.form ∙ l.laid.header.form;
                      day = ap (λ h. h.day) counts.header ∙ removes.body.day ∙ l.laid.header.day;
                      ids = ap (λ h. h.ids) counts.header ∙ removes.body.ids ∙ l.laid.header.ids;
                      live = ap (λ h. h.live) counts.header ∙ omega (arith, counted);
                      rest = ap (λ h. h.rest) counts.header ∙ removes.body.rest ∙ l.laid.header.rest;
                    });
                indexed = record {
                  pages = l.indexed.pages;
                  visits = l.indexed.visits;
                  items =
                      ap (remove_entry (is_at (nat_cmp id.0))) l.indexed.items
                      ∙ by_id.removed (λ (i : Item). i.id.0) (λ (i : Item). l.at.item i.id) id.0 kept.items
                      (once_by_number (λ (i : Item). i.id.0) id.0 kept.items l.rows.well.item_ids.ascending)
                      ∙ sym (map-map entry (leaving id) (filter (λ (i : Item). not (i.id.0 == id.0)) kept.items));
                };
              }

          pub removed_base : (bytes : List ℕ) → IsBaseOf old bytes → IsBaseOf c bytes
          removed_base bytes base =
              base_kept (header_page ∷ []) b c arena.whole counts.pages bytes
              (base_kept removes.these old b l.laid.arena.whole removes.pages bytes base)
