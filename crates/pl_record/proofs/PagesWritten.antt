-- The rows of pages, of which one was written anew.
use Rattle.std.proofs.Common.{◌≡◌, ◌≢◌, ◌∙◌, ◌==◌, Bool, Some, ap, eq-eqb, if◌then◌else◌, inl, inr, is_some, map, sym}
use Rattle.std.proofs.Common.{subst}
use Rattle.std.specs.List.{All, slice_index_or}
use Rattle.std.proofs.lemmas.Bool.{cases_eq, ne_eqb}
use Rattle.std.proofs.lemmas.List.Elements.{All-map}
use Rattle.pl_base.specs.declared.id.PageId.{PageId}
use Rattle.pl_base.specs.declared.id.Slot.{Slot}
use Rattle.pl_base.specs.Rows.{Kept, KeptPage, page_at}
use Rattle.pl_base.proofs.IdsLaws.{same_page}
use Rattle.pl_base.proofs.PageLaws.{id_at}
use Rattle.pl_record.proofs.NamedSlots.{found_all, one_row}
use Rattle.pl_record.specs.Records.{HoldsRow, Layout, Record, page_record, unlinked}
use Rattle.pl_record.specs.Rows.{SetsRow}
use Rattle.pl_record.proofs.RowSets.{changed_row, row_beside_kept}
use Rattle.pl_sheets.specs.Sheets.{Pages}
use Rattle.pl_slot.specs.declared.kind.SlotKind.TheVariants as kinds
use Rattle.pl_slot.specs.declared.row.SlotRow.{SlotRow}
use Rattle.pl_slot.specs.Arena.{live_row}
use Rattle.pl_slot.specs.Slot.{slot_kind}

module _ (at : Layout) (kept : Kept) (old : Pages)
    (held : All (λ (p : KeptPage). HoldsRow (page_record at p) old) kept.pages) (id : PageId) (slot : Slot)
    (owner : KeptPage) (found : page_at kept id ≡ Some owner) (here : at.page owner.page.id ≡ slot) where
  -- the slot is that of the page with this id alone
  slot_here : (p : KeptPage) → p.page.id.0 ≡ id.0 → at.page p.page.id ≡ slot
  slot_here p same =
      ap (λ (i : PageId). at.page i)
      (same_page p.page.id id (eq-eqb p.page.id.0 id.0 same) ∙ sym (id_at kept id owner found)) ∙ here

  slot_beside : (p : KeptPage) → p.page.id.0 ≢ id.0 → HoldsRow (page_record at p) old → (at.page p.page.id).0 ≢ slot.0
  slot_beside p apart row same =
      let own : HoldsRow (page_record at owner) old =
      found_all (λ (q : KeptPage). HoldsRow (page_record at q) old) (λ (q : KeptPage). q.page.id.0 == id.0) kept.pages
      owner held found in
      let slots : at.page p.page.id ≡ at.page owner.page.id =
      ap (λ n. record { 0 = n }) same ∙ sym here in
      let rows : (page_record at p).row ≡ (page_record at owner).row =
      one_row (page_record at p) (page_record at owner) old row own slots in
      let ids : p.page.id ≡ owner.page.id = cc in
      apart (ap (λ (i : PageId). i.0) (ids ∙ id_at kept id owner found))

  module _ (bt : Layout) (new : Pages) (change : SlotRow → SlotRow) (g : KeptPage → KeptPage)
      (sets : SetsRow slot change old new) (unlinks : (row : SlotRow) → unlinked (change row) ≡ change (unlinked row))
      (others : (row : SlotRow) → slot_kind row ≢ kinds.Place → change row ≡ row)
      (lives : (row : SlotRow) → is_some (live_row (change row)) ≡ is_some (live_row row))
      (made : (p : KeptPage) → p.page.id.0 ≡ id.0
      → record { slot = at.page p.page.id; row = change (page_record at p).row } ≡ page_record bt (g p))
      (same : (p : KeptPage) → p.page.id.0 ≢ id.0 → page_record bt p ≡ page_record at p) where
    pub written_pages : All (λ (p : KeptPage). HoldsRow (page_record bt p) new)
        (map (λ (p : KeptPage). if p.page.id.0 == id.0 then g p else p) kept.pages)
    written_pages =
        All-map (λ (p : KeptPage). HoldsRow (page_record bt p) new)
        (λ (p : KeptPage). if p.page.id.0 == id.0 then g p else p) kept.pages
        (λ k d within. each (slice_index_or kept.pages k d) (held k d within))
      where
        each : (p : KeptPage) → HoldsRow (page_record at p) old
            → HoldsRow (page_record bt (if p.page.id.0 == id.0 then g p else p)) new
        each p row = elim (cases_eq p.page.id.0 id.0) [
          | inl is ↦
              subst (λ (b : Bool). HoldsRow (page_record bt (if b then g p else p)) new)
              (sym (eq-eqb p.page.id.0 id.0 is))
              (subst (λ (r : Record). HoldsRow r new) (made p is)
              (changed_row slot change kinds.Place old new sets unlinks others lives (page_record at p)
              (ap (λ (s : Slot). s.0) (slot_here p is)) row))
          | inr apart ↦
              subst (λ (b : Bool). HoldsRow (page_record bt (if b then g p else p)) new)
              (sym (ne_eqb p.page.id.0 id.0 apart))
              (subst (λ (r : Record). HoldsRow r new) (sym (same p apart))
              (row_beside_kept slot change kinds.Place old new sets unlinks others lives (page_record at p)
              (slot_beside p apart row) row))
        ]
