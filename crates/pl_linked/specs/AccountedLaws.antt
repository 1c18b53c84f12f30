-- Each byte of a file in the form is of a row of its store, of a link or of the header, or is 0.
use Rattle.std.proofs.Common.{◌≡◌, ◌∙◌, ℕ, List, Option, IsSome, Some, None, true, ap}
use Rattle.std.proofs.Common.{inl, inr, is_some, refl, sym}
use Rattle.std.proofs.Math.Logic.{∥∥₁_elim, ∥∥₁_prop}
use Rattle.std.specs.Option.{option_and_then}
use Rattle.std.proofs.lemmas.Bool.{true≢false}
use Rattle.pl_base.specs.declared.id.VisitId.{VisitId}
use Rattle.pl_base.specs.Rows.{Kept}
use Rattle.pl_base.specs.Store.{Store, Visit}
use Rattle.pl_linked.specs.Accounted.{IsAccounted, IsSlotAccounted, slot_image}
use Rattle.pl_record.specs.Form.{IsForm, StandsFor, pages_of}
use Rattle.pl_record.specs.Records.{Layout}
use Rattle.pl_sheets.specs.Sheets.{Pages}
use Rattle.pl_slot.specs.declared.row.SlotRow.{SlotRow}
use Rattle.pl_slot.specs.declared.row.SlotRow.TheVariants as rows
use Rattle.pl_slot.specs.Arena.{is_live, is_slot, live_row, row_at}
use Rattle.pl_slot.specs.Slot.{slot_bytes}
use Rattle.pl_slot.proofs.RowsRead.{row_bytes}
use Rattle.pl_slot.proofs.SlotPlaces.{held}

module _ (kept : Kept) (targets : VisitId → List Visit) (pages : Pages)
    (form : IsForm kept targets pages) (n : ℕ) (there : is_slot n pages ≡ true) where
  -- a slot with a row of a store is live, and so one of those that the form names
  among : (row : SlotRow) → row_at n pages ≡ Some row → is_some (live_row row) ≡ true
      → slot_image n pages ≡ slot_bytes row → IsSlotAccounted form.at kept pages n
  among row is live bytes =
      let lives : is_live n pages ≡ true =
      ap (λ (found : Option SlotRow). is_some (option_and_then live_row found)) is ∙ live in
      inr (form.laid.slots.whole n lives, (row, bytes))

  by_row : (row : SlotRow) → row_at n pages ≡ Some row → slot_image n pages ≡ slot_bytes row
      → IsSlotAccounted form.at kept pages n
  by_row (rows.Free next) is bytes = inl (next, bytes)
  by_row (rows.Origin a b c d e) is bytes = among (rows.Origin a b c d e) is refl bytes
  by_row (rows.Place a b c d e f g h i j k l m o p q r s) is bytes =
      among (rows.Place a b c d e f g h i j k l m o p q r s) is refl bytes
  by_row (rows.Visit a b c d e f g h i j k l m) is bytes =
      among (rows.Visit a b c d e f g h i j k l m) is refl bytes
  by_row (rows.Item a b c d e f g h i j k l m o p q) is bytes =
      among (rows.Item a b c d e f g h i j k l m o p q) is refl bytes
  by_row (rows.Text a b c) is bytes = among (rows.Text a b c) is refl bytes

  by_found : (found : Option SlotRow) → row_at n pages ≡ found → IsSome found
      → IsSlotAccounted form.at kept pages n
  by_found None is some = absurd (true≢false (sym some))
  by_found (Some row) is some =
      by_row row is (row_bytes (slot_image n pages) row (sym (held n pages there) ∙ is)).0

-- pages in the form are accounted for
pub form_accounted : (kept : Kept) (targets : VisitId → List Visit) (pages : Pages)
    → (form : IsForm kept targets pages) → IsAccounted form.at kept pages
form_accounted kept targets pages form = record {
  header = form.laid.header.rest;
  slots = λ n there.
      by_found kept targets pages form n there (row_at n pages) refl
      (form.laid.arena.slots.rows n there);
}

-- the bytes of a store say nothing beside its rows: no byte is left of a row or a text that went
pub accounted : (bytes : List ℕ) (store : Store) (stands : StandsFor bytes store)
    → ∥ ((at : Layout) × IsAccounted at stands.kept (pages_of bytes)) ∥₁
accounted bytes store stands =
    ∥∥₁_elim stands.form ∥∥₁_prop
    (λ form. ∣ (form.at, form_accounted stands.kept stands.targets (pages_of bytes) form) ∣₁)
