-- Rows and texts that stay, and what a row that is written in place of another leaves of them, and
-- of live slots.
use Rattle.std.proofs.Common.{◌≡◌, ◌≢◌, ◌∙◌, ◌∷◌, [], ℕ, List, None, Option, Some, ap, eq-eqb, if◌then◌else◌}
use Rattle.std.proofs.Common.{drop, inl, inr, is_some, refl, take}
use Rattle.std.specs.List.{slice_index_or}
use Rattle.std.specs.Option.{option_and_then, option_map}
use Rattle.std.proofs.lemmas.Bool.{cases_eq, ne_eqb}
use Rattle.pl_base.specs.declared.id.Slot.{Slot}
use Rattle.pl_base.specs.Rows.{Kept, KeptPage}
use Rattle.pl_base.specs.Store.{Item}
use Rattle.pl_record.specs.Records.{HoldsRow, HoldsRows, HoldsTexts, Layout, Record, item_record, origin_record}
use Rattle.pl_record.specs.Records.{page_record, unlinked, visit_record}
use Rattle.pl_record.specs.Rows.{SetsRow}
use Rattle.pl_sheets.specs.Sheets.{Pages}
use Rattle.pl_slot.specs.declared.kind.SlotKind.{SlotKind}
use Rattle.pl_slot.specs.declared.kind.SlotKind.TheVariants as kinds
use Rattle.pl_slot.specs.declared.row.SlotRow.{SlotRow}
use Rattle.pl_slot.specs.declared.row.SlotRow.TheVariants as rows
use Rattle.pl_slot.specs.Arena.{first_in, is_live, live_at, live_row, row_at}
use Rattle.pl_slot.specs.Slot.{payload_size, slot_kind}
use Rattle.pl_text.specs.Chunks.{Hold, HoldsPart, chunk_row}

-- a live row is the one that the slot holds
pub row_of_live : (n : ℕ) (row : SlotRow) (pages : Pages) → live_at n pages ≡ Some row → row_at n pages ≡ Some row
row_of_live n row pages is = choose (row_at n pages) is
  where
    of_row : (r : SlotRow) → live_row r ≡ Some row → r ≡ row
    of_row (rows.Free next) some = absurd (cc)
    of_row (rows.Origin a b c d e) some = cc
    of_row (rows.Place a b c d e f g h i j k l m n o p q r) some = cc
    of_row (rows.Visit a b c d e f g h i j k l m) some = cc
    of_row (rows.Item a b c d e f g h i j k l m n o p) some = cc
    of_row (rows.Text a b c) some = cc

    choose : (o : Option SlotRow) → option_and_then live_row o ≡ Some row → o ≡ Some row
    choose None some = absurd (cc)
    choose (Some r) some = ap Some (of_row r some)

-- the rows of a layout are held where each such record is, and its texts where each is
pub rows_each : (at : Layout) (kept : Kept) (old new : Pages)
    → ((r : Record) → slot_kind r.row ≢ kinds.Free → slot_kind r.row ≢ kinds.Text → HoldsRow r old → HoldsRow r new)
    → HoldsRows at kept old → HoldsRows at kept new
rows_each at kept old new each held =
    record {
      origins = λ k d within.
          each (origin_record (slice_index_or kept.origins k d)) (λ is. absurd (cc)) (λ is. absurd (cc))
          (held.origins k d within);
      places = λ k d within.
          each (page_record at (slice_index_or kept.pages k d)) (λ is. absurd (cc)) (λ is. absurd (cc))
          (held.places k d within);
      visits = λ k d within.
          each (visit_record at (slice_index_or kept.visits k d)) (λ is. absurd (cc)) (λ is. absurd (cc))
          (held.visits k d within);
      items = λ k d within.
          each (item_record at kept.items (slice_index_or kept.items k d)) (λ is. absurd (cc)) (λ is. absurd (cc))
          (held.items k d within);
    }

pub texts_each : (at : Layout) (kept : Kept) (old new : Pages)
    → ((ns text : List ℕ) → Hold ns text old → Hold ns text new) → HoldsTexts at kept old → HoldsTexts at kept new
texts_each at kept old new each held =
    record {
      urls = λ k d within.
          let p : KeptPage = slice_index_or kept.pages k d in
          each (at.url p.page.id) p.page.url (held.urls k d within);
      titles = λ k d within.
          let p : KeptPage = slice_index_or kept.pages k d in
          each (at.title p.page.id) p.page.title (held.titles k d within);
      item_titles = λ k d within.
          let i : Item = slice_index_or kept.items k d in
          each (at.item_title i.id) i.title (held.item_titles k d within);
    }

-- texts are held where their parts are
pub texts_by_parts : (old new : Pages)
    → ((n : ℕ) (part : List ℕ) (next : Slot) → HoldsPart n part next old → HoldsPart n part next new)
    → (ns text : List ℕ) → Hold ns text old → Hold ns text new
texts_by_parts old new parts [] text held = held
texts_by_parts old new parts (n ∷ ns) text held = (
  held.0,
  parts n (take payload_size text) (first_in ns) held.1,
  texts_by_parts old new parts ns (drop payload_size text) held.2,
)

-- rows of one kind alone are changed, in what is no link
module _ (slot : Slot) (change : SlotRow → SlotRow) (kind : SlotKind) (old new : Pages)
    (sets : SetsRow slot change old new) (unlinks : (row : SlotRow) → unlinked (change row) ≡ change (unlinked row))
    (others : (row : SlotRow) → slot_kind row ≢ kind → change row ≡ row)
    (lives : (row : SlotRow) → is_some (live_row (change row)) ≡ is_some (live_row row)) where
  row_here : (n : ℕ) → n ≡ slot.0 → row_at n new ≡ option_map change (row_at n old)
  row_here n same =
      sets.rows n ∙ ap (λ b. if b then option_map change (row_at n old) else row_at n old) (eq-eqb n slot.0 same)

  row_beside : (n : ℕ) → n ≢ slot.0 → row_at n new ≡ row_at n old
  row_beside n apart =
      sets.rows n ∙ ap (λ b. if b then option_map change (row_at n old) else row_at n old) (ne_eqb n slot.0 apart)

  pub changed_row : (r : Record) → r.slot.0 ≡ slot.0 → HoldsRow r old
      → HoldsRow (record { slot = r.slot; row = change r.row }) new
  changed_row r same held =
      ap (option_map unlinked) (row_here r.slot.0 same) ∙ swapped (row_at r.slot.0 old) ∙ ap (option_map change) held
    where
      swapped : (o : Option SlotRow) → option_map unlinked (option_map change o) ≡ option_map change
          (option_map unlinked o)
      swapped None = refl
      swapped (Some row) = ap Some (unlinks row)

  pub row_beside_kept : (r : Record) → r.slot.0 ≢ slot.0 → HoldsRow r old → HoldsRow r new
  row_beside_kept r apart held = ap (option_map unlinked) (row_beside r.slot.0 apart) ∙ held

  pub other_row : (r : Record) → slot_kind r.row ≢ kind → HoldsRow r old → HoldsRow r new
  other_row r apart held = elim (cases_eq r.slot.0 slot.0) [
    | inl same ↦ changed_row r same held ∙ ap Some (others r.row apart)
    | inr differs ↦ row_beside_kept r differs held
  ]

  pub part_kept : kinds.Text ≢ kind → (n : ℕ) (part : List ℕ) (next : Slot) → HoldsPart n part next old
      → HoldsPart n part next new
  part_kept text n part next held = elim (cases_eq n slot.0) [
    | inl same ↦
        ap (option_and_then live_row)
        (row_here n same ∙ ap (option_map change) (row_of_live n (chunk_row part next) old held)
        ∙ ap Some (others (chunk_row part next) text))
    | inr apart ↦ ap (option_and_then live_row) (row_beside n apart) ∙ held
  ]

  pub live_kept : (n : ℕ) → is_live n new ≡ is_live n old
  live_kept n = elim (cases_eq n slot.0) [
    | inl same ↦ ap (λ o. is_some (option_and_then live_row o)) (row_here n same) ∙ still (row_at n old)
    | inr apart ↦ ap (λ o. is_some (option_and_then live_row o)) (row_beside n apart)
  ]
    where
      still : (o : Option SlotRow)
          → is_some (option_and_then live_row (option_map change o)) ≡ is_some (option_and_then live_row o)
      still None = refl
      still (Some row) = lives row
