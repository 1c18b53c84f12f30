-- The rows of live slots but for their links, behind calls on the arena, on rails and on texts.
use Rattle.std.proofs.Common.{◌≡◌, ◌∙◌, ◌==◌, ◌∷◌, [], ℕ, Bool, List, None, Option, Some, ap, cond, false, filter}
use Rattle.std.proofs.Common.{if◌then◌else◌, is_some, not, refl, sym, true}
use Rattle.std.specs.List.{list_all}
use Rattle.std.specs.Option.{option_and_then, option_map}
use Rattle.pl_base.specs.declared.id.Slot.{Slot}
use Rattle.pl_base.specs.Live.{slot_size}
use Rattle.pl_base.specs.Rows.{Kept}
use Rattle.pl_base.proofs.KindNumbers.{kind_again, transition_again}
use Rattle.pl_record.specs.Records.{HoldsRow, HoldsRows, HoldsTexts, Layout, Record, unlinked}
use Rattle.pl_record.specs.Rows.{SetsRow, record_at}
use Rattle.pl_record.proofs.RowSets.{rows_each, texts_by_parts, texts_each}
use Rattle.pl_record.proofs.RowsWritten.{kind_live}
use Rattle.pl_rail.specs.declared.owner.Owner.{Owner}
use Rattle.pl_rail.specs.Rails.{KeepsRest}
use Rattle.pl_sheets.specs.Sheets.{Pages, bytes_at, place_in}
use Rattle.pl_slot.specs.declared.kind.SlotKind.{SlotKind}
use Rattle.pl_slot.specs.declared.links.Rail.{Rail}
use Rattle.pl_slot.specs.declared.links.Rail.TheVariants.{Children, Live, OriginPages, PageVisits, References, Targets}
use Rattle.pl_slot.specs.declared.row.SlotRow.{SlotRow}
use Rattle.pl_slot.specs.declared.row.SlotRow.TheVariants as rows
use Rattle.pl_slot.specs.Arena.{IsSet, IsSetLive, KeepsRows, is_among, is_live, live_at, live_row, row_at}
use Rattle.pl_slot.specs.Arena.{slot_byte, slot_page}
use Rattle.pl_slot.specs.Links.{is_link_place, kind_at, other_fields, others_at}
use Rattle.pl_slot.specs.Slot.{Field, laid, slot_bytes, slot_kind}
use Rattle.pl_slot.specs.SlotReading.{item_in, row_in, visit_in}
use Rattle.pl_slot.proofs.LinkLaws.{holds_slot}
use Rattle.pl_slot.proofs.RowsRead.{row_bytes}
use Rattle.pl_slot.proofs.SlotPlaces.{held}
use Rattle.pl_text.specs.Chunks.{Hold, HoldsPart, KeepsLive, chunk_row}

-- ---- the record of a slot, and what the slot holds

abbrev pub record_of : Option SlotRow → Option SlotRow
record_of row = option_map unlinked (option_and_then live_row row)

live_unlinked : (o : Option SlotRow) → record_of o ≡ option_and_then live_row (option_map unlinked o)
live_unlinked None = refl
live_unlinked (Some (rows.Free next)) = refl
live_unlinked (Some row) = refl

pub held_record : (r : Record) (pages : Pages) → live_row r.row ≡ Some r.row → HoldsRow r pages
    → record_at r.slot.0 pages ≡ Some r.row
held_record r pages live holds = live_unlinked (row_at r.slot.0 pages) ∙ ap (option_and_then live_row) holds ∙ live

pub record_held : (r : Record) (pages : Pages) → record_at r.slot.0 pages ≡ Some r.row → HoldsRow r pages
record_held r pages is = choose (row_at r.slot.0 pages) is
  where
    choose : (o : Option SlotRow) → record_of o ≡ Some r.row → option_map unlinked o ≡ Some r.row
    choose None same = same
    choose (Some (rows.Free next)) same = absurd (cc)
    choose (Some row) same = same

pub part_record : (n : ℕ) (part : List ℕ) (next : Slot) (pages : Pages) → HoldsPart n part next pages
    → record_at n pages ≡ Some (chunk_row part next)
part_record n part next pages holds = ap (option_map unlinked) holds

pub record_part : (n : ℕ) (part : List ℕ) (next : Slot) (pages : Pages)
    → record_at n pages ≡ Some (chunk_row part next) → HoldsPart n part next pages
record_part n part next pages is = choose (live_at n pages) is
  where
    choose : (o : Option SlotRow) → option_map unlinked o ≡ Some (chunk_row part next) → o ≡ Some (chunk_row part next)
    choose None same = same
    choose (Some (rows.Free to)) same = same
    choose (Some (rows.Text used to payload)) same = same
    choose (Some row) same = absurd (cc)

pub record_live : (n : ℕ) (pages : Pages) → is_live n pages ≡ is_some (record_at n pages)
record_live n pages = choose (live_at n pages)
  where
    choose : (o : Option SlotRow) → is_some o ≡ is_some (option_map unlinked o)
    choose None = refl
    choose (Some row) = refl

-- ---- calls on the arena

either : {A B : Type 0} (f : A → B) (b : Bool) (x y : A) → f (cond b x y) ≡ cond b (f x) (f y)
either f true x y = refl
either f false x y = refl

pub kept_records : (old new : Pages) → KeepsRows old new → (n : ℕ) → record_at n new ≡ record_at n old
kept_records old new keeps n = ap record_of (keeps n)

pub written_records : (slot : ℕ) (row : SlotRow) (old new : Pages) → IsSet slot row old new → live_row row ≡ Some row
    → (n : ℕ) → record_at n new ≡ (if n == slot then Some (unlinked row) else record_at n old)
written_records slot row old new set live n =
    ap record_of (set n) ∙ either record_of (n == slot) (Some row) (row_at n old)
    ∙ ap (λ o. cond (n == slot) (option_map unlinked o) (record_at n old)) live

pub taken_records : (slot : ℕ) (row : SlotRow) (old new : Pages) → IsSetLive slot row old new
    → (n : ℕ) → record_at n new ≡ (if n == slot then Some (unlinked row) else record_at n old)
taken_records slot row old new set n =
    ap (option_map unlinked) (set n) ∙ either (option_map unlinked) (n == slot) (Some row) (live_at n old)

pub given_records : (slot : ℕ) (next : Slot) (old new : Pages) → IsSet slot (rows.Free next) old new
    → (n : ℕ) → record_at n new ≡ (if n == slot then None else record_at n old)
given_records slot next old new set n =
    ap record_of (set n) ∙ either record_of (n == slot) (Some (rows.Free next)) (row_at n old)

pub beside_records : (ns : List ℕ) (old new : Pages) → KeepsLive ns old new
    → (n : ℕ) → is_among n ns ≡ false → record_at n new ≡ record_at n old
beside_records ns old new keeps n apart = ap (option_map unlinked) (keeps n apart)

-- a row that is written with the links that it had, where the change is none of links
pub set_records : (slot : Slot) (change : SlotRow → SlotRow) (old new : Pages) → SetsRow slot change old new
    → ((o : Option SlotRow) → record_of (option_map change o) ≡ option_map change (record_of o))
    → (n : ℕ) → record_at n new ≡ (if n == slot.0 then option_map change (record_at n old) else record_at n old)
set_records slot change old new sets alike n =
    ap record_of (sets.rows n) ∙ either record_of (n == slot.0) (option_map change (row_at n old)) (row_at n old)
    ∙ ap (λ o. cond (n == slot.0) o (record_at n old)) (alike (row_at n old))

-- ---- rails

-- the field is no link of any rail
abbrev is_own : SlotKind → Field → Bool
is_own kind field =
    list_all (λ (rail : Rail). not (is_link_place rail kind field.0))
    (Live ∷ OriginPages ∷ PageVisits ∷ Targets ∷ Children ∷ References ∷ [])

-- the bytes of a slot with these fields but for links
abbrev own_bytes : SlotKind → List Field → List ℕ
own_bytes kind fields = laid slot_size 0 (filter (is_own kind) fields)

bytes_unlinked : (rail : Rail) (row : SlotRow)
    → own_bytes (slot_kind row) (other_fields rail row) ≡ slot_bytes (unlinked row)
bytes_unlinked Live (rows.Free next) = refl
bytes_unlinked OriginPages (rows.Free next) = refl
bytes_unlinked PageVisits (rows.Free next) = refl
bytes_unlinked Targets (rows.Free next) = refl
bytes_unlinked Children (rows.Free next) = refl
bytes_unlinked References (rows.Free next) = refl
bytes_unlinked rail row = refl

-- a row that is read from its bytes is so without its links
read_unlinked : (row : SlotRow) → row_in (slot_bytes row) ≡ Some row
    → row_in (slot_bytes (unlinked row)) ≡ Some (unlinked row)
read_unlinked (rows.Free next) is = is
read_unlinked (rows.Origin a b c d e) is = ap (option_map unlinked) is
read_unlinked (rows.Place a b c d e f g h i j k l m n o p q r) is = ap (option_map unlinked) is
read_unlinked (rows.Visit a b c d e f g h i j k l m) is =
    let row = rows.Visit a b c d e f g h i j k l m in
    let known = transition_again a in
    ap (option_map (visit_in (slot_bytes (unlinked row)))) known
    ∙ ap (option_map unlinked) (sym (ap (option_map (visit_in (slot_bytes row))) known) ∙ is)
read_unlinked (rows.Item a b c d e f g h i j k l m n o p) is =
    let row = rows.Item a b c d e f g h i j k l m n o p in
    let known = kind_again a in
    ap (option_map (item_in (slot_bytes (unlinked row)))) known
    ∙ ap (option_map unlinked) (sym (ap (option_map (item_in (slot_bytes row))) known) ∙ is)
read_unlinked (rows.Text used next payload) is = is

read_there : (n : ℕ) (row : SlotRow) (pages : Pages) → row_at n pages ≡ Some row
    → row_in (slot_bytes (unlinked row)) ≡ Some (unlinked row)
read_there n row pages is =
    let both =
    row_bytes (bytes_at (place_in (slot_page n) (slot_byte n)) slot_size pages.bytes) row
    (sym (held n pages (holds_slot n row pages is)) ∙ is) in
    read_unlinked row (sym (ap row_in both.0) ∙ both.1)

pub rail_records : (rail : Rail) (owner : Owner) (old new : Pages) → KeepsRest rail owner old new
    → (n : ℕ) → record_at n new ≡ record_at n old
unfolding kind_at others_at
rail_records rail owner old new rest n =
    choose (row_at n new) (row_at n old) refl refl (rest.kinds n) (rest.fields n)
  where
    choose : (a b : Option SlotRow) → row_at n new ≡ a → row_at n old ≡ b
        → option_map slot_kind a ≡ option_map slot_kind b
        → option_map (other_fields rail) a ≡ option_map (other_fields rail) b → record_of a ≡ record_of b
    choose None None is_a is_b kind fields = refl
    choose None (Some b) is_a is_b kind fields = absurd (cc)
    choose (Some a) None is_a is_b kind fields = absurd (cc)
    choose (Some a) (Some b) is_a is_b kind fields =
        let one_kind : slot_kind a ≡ slot_kind b = cc in
        let same_fields : other_fields rail a ≡ other_fields rail b = cc in
        let bytes : slot_bytes (unlinked a) ≡ slot_bytes (unlinked b) =
        sym (bytes_unlinked rail a) ∙ (λ i. own_bytes (one_kind i) (same_fields i)) ∙ bytes_unlinked rail b in
        let row : Some (unlinked a) ≡ Some (unlinked b) =
        sym (read_there n a new is_a) ∙ ap row_in bytes ∙ read_there n b old is_b in
        live_unlinked (Some a) ∙ ap (option_and_then live_row) row ∙ sym (live_unlinked (Some b))

-- ---- records that all stay

module _ (old new : Pages)
    (keeps : (n : ℕ) (row : SlotRow) → record_at n old ≡ Some row → record_at n new ≡ Some row) where
  pub row_moved : (r : Record) → live_row r.row ≡ Some r.row → HoldsRow r old → HoldsRow r new
  row_moved r live holds = record_held r new (keeps r.slot.0 r.row (held_record r old live holds))

  part_moved : (n : ℕ) (part : List ℕ) (next : Slot) → HoldsPart n part next old → HoldsPart n part next new
  part_moved n part next holds =
      record_part n part next new (keeps n (chunk_row part next) (part_record n part next old holds))

  pub text_moved : (ns text : List ℕ) → Hold ns text old → Hold ns text new
  text_moved ns text holds = texts_by_parts old new part_moved ns text holds

  pub rows_moved : (at : Layout) (kept : Kept) → HoldsRows at kept old → HoldsRows at kept new
  rows_moved at kept holds = rows_each at kept old new (λ r live _. row_moved r (kind_live r.row live)) holds

  pub texts_moved : (at : Layout) (kept : Kept) → HoldsTexts at kept old → HoldsTexts at kept new
  texts_moved at kept holds = texts_each at kept old new text_moved holds
