-- The rows of a store in linked slots where an origin gets another total, and where the day is
-- another.
use Rattle.std.proofs.Common.{◌≡◌, ◌≢◌, ◌∙◌, ◌∷◌, ◌++◌, ◌==◌, [], ℕ, Bool, List, ap, eq-eqb, eqb, if◌then◌else◌, inl}
use Rattle.std.proofs.Common.{false, inr, is_some, map, refl, subst, sym, true}
use Rattle.std.specs.List.{IsDistinct, slice_index_or}
use Rattle.std.proofs.lemmas.Bool.{cases_eq, ne_eqb}
use Rattle.std.proofs.lemmas.List.Elements.{All-map}
use Rattle.pl_base.specs.declared.date.Day.{Day}
use Rattle.pl_base.specs.declared.id.Slot.{Slot}
use Rattle.pl_base.specs.declared.id.VisitId.{VisitId}
use Rattle.pl_base.specs.Date.{IsDay}
use Rattle.pl_base.specs.Rows.{Kept, KeptOrigin, KeptPage, totaled, with_day, with_total}
use Rattle.pl_base.specs.Store.{Item, Visit}
use Rattle.pl_record.specs.Chains.{page_slots, pages_in}
use Rattle.pl_record.specs.LinkedRows.{AreLinked, Entries}
use Rattle.pl_record.specs.Records.{HoldsOnce, HoldsRow, HoldsRows, HoldsTexts, item_record, origin_record, page_record}
use Rattle.pl_record.specs.Records.{row_slots, text_slots, unlinked, visit_record}
use Rattle.pl_record.specs.Rows as rows
use Rattle.pl_record.specs.Rows.{SetsRow}
use Rattle.pl_record.proofs.PagesChanged.{day_rows, totaled_rows}
use Rattle.pl_record.proofs.RowSets.{changed_row, live_kept, other_row, part_kept, row_beside_kept, texts_by_parts}
use Rattle.pl_record.proofs.RowSets.{texts_each}
use Rattle.pl_record.proofs.ChainsKept as held
use Rattle.pl_record.proofs.ChainsKept.{KeepsEnds, KeepsLinks, KeepsMembers, same_header, same_kinds, same_links}
use Rattle.pl_record.proofs.SameRows as same
use Rattle.pl_rail.specs.declared.owner.Owner.TheVariants.{At, Header}
use Rattle.pl_rail.specs.Rails.{Lists}
use Rattle.pl_sheets.specs.Sheets.{Pages}
use Rattle.pl_slot.specs.declared.kind.LiveKind.{LiveKind}
use Rattle.pl_slot.specs.declared.kind.LiveKind.TheVariants as live
use Rattle.pl_slot.specs.declared.kind.SlotKind.TheVariants as kinds
use Rattle.pl_slot.specs.declared.links.Rail.TheVariants.{Live, OriginPages}
use Rattle.pl_slot.specs.declared.row.SlotRow.{SlotRow}
use Rattle.pl_slot.specs.declared.row.SlotRow.TheVariants.{Free, Item as ItemRow, Origin, Place, Text}
use Rattle.pl_slot.specs.declared.row.SlotRow.TheVariants.{Visit as VisitRow}
use Rattle.pl_slot.specs.Arena.{IsArena, SetsHeader, header_of, is_among, live_row}
use Rattle.pl_slot.specs.Header.{ends_of}
use Rattle.pl_slot.specs.Slot.{slot_kind}
use Rattle.pl_text.specs.Chunks.{Hold}

-- ---- a total in a row

pub total_unlinks : (total : ℕ) (row : SlotRow)
    → unlinked (rows.with_total total row) ≡ rows.with_total total (unlinked row)
total_unlinks total (Free next) = refl
total_unlinks total (Origin a b c d e) = refl
total_unlinks total (Place a b c d e f g h i j k l m n o p q r) = refl
total_unlinks total (VisitRow a b c d e f g h i j k l m) = refl
total_unlinks total (ItemRow a b c d e f g h i j k l m n o p) = refl
total_unlinks total (Text a b c) = refl

pub total_others : (total : ℕ) (row : SlotRow) → slot_kind row ≢ kinds.Origin → rows.with_total total row ≡ row
total_others total (Free next) apart = refl
total_others total (Origin a b c d e) apart = absurd (apart refl)
total_others total (Place a b c d e f g h i j k l m n o p q r) apart = refl
total_others total (VisitRow a b c d e f g h i j k l m) apart = refl
total_others total (ItemRow a b c d e f g h i j k l m n o p) apart = refl
total_others total (Text a b c) apart = refl

pub total_lives : (total : ℕ) (row : SlotRow)
    → is_some (live_row (rows.with_total total row)) ≡ is_some (live_row row)
total_lives total (Free next) = refl
total_lives total (Origin a b c d e) = refl
total_lives total (Place a b c d e f g h i j k l m n o p q r) = refl
total_lives total (VisitRow a b c d e f g h i j k l m) = refl
total_lives total (ItemRow a b c d e f g h i j k l m n o p) = refl
total_lives total (Text a b c) = refl

-- ---- an origin with another total

totaled_name : (origin : Slot) (total : ℕ) (o : KeptOrigin) → (totaled origin total o).origin ≡ o.origin
totaled_name origin total o =
    elim (o.origin.0 == origin.0) as (λ b. (if b then record o { total = total } else o).origin ≡ o.origin) [
      | true ↦ refl
      | false ↦ refl
    ]

names_same : (origin : Slot) (total : ℕ) (os : List KeptOrigin)
    → map (λ (o : KeptOrigin). o.origin) (map (totaled origin total) os) ≡ map (λ (o : KeptOrigin). o.origin) os
names_same origin total [] = refl
names_same origin total (o ∷ os) = λ i. totaled_name origin total o i ∷ names_same origin total os i

numbers_same : (origin : Slot) (total : ℕ) (os : List KeptOrigin)
    → map (λ (o : KeptOrigin). o.origin.0) (map (totaled origin total) os) ≡ map (λ (o : KeptOrigin). o.origin.0) os
numbers_same origin total [] = refl
numbers_same origin total (o ∷ os) = λ i. (totaled_name origin total o i).0 ∷ numbers_same origin total os i

module _ (kept : Kept) (targets : VisitId → List Visit) (old new : Pages) (pages visits items : Entries)
    (l : AreLinked kept targets old pages visits items) (origin : Slot) (total : ℕ)
    (sets : SetsRow origin (rows.with_total total) old new) where
  origin_held : (o : KeptOrigin) → HoldsRow (origin_record o) old → HoldsRow
      (origin_record (totaled origin total o)) new
  origin_held o held = elim (cases_eq o.origin.0 origin.0) [
    | inl is ↦
        subst (λ (b : Bool). HoldsRow (origin_record (if b then record o { total = total } else o)) new)
        (sym (eq-eqb o.origin.0 origin.0 is))
        (changed_row origin (rows.with_total total) kinds.Origin old new sets (total_unlinks total) (total_others total)
        (total_lives total) (origin_record o) is held)
    | inr apart ↦
        subst (λ (b : Bool). HoldsRow (origin_record (if b then record o { total = total } else o)) new)
        (sym (ne_eqb o.origin.0 origin.0 apart))
        (row_beside_kept origin (rows.with_total total) kinds.Origin old new sets (total_unlinks total)
        (total_others total) (total_lives total) (origin_record o) apart held)
  ]

  rows_held : HoldsRows l.at (with_total origin total kept) new
  rows_held =
      record {
        origins =
            All-map (λ (o : KeptOrigin). HoldsRow (origin_record o) new) (totaled origin total) kept.origins
            (λ k d within. origin_held (slice_index_or kept.origins k d) (l.laid.rows.origins k d within));
        places = λ k d within.
            other_row origin (rows.with_total total) kinds.Origin old new sets (total_unlinks total)
            (total_others total)
            (total_lives total) (page_record l.at (slice_index_or kept.pages k d)) (λ is. absurd (cc))
            (l.laid.rows.places k d within);
        visits = λ k d within.
            other_row origin (rows.with_total total) kinds.Origin old new sets (total_unlinks total)
            (total_others total)
            (total_lives total) (visit_record l.at (slice_index_or kept.visits k d)) (λ is. absurd (cc))
            (l.laid.rows.visits k d within);
        items = λ k d within.
            other_row origin (rows.with_total total) kinds.Origin old new sets (total_unlinks total)
            (total_others total)
            (total_lives total) (item_record l.at kept.items (slice_index_or kept.items k d)) (λ is. absurd (cc))
            (l.laid.rows.items k d within);
      }

  text_kept : (ns text : List ℕ) → Hold ns text old → Hold ns text new
  text_kept ns text held =
      texts_by_parts old new
      (part_kept origin (rows.with_total total) kinds.Origin old new sets (total_unlinks total) (total_others total)
      (total_lives total) (λ is. absurd (cc))) ns text held

  texts_held : HoldsTexts l.at (with_total origin total kept) new
  texts_held =
      let texts = texts_each l.at kept old new text_kept l.laid.texts in
      record { urls = texts.urls; titles = texts.titles; item_titles = texts.item_titles }

  slots_same : row_slots l.at (with_total origin total kept) ++ text_slots l.at (with_total origin total kept)
      ≡ row_slots l.at kept ++ text_slots l.at kept
  slots_same =
      λ i.
      (numbers_same origin total kept.origins i
      ++ map (λ (p : KeptPage). (l.at.page p.page.id).0) kept.pages
      ++ map (λ (v : Visit). (l.at.visit v.id).0) kept.visits
      ++ map (λ (j : Item). (l.at.item j.id).0) kept.items)
      ++ text_slots l.at kept

  slots_once : HoldsOnce l.at (with_total origin total kept) new
  slots_once =
      record {
        once = subst (λ slots. IsDistinct eqb slots) (sym slots_same) l.laid.slots.once;
        whole = λ n is.
            subst (λ slots. is_among n slots ≡ true) (sym slots_same)
            (l.laid.slots.whole n
            (sym (live_kept origin (rows.with_total total) kinds.Origin old new sets (total_unlinks total)
            (total_others total) (total_lives total) n) ∙ is));
      }

  pub total_set : AreLinked (with_total origin total kept) targets new pages visits items
  total_set =
      let members : KeepsMembers old new = same_kinds old new sets.kinds in
      let links : KeepsLinks old new = same_links old new sets.links in
      let ends : KeepsEnds old new = same_header old new sets.header in
      let in_header = held.live_kept old new members links ends l.at kept targets l.laid.live in
      let chains = held.chains_kept old new members links ends l.at kept targets l.laid.chains in
      let alone = held.alone_all_kept old new members links ends l.at kept targets l.laid.alone in
      record {
        at = l.at;
        rows = totaled_rows kept targets origin total l.rows;
        laid = record {
          arena = sets.arena;
          header = record {
            form = ap (λ h. h.form) sets.header ∙ l.laid.header.form;
            day = ap (λ h. h.day) sets.header ∙ l.laid.header.day;
            ids = ap (λ h. h.ids) sets.header ∙ l.laid.header.ids;
            live = ap (λ h. h.live) sets.header ∙ l.laid.header.live;
            rest = ap (λ h. h.rest) sets.header ∙ l.laid.header.rest;
          };
          rows = rows_held;
          texts = texts_held;
          slots = slots_once;
          live = record {
            origins =
                subst (λ slots. Lists Live (Header live.Origin) slots new)
                (sym (names_same origin total kept.origins)) in_header.origins;
            places = in_header.places;
            visits = in_header.visits;
            items = in_header.items;
          };
          chains = record {
            origins =
                All-map (λ (o : KeptOrigin). Lists OriginPages (At o.origin)
                (page_slots l.at (pages_in kept o.origin)) new) (totaled origin total) kept.origins
                (λ k d within.
                subst (λ name. Lists OriginPages (At name) (page_slots l.at (pages_in kept name)) new)
                (sym (totaled_name origin total (slice_index_or kept.origins k d))) (chains.origins k d within));
            visits = chains.visits;
            references = chains.references;
            targeted = chains.targeted;
            children = chains.children;
          };
          alone = record { visits = alone.visits; roots = alone.roots; others = alone.others };
        };
        indexed = record { pages = l.indexed.pages; visits = l.indexed.visits; items = l.indexed.items };
      }

-- ---- another day

module _ (kept : Kept) (targets : VisitId → List Visit) (old new : Pages) (pages visits items : Entries)
    (l : AreLinked kept targets old pages visits items) (day : Day) (is : IsDay day)
    (sets : SetsHeader (λ h. record h { day = day }) old new) (arena : IsArena new) where
  pub day_set : AreLinked (with_day day kept) targets new pages visits items
  day_set =
      let members : KeepsMembers old new = same_kinds old new (same.kind_kept old new sets.rows) in
      let links : KeepsLinks old new = same_links old new (same.link_kept old new sets.rows) in
      let ends : KeepsEnds old new = λ kind. ap (ends_of kind) sets.header ∙ kept_ends kind in
      let rows = same.rows_kept old new sets.rows l.at kept targets l.laid.rows in
      let texts = same.texts_kept old new sets.rows l.at kept targets l.laid.texts in
      let once = same.once_kept old new sets.rows l.at kept targets l.laid.slots in
      let in_header = held.live_kept old new members links ends l.at kept targets l.laid.live in
      let chains = held.chains_kept old new members links ends l.at kept targets l.laid.chains in
      let alone = held.alone_all_kept old new members links ends l.at kept targets l.laid.alone in
      record {
        at = l.at;
        rows = day_rows kept targets day is l.rows;
        laid = record {
          arena = arena;
          header = record {
            form = ap (λ h. h.form) sets.header ∙ l.laid.header.form;
            day = ap (λ h. h.day) sets.header;
            ids = ap (λ h. h.ids) sets.header ∙ l.laid.header.ids;
            live = ap (λ h. h.live) sets.header ∙ l.laid.header.live;
            rest = ap (λ h. h.rest) sets.header ∙ l.laid.header.rest;
          };
          rows = record { origins = rows.origins; places = rows.places; visits = rows.visits; items = rows.items };
          texts = record { urls = texts.urls; titles = texts.titles; item_titles = texts.item_titles };
          slots = record { once = once.once; whole = once.whole };
          live = record {
            origins = in_header.origins;
            places = in_header.places;
            visits = in_header.visits;
            items = in_header.items;
          };
          chains = record {
            origins = chains.origins;
            visits = chains.visits;
            references = chains.references;
            targeted = chains.targeted;
            children = chains.children;
          };
          alone = record { visits = alone.visits; roots = alone.roots; others = alone.others };
        };
        indexed = record { pages = l.indexed.pages; visits = l.indexed.visits; items = l.indexed.items };
      }
    where
      kept_ends : (kind : LiveKind) → ends_of kind (record (header_of old) { day = day }) ≡ ends_of kind (header_of old)
      kept_ends live.Origin = refl
      kept_ends live.Place = refl
      kept_ends live.Visit = refl
      kept_ends live.Item = refl
