-- The rows of a store in linked slots where an item gets another modified date.
use Rattle.std.proofs.Common.{◌≡◌, ◌≢◌, ◌∙◌, ◌==◌, ℕ, List, Some, ap, arith, get_or, is_some, map, refl, subst}
use Rattle.std.proofs.Common.{sym}
use Rattle.std.specs.List.{slice_index_or}
use Rattle.std.proofs.lemmas.Bool.{cond_both}
use Rattle.std.proofs.lemmas.List.Elements.{All-map}
use Rattle.pl_base.specs.declared.date.Micros.{Micros}
use Rattle.pl_base.specs.declared.id.ItemId.{ItemId}
use Rattle.pl_base.specs.declared.id.Slot.{Slot}
use Rattle.pl_base.specs.declared.id.VisitId.{VisitId}
use Rattle.pl_base.specs.Good.{IsTitle}
use Rattle.pl_base.specs.Live.{chunks, live_slots}
use Rattle.pl_base.specs.Rows.{Kept, store_of, with_items}
use Rattle.pl_base.specs.Store.{Item, Visit}
use Rattle.pl_base.specs.Tree.{item_at, redated}
use Rattle.pl_base.proofs.ItemLaws.{title_slots, titles_changed}
use Rattle.pl_base.proofs.ListLaws.{sum_by-agree, sum_by-map}
use Rattle.pl_record.specs.Form.{AreRows, IsLaid}
use Rattle.pl_record.specs.LinkedRows.{AreLinked, Entries, slot_at}
use Rattle.pl_record.specs.Records.{HoldsTexts, unlinked}
use Rattle.pl_record.specs.Rows as rows
use Rattle.pl_record.specs.Rows.{SetsRow}
use Rattle.pl_record.proofs.ItemMaps.{KeepsTree, at_item, entries_mapped, once_mapped, rows_mapped, slots_mapped}
use Rattle.pl_record.proofs.ItemMaps.{tree_at}
use Rattle.pl_record.proofs.ItemRewritten.{put_alone, put_chains, put_live, put_once, put_rows, put_texts}
use Rattle.pl_record.proofs.ItemRowsTold.{item_found}
use Rattle.pl_record.proofs.LookUps.{Found}
use Rattle.pl_sheets.specs.Sheets.{Pages}
use Rattle.pl_slot.specs.declared.kind.SlotKind.TheVariants as kinds
use Rattle.pl_slot.specs.declared.row.SlotRow.{SlotRow}
use Rattle.pl_slot.specs.declared.row.SlotRow.TheVariants.{Free, Item as ItemRow, Origin, Place, Text}
use Rattle.pl_slot.specs.declared.row.SlotRow.TheVariants.{Visit as VisitRow}
use Rattle.pl_slot.specs.Arena.{live_row}
use Rattle.pl_slot.specs.Slot.{slot_kind}
use Rattle.pl_text.specs.Chunks.{Hold}

-- ---- a date in a row

date_unlinks : (date : Micros) (row : SlotRow)
    → unlinked (rows.with_modified date row) ≡ rows.with_modified date (unlinked row)
date_unlinks date (Free next) = refl
date_unlinks date (Origin a b c d e) = refl
date_unlinks date (Place a b c d e f g h i j k l m n o p q r) = refl
date_unlinks date (VisitRow a b c d e f g h i j k l m) = refl
date_unlinks date (ItemRow a b c d e f g h i j k l m n o p) = refl
date_unlinks date (Text a b c) = refl

date_others : (date : Micros) (row : SlotRow) → slot_kind row ≢ kinds.Item → rows.with_modified date row ≡ row
date_others date (Free next) apart = refl
date_others date (Origin a b c d e) apart = refl
date_others date (Place a b c d e f g h i j k l m n o p q r) apart = refl
date_others date (VisitRow a b c d e f g h i j k l m) apart = refl
date_others date (ItemRow a b c d e f g h i j k l m n o p) apart = absurd (apart refl)
date_others date (Text a b c) apart = refl

date_lives : (date : Micros) (row : SlotRow)
    → is_some (live_row (rows.with_modified date row)) ≡ is_some (live_row row)
date_lives date (Free next) = refl
date_lives date (Origin a b c d e) = refl
date_lives date (Place a b c d e f g h i j k l m n o p q r) = refl
date_lives date (VisitRow a b c d e f g h i j k l m) = refl
date_lives date (ItemRow a b c d e f g h i j k l m n o p) = refl
date_lives date (Text a b c) = refl

-- ---- an item with another date

abbrev dated : Micros → Item → Item
dated date i = record i { modified = date }

keeps : (date : Micros) → KeepsTree (dated date)
keeps date i = refl

same_title : (id : ItemId) (date : Micros) (i : Item) → (at_item id (dated date) i).title ≡ i.title
same_title id date i =
    cond_both (i.id.0 == id.0) (dated date i) i (λ (j : Item). j.title ≡ i.title) (λ _. refl) (λ _. refl)

same_id : (id : ItemId) (date : Micros) (i : Item) → (at_item id (dated date) i).id ≡ i.id
same_id id date i =
    cond_both (i.id.0 == id.0) (dated date i) i (λ (j : Item). j.id ≡ i.id) (λ _. refl) (λ _. refl)

-- a date changes no text
pub dated_slots : (kept : Kept) (id : ItemId) (date : Micros)
    → live_slots (store_of (with_items (redated id date kept.items) kept)) ≡ live_slots (store_of kept)
dated_slots kept id date =
    let f : Item → Item = at_item id (dated date) in
    let same : title_slots (map f kept.items) ≡ title_slots kept.items =
    sum_by-map (λ (i : Item). chunks i.title) f kept.items
    ∙ sum_by-agree (λ (i : Item). chunks (f i).title) (λ (i : Item). chunks i.title) kept.items
    (λ k d within. ap chunks (same_title id date (get_or kept.items k d))) in
    omega (arith, slots_mapped f (tree_at id (dated date) (keeps date)) kept, same)

pub dated_rows : (kept : Kept) (targets : VisitId → List Visit) (id : ItemId) (date : Micros) → AreRows kept targets
    → AreRows (with_items (redated id date kept.items) kept) targets
dated_rows kept targets id date h =
    rows_mapped (at_item id (dated date)) (tree_at id (dated date) (keeps date)) kept targets
    (titles_changed IsTitle id (dated date) kept.items (λ i is. is) h.titles)
    (omega (arith, dated_slots kept id date, h.well.live)) h

module _ (kept : Kept) (targets : VisitId → List Visit) (old new : Pages) (pages visits items : Entries)
    (l : AreLinked kept targets old pages visits items) (id : ItemId) (slot : Slot) (date : Micros)
    (some : slot_at items id.0 ≡ Some slot) (sets : SetsRow slot (rows.with_modified date) old new) where
  abbrev now : Kept
  now = with_items (redated id date kept.items) kept

  found : Found (λ (i : Item). l.at.item i.id) (item_at kept.items id) slot
  found = item_found kept targets old pages visits items l id slot some

  text_kept : (ns text : List ℕ) → Hold ns text old → Hold ns text new
  text_kept =
      put_texts l.at kept old id slot found.row found.there found.here l.at.item_title new (rows.with_modified date)
      (dated date) (keeps date) sets (date_unlinks date) (date_others date) (date_lives date)

  texts_held : HoldsTexts l.at now new
  texts_held =
      record {
        urls = λ k d within.
            text_kept (l.at.url (slice_index_or kept.pages k d).page.id) (slice_index_or kept.pages k d).page.url
            (l.laid.texts.urls k d within);
        titles = λ k d within.
            text_kept (l.at.title (slice_index_or kept.pages k d).page.id) (slice_index_or kept.pages k d).page.title
            (l.laid.texts.titles k d within);
        item_titles =
            All-map (λ (i : Item). Hold (l.at.item_title i.id) i.title new) (at_item id (dated date)) kept.items
            (λ k d within.
            let i : Item = slice_index_or kept.items k d in
            subst (λ title. Hold (l.at.item_title (at_item id (dated date) i).id) title new)
            (sym (same_title id date i))
            (subst (λ c. Hold (l.at.item_title c) i.title new) (sym (same_id id date i))
            (text_kept (l.at.item_title i.id) i.title (l.laid.texts.item_titles k d within))));
      }

  laid : IsLaid l.at now targets new
  laid =
      let tree : KeepsTree (at_item id (dated date)) = tree_at id (dated date) (keeps date) in
      record {
        arena = sets.arena;
        header = record {
          form = ap (λ h. h.form) sets.header ∙ l.laid.header.form;
          day = ap (λ h. h.day) sets.header ∙ l.laid.header.day;
          ids = ap (λ h. h.ids) sets.header ∙ l.laid.header.ids;
          live = ap (λ h. h.live) sets.header ∙ l.laid.header.live ∙ sym (dated_slots kept id date);
          rest = ap (λ h. h.rest) sets.header ∙ l.laid.header.rest;
        };
        rows =
            put_rows l.at kept old id slot found.row found.there found.here l.at.item_title new
            (rows.with_modified date) (dated date) (keeps date) sets (date_unlinks date) (date_others date)
            (date_lives date) l.laid.rows (λ i is. refl) (λ i apart. refl);
        texts = texts_held;
        slots =
            once_mapped (at_item id (dated date)) tree kept l.at new
            (put_once l.at kept old id slot found.row found.there found.here l.at.item_title new
            (rows.with_modified date) (dated date) (keeps date) sets (date_unlinks date) (date_others date)
            (date_lives date) l.at kept l.laid.slots);
        live =
            put_live l.at kept old id slot found.row found.there found.here l.at.item_title new
            (rows.with_modified date) (dated date) (keeps date) sets (date_unlinks date) (date_others date)
            (date_lives date) targets l.laid.live;
        chains =
            put_chains l.at kept old id slot found.row found.there found.here l.at.item_title new
            (rows.with_modified date) (dated date) (keeps date) sets (date_unlinks date) (date_others date)
            (date_lives date) targets l.laid.chains;
        alone =
            put_alone l.at kept old id slot found.row found.there found.here l.at.item_title new
            (rows.with_modified date) (dated date) (keeps date) sets (date_unlinks date) (date_others date)
            (date_lives date) targets l.laid.alone;
      }

  pub item_dated : AreLinked now targets new pages visits items
  item_dated =
      let tree : KeepsTree (at_item id (dated date)) = tree_at id (dated date) (keeps date) in
      record {
        at = l.at;
        rows = dated_rows kept targets id date l.rows;
        laid = laid;
        indexed =
            entries_mapped (at_item id (dated date)) tree kept l.at l.at.item_title pages visits items l.indexed;
      }
