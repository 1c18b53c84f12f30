-- The pages hold the rows that were read, with their texts, in slots of their own, and list them by
-- their kinds.
use Rattle.std.proofs.Common.{◌≡◌, ◌∙◌, ◌∷◌, ◌++◌, [], ℕ, List, ap, append_assoc, map, refl, subst, sym, true}
use Rattle.std.proofs.Common.{eqb}
use Rattle.std.proofs.lemmas.Grind.{flat_map-append}
use Rattle.std.proofs.lemmas.List.Elements.{All-from_recursion}
use Rattle.std.proofs.lemmas.List.Folds.{flat_map-map}
use Rattle.std.specs.List.{AllZip, IsDistinct, flat_map, zip}
use Rattle.pl_base.specs.declared.id.Slot.{Slot}
use Rattle.pl_base.specs.Good.{IsGood}
use Rattle.pl_base.specs.Rows.{Kept, KeptOrigin, KeptPage}
use Rattle.pl_base.specs.Store.{Item as TreeItem, Visit as StoreVisit}
use Rattle.pl_base.proofs.ListLaws.{map-map}
use Rattle.pl_load.specs.Reads.{AreRead, AreReadFrom, Reads, item_at, met_slots, numbers, place_at, visit_at}
use Rattle.pl_load.proofs.KeptRows.{are_read, item_title_own, items_read, parts_own}
use Rattle.pl_load.proofs.Layouts.{AreParents, HasParts, HasTitle, IsRead, kept_of, kept_page, layout_of}
use Rattle.pl_load.proofs.Zips.{all_made, flat_alike, seconds, zip_both, zip_read}
use Rattle.pl_reading.specs.Live.{HoldsItem, HoldsPlace, HoldsTotal, HoldsVisit}
use Rattle.pl_reading.specs.Read.{IsPageRead, IsText}
use Rattle.pl_reading.specs.Texts.{page_texts, row_texts, text_parts}
use Rattle.pl_reading.proofs.Parts.{parts_are}
use Rattle.pl_record.specs.declared.rows.Item.{Item}
use Rattle.pl_record.specs.declared.rows.Place.{Place}
use Rattle.pl_record.specs.declared.rows.TextAt.{TextAt}
use Rattle.pl_record.specs.Chains.{HasLive}
use Rattle.pl_record.specs.Records.{HoldsOnce, HoldsRow, HoldsRows, HoldsTexts, Layout, item_record, origin_record}
use Rattle.pl_record.specs.Records.{page_record, row_slots, text_slots, visit_record}
use Rattle.pl_rail.specs.declared.owner.Owner.TheVariants.{Header}
use Rattle.pl_rail.specs.Rails.{Lists}
use Rattle.pl_sheets.specs.Sheets.{Pages}
use Rattle.pl_slot.specs.declared.kind.LiveKind.TheVariants as kinds
use Rattle.pl_slot.specs.declared.links.Rail.TheVariants.{Live}
use Rattle.pl_slot.specs.Arena.{is_among}
use Rattle.pl_stored.specs.declared.stored.StoredPage.{StoredPage}
use Rattle.pl_stored.specs.Stored.{stored_store}
use Rattle.pl_text.specs.Chunks.{Hold}

-- ---- rows in any slots

module _ (at : Layout) (kept : Kept) (pages : Pages) (reads : Reads) (are : AreRead at kept reads)
    (from : AreReadFrom pages reads) where
  -- each row is held by its slot
  pub rows_held : HoldsRows at kept pages
  rows_held =
      record {
        origins =
            All-from_recursion (λ (o : KeptOrigin). HoldsRow (origin_record o) pages) kept.origins
            (zip_read (HoldsTotal pages) (λ (o : KeptOrigin). o.origin) (λ (o : KeptOrigin). o.total) kept.origins
            reads.origins reads.totals are.origins are.totals from.totals);
        places =
            All-from_recursion (λ (p : KeptPage). HoldsRow (page_record at p) pages) kept.pages
            (zip_read (HoldsPlace pages) (λ (p : KeptPage). at.page p.page.id) (place_at at) kept.pages
            reads.place_slots reads.places are.place_slots are.places from.places);
        visits =
            All-from_recursion (λ (v : StoreVisit). HoldsRow (visit_record at v) pages) kept.visits
            (zip_read (HoldsVisit pages) (λ (v : StoreVisit). at.visit v.id) (visit_at at) kept.visits
            reads.visit_slots reads.visits are.visit_slots are.visits from.visits);
        items =
            All-from_recursion (λ (i : TreeItem). HoldsRow (item_record at kept.items i) pages) kept.items
            (zip_read (HoldsItem pages) (λ (i : TreeItem). at.item i.id) (item_at at kept.items) kept.items
            reads.item_slots reads.items
            (are.item_slots ∙ map-map at.item (λ (i : TreeItem). i.id) kept.items) are.items from.items);
      }

  -- the header lists them
  pub live_listed : HasLive at kept pages
  live_listed =
      record {
        origins = subst (λ (ss : List Slot). Lists Live (Header kinds.Origin) ss pages) are.origins from.listed.origins;
        places =
            subst (λ (ss : List Slot). Lists Live (Header kinds.Place) ss pages) are.place_slots from.listed.places;
        visits =
            subst (λ (ss : List Slot). Lists Live (Header kinds.Visit) ss pages) are.visit_slots from.listed.visits;
        items = subst (λ (ss : List Slot). Lists Live (Header kinds.Item) ss pages) are.item_slots from.listed.items;
      }

  -- the slots of rows are those that were read
  pub rows_met : numbers reads.origins ++ numbers reads.place_slots ++ numbers reads.visit_slots
      ++ numbers reads.item_slots ≡ row_slots at kept
  rows_met =
      let origins : numbers reads.origins ≡ map (λ (o : KeptOrigin). o.origin.0) kept.origins =
      ap numbers are.origins ∙ map-map (λ (s : Slot). s.0) (λ (o : KeptOrigin). o.origin) kept.origins in
      let places : numbers reads.place_slots ≡ map (λ (p : KeptPage). (at.page p.page.id).0) kept.pages =
      ap numbers are.place_slots ∙ map-map (λ (s : Slot). s.0) (λ (p : KeptPage). at.page p.page.id) kept.pages in
      let visits : numbers reads.visit_slots ≡ map (λ (v : StoreVisit). (at.visit v.id).0) kept.visits =
      ap numbers are.visit_slots ∙ map-map (λ (s : Slot). s.0) (λ (v : StoreVisit). at.visit v.id) kept.visits in
      let items : numbers reads.item_slots ≡ map (λ (i : TreeItem). (at.item i.id).0) kept.items =
      ap numbers (are.item_slots ∙ map-map at.item (λ (i : TreeItem). i.id) kept.items)
      ∙ map-map (λ (s : Slot). s.0) (λ (i : TreeItem). at.item i.id) kept.items in
      λ i. origins i ++ places i ++ visits i ++ items i

-- ---- texts

-- a text that is there is held by the parts that its row names
text_held : (pages : Pages) (t : TextAt) (text ns : List ℕ) → IsText pages t text → ns ≡ text_parts pages t
    → Hold ns text pages
text_held pages t text ns is parts =
    subst (λ (ms : List ℕ). Hold ms text pages)
    (sym (parts ∙ parts_are is.held.slots text t pages is.held.held is.held.first is.size)) is.held.held

module _ (pages : Pages) (reads : Reads) (from : AreReadFrom pages reads)
    (good : IsGood (stored_store reads.stored)) where
  abbrev at : Layout
  at = layout_of pages reads

  abbrev kept : Kept
  kept = kept_of reads

  pub held_texts : HoldsTexts at kept pages
  held_texts =
      record {
        urls =
            All-from_recursion (λ (p : KeptPage). Hold (at.url p.page.id) p.page.url pages) kept.pages
            (all_made kept_page (λ (p : KeptPage). Hold (at.url p.page.id) p.page.url pages) reads.places
            reads.stored.pages
            (zip_both (IsPageRead pages) (HasParts pages reads)
            (λ (p : Place) (s : StoredPage). Hold (at.url s.id) s.url pages)
            reads.places reads.stored.pages
            (λ p s read parts. text_held pages p.url s.url (at.url s.id) read.url parts.0) from.stored_pages
            (parts_own pages reads from good)));
        titles =
            All-from_recursion (λ (p : KeptPage). Hold (at.title p.page.id) p.page.title pages) kept.pages
            (all_made kept_page (λ (p : KeptPage). Hold (at.title p.page.id) p.page.title pages) reads.places
            reads.stored.pages
            (zip_both (IsPageRead pages) (HasParts pages reads)
            (λ (p : Place) (s : StoredPage). Hold (at.title s.id) s.title pages)
            reads.places reads.stored.pages
            (λ p s read parts. text_held pages p.title s.title (at.title s.id) read.title parts.1) from.stored_pages
            (parts_own pages reads from good)));
        item_titles =
            All-from_recursion (λ (i : TreeItem). Hold (at.item_title i.id) i.title pages) kept.items
            (seconds (λ (i : Item) (s : TreeItem). Hold (at.item_title s.id) s.title pages)
            (λ (s : TreeItem). Hold (at.item_title s.id) s.title pages) reads.items reads.stored.items
            (λ i s held. held)
            (zip_both (IsRead pages) (HasTitle pages reads)
            (λ (i : Item) (s : TreeItem). Hold (at.item_title s.id) s.title pages)
            reads.items reads.stored.items
            (λ i s row parts. text_held pages i.title s.title (at.item_title s.id) row.1.title parts)
            (items_read pages reads from) (item_title_own pages reads from good)));
      }

  -- ---- each slot once

  -- the parts of the texts of pages
  page_parts_met : (ps : List Place) (ss : List StoredPage) → AllZip (HasParts pages reads) ps ss
      → flat_map (text_parts pages) (flat_map page_texts ps)
      ≡ flat_map (λ (p : KeptPage). at.url p.page.id ++ at.title p.page.id) (map kept_page (zip ps ss))
  page_parts_met [] [] all = refl
  page_parts_met [] (s ∷ ss) all = absurd all
  page_parts_met (p ∷ ps) [] all = absurd all
  page_parts_met (p ∷ ps) (s ∷ ss) all =
      let url : text_parts pages p.url ≡ at.url s.id = sym all.0.0 in
      let title : text_parts pages p.title ≡ at.title s.id = sym all.0.1 in
      let rest = page_parts_met ps ss all.1 in
      (λ i. url i ++ (title i ++ rest i))
      ∙ sym (append_assoc (at.url s.id) (at.title s.id)
      (flat_map (λ (q : KeptPage). at.url q.page.id ++ at.title q.page.id) (map kept_page (zip ps ss))))

  texts_met : flat_map (text_parts pages) (row_texts reads.places reads.items) ≡ text_slots at kept
  texts_met =
      let of_pages = page_parts_met reads.places reads.stored.pages (parts_own pages reads from good) in
      let of_items : flat_map (text_parts pages) (map (λ (i : Item). i.title) reads.items)
      ≡ flat_map (λ (i : TreeItem). at.item_title i.id) reads.stored.items =
      flat_map-map (text_parts pages) (λ (i : Item). i.title) reads.items
      ∙ flat_alike (λ (i : Item). text_parts pages i.title) (λ (s : TreeItem). at.item_title s.id) reads.items
      reads.stored.items (item_title_own pages reads from good) in
      flat_map-append (text_parts pages) (flat_map page_texts reads.places) (map (λ (i : Item). i.title) reads.items)
      ∙ (λ i. of_pages i ++ of_items i)

  module _ (parents : AreParents pages reads) where
    are : AreRead at kept reads
    are = are_read pages reads from good parents

    pub held_rows : HoldsRows at kept pages
    held_rows = rows_held at kept pages reads are from

    pub has_live : HasLive at kept pages
    has_live = live_listed at kept pages reads are from

    -- the slots that were met are those of the rows and their texts
    pub all_met : met_slots pages reads ≡ row_slots at kept ++ text_slots at kept
    all_met =
        let of_rows = rows_met at kept pages reads are from in
        λ i. of_rows i ++ texts_met i

    pub held_once : HoldsOnce at kept pages
    held_once =
        record {
          once = subst (IsDistinct eqb) all_met from.once;
          whole = λ n live. subst (λ (ns : List ℕ). is_among n ns ≡ true) all_met (from.whole n live);
        }
