-- The slots beside the ids that were read are those in which the rows stand.
use Rattle.std.proofs.Common.{◌≡◌, ◌∙◌, ℕ, List, ap, arith, map, sym}
use Rattle.std.proofs.lemmas.Slice.Zip.{AllZip-long, length-zip}
use Rattle.std.specs.List.{zip}
use Rattle.pl_accept.specs.declared.accepted.Accepted.{Accepted}
use Rattle.pl_accept.specs.Held.{AreByIds, HasIdEach}
use Rattle.pl_base.specs.declared.id.Slot.{Slot}
use Rattle.pl_base.specs.Good.{IsGood}
use Rattle.pl_base.specs.Rows.{Kept, KeptPage}
use Rattle.pl_base.specs.Store.{Item, Visit}
use Rattle.pl_base.proofs.ListLaws.{map-map}
use Rattle.pl_load.specs.Members.{parent_members}
use Rattle.pl_load.specs.Owners.{NameOwners}
use Rattle.pl_load.specs.Reads.{AreRead, AreReadFrom, Reads, stored_page, stored_visit}
use Rattle.pl_load.proofs.Layouts.{kept_of, layout_of}
use Rattle.pl_load.proofs.Lists.{zip_maps}
use Rattle.pl_load.proofs.ParentsTold.{rows_read}
use Rattle.pl_owned.specs.Owned.{IsListed}
use Rattle.pl_reading.specs.Live.{HoldsItem, HoldsPlace, HoldsVisit}
use Rattle.pl_reading.specs.Read.{IsItemOf, IsPageRead, IsVisitRead}
use Rattle.pl_record.specs.LinkedRows.{AreIndexed}
use Rattle.pl_record.specs.Records.{Layout}
use Rattle.pl_sheets.specs.Sheets.{Pages}
use Rattle.pl_slot.specs.declared.links.Rail.TheVariants.{Children}
use Rattle.pl_stored.specs.declared.stored.StoredPage.{StoredPage}
use Rattle.pl_stored.specs.declared.stored.StoredVisit.{StoredVisit}
use Rattle.pl_stored.specs.Stored.{Stored, stored_store}

-- each slot has a row with an id
pub ids_each : (pages : Pages) (reads : Reads) → AreReadFrom pages reads → HasIdEach reads
ids_each pages reads from =
    record {
      pages =
          sym
          (AllZip-long (IsPageRead pages) reads.places reads.stored.pages from.stored_pages
          ∙ AllZip-long (HoldsPlace pages) reads.place_slots reads.places from.places);
      visits =
          sym
          (AllZip-long (IsVisitRead pages) reads.visits reads.stored.visits from.stored_visits
          ∙ AllZip-long (HoldsVisit pages) reads.visit_slots reads.visits from.visits);
      items =
          omega (
            arith,
            AllZip-long (HoldsItem pages) reads.item_slots reads.items from.items,
            AllZip-long (IsListed Children (parent_members reads.item_slots reads.items) pages) reads.item_slots
                from.children from.parents,
            AllZip-long (IsItemOf pages) (zip reads.items from.children) reads.stored.items from.stored_items,
            length-zip reads.items from.children,
          );
    }

module _ (pages : Pages) (reads : Reads) (from : AreReadFrom pages reads)
    (good : IsGood (stored_store reads.stored)) (owners : NameOwners pages reads) (a : Accepted)
    (by : AreByIds reads a) where
  abbrev at : Layout
  at = layout_of pages reads

  abbrev kept : Kept
  kept = kept_of reads

  are : AreRead at kept reads
  are = rows_read pages reads from good owners

  page_ids : map (λ (p : StoredPage). p.id.0) reads.stored.pages ≡ map (λ (p : KeptPage). p.page.id.0) kept.pages
  page_ids =
      ap (λ (s : Stored). map (λ (p : StoredPage). p.id.0) s.pages) are.stored
      ∙ map-map (λ (p : StoredPage). p.id.0) stored_page kept.pages

  visit_ids : map (λ (v : StoredVisit). v.id.0) reads.stored.visits ≡ map (λ (v : Visit). v.id.0) kept.visits
  visit_ids =
      ap (λ (s : Stored). map (λ (v : StoredVisit). v.id.0) s.visits) are.stored
      ∙ map-map (λ (v : StoredVisit). v.id.0) stored_visit kept.visits

  pub indexed : AreIndexed at kept a.pages.entries a.visits.entries a.items.entries
  indexed =
      record {
        pages =
            by.pages ∙ ap (λ (ids : List ℕ). zip ids reads.place_slots) page_ids
            ∙ ap (λ (ss : List Slot). zip (map (λ (p : KeptPage). p.page.id.0) kept.pages) ss) are.place_slots
            ∙ zip_maps (λ (p : KeptPage). p.page.id.0) (λ (p : KeptPage). at.page p.page.id) kept.pages;
        visits =
            by.visits ∙ ap (λ (ids : List ℕ). zip ids reads.visit_slots) visit_ids
            ∙ ap (λ (ss : List Slot). zip (map (λ (v : Visit). v.id.0) kept.visits) ss) are.visit_slots
            ∙ zip_maps (λ (v : Visit). v.id.0) (λ (v : Visit). at.visit v.id) kept.visits;
        items =
            by.items
            ∙ ap (λ (ss : List Slot). zip (map (λ (i : Item). i.id.0) kept.items) ss)
            (are.item_slots ∙ map-map at.item (λ (i : Item). i.id) kept.items)
            ∙ zip_maps (λ (i : Item). i.id.0) (λ (i : Item). at.item i.id) kept.items;
      }
