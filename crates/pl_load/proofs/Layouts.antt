-- The rows of a store that were read, and the slots in which they stand.
use Rattle.std.proofs.Common.{◌≡◌, [], ℕ, List, map, subst}
use Rattle.std.specs.List.{zip}
use Rattle.std.specs.List.Sorted.{IsStrictlyIncreasing}
use Rattle.pl_base.specs.declared.id.ItemId.{ItemId}
use Rattle.pl_base.specs.declared.id.PageId.{PageId}
use Rattle.pl_base.specs.declared.id.Slot.{Slot}
use Rattle.pl_base.specs.declared.id.VisitId.{VisitId}
use Rattle.pl_base.specs.Good.{IsGood}
use Rattle.pl_base.specs.Rows.{Kept, KeptOrigin, KeptPage}
use Rattle.pl_base.specs.Store.{Item as TreeItem, Page, Visit as StoreVisit}
use Rattle.pl_base.specs.Tree.{parent_of}
use Rattle.pl_base.proofs.ListLaws.{map-map}
use Rattle.pl_base.proofs.LookUps.{Apart, apart_increasing}
use Rattle.pl_load.specs.Reads.{Reads}
use Rattle.pl_load.proofs.Zips.{beside}
use Rattle.pl_reading.specs.Read.{IsItemRead}
use Rattle.pl_reading.specs.Texts.{text_parts}
use Rattle.pl_record.specs.declared.rows.Item.{Item}
use Rattle.pl_record.specs.declared.rows.Place.{Place}
use Rattle.pl_record.specs.Records.{Layout, slot_or_none}
use Rattle.pl_rail.specs.Rails.{none}
use Rattle.pl_sheets.specs.Sheets.{Pages}
use Rattle.pl_stored.specs.declared.stored.StoredPage.{StoredPage}
use Rattle.pl_stored.specs.declared.stored.StoredVisit.{StoredVisit}
use Rattle.pl_stored.specs.Stored.{stored_page, stored_store, visit_of}

-- ---- the rows

-- a page as its slot has it, with its texts
abbrev pub kept_page : Place × StoredPage → KeptPage
kept_page row =
    record {
      page = stored_page row.1;
      origin = row.0.origin;
      frecency = row.0.mark.frecency;
      count = row.0.mark.count;
      hidden = row.0.mark.hidden;
    }

abbrev pub kept_origin : Slot × ℕ → KeptOrigin
kept_origin row = record { origin = row.0; total = row.1 }

abbrev pub kept_of : Reads → Kept
kept_of reads =
    record {
      day = reads.stored.day;
      ids = reads.stored.ids;
      pages = map kept_page (zip reads.places reads.stored.pages);
      origins = map kept_origin (zip reads.origins reads.totals);
      visits = map visit_of reads.stored.visits;
      items = reads.stored.items;
    }

-- ---- the slots

abbrev pub page_number : StoredPage → ℕ
page_number p = p.id.0

abbrev pub visit_number : StoredVisit → ℕ
visit_number v = v.id.0

abbrev pub item_number : TreeItem → ℕ
item_number i = i.id.0

abbrev pub itself : Slot → Slot
itself slot = slot

-- each row in the slot that was read beside its id, and each text in the parts that the row names
abbrev pub layout_of : Pages → Reads → Layout
layout_of pages reads =
    record {
      page = λ (id : PageId). beside page_number itself none reads.place_slots reads.stored.pages id.0;
      visit = λ (id : VisitId). beside visit_number itself none reads.visit_slots reads.stored.visits id.0;
      item = λ (id : ItemId). beside item_number itself none reads.item_slots reads.stored.items id.0;
      url =
          λ (id : PageId).
          beside page_number (λ (p : Place). text_parts pages p.url) [] reads.places reads.stored.pages id.0;
      title =
          λ (id : PageId).
          beside page_number (λ (p : Place). text_parts pages p.title) [] reads.places reads.stored.pages id.0;
      item_title =
          λ (id : ItemId).
          beside item_number (λ (i : Item). text_parts pages i.title) [] reads.items reads.stored.items id.0;
    }

-- ---- rows that were read, and their texts

-- the texts of a page are in the parts that its row names
abbrev pub HasParts : Pages → Reads → Place → StoredPage → Type 0
HasParts pages reads p s =
    ((layout_of pages reads).url s.id ≡ text_parts pages p.url)
    × ((layout_of pages reads).title s.id ≡ text_parts pages p.title)

-- the title of an item
abbrev pub HasTitle : Pages → Reads → Item → TreeItem → Type 0
HasTitle pages reads i s = (layout_of pages reads).item_title s.id ≡ text_parts pages i.title

-- an item is read, with the children that its list has
abbrev pub IsRead : Pages → Item → TreeItem → Type 0
IsRead pages i s = (slots : List Slot) × IsItemRead pages i slots s

-- the parents that rows name are those of the tree
abbrev pub AreParents : Pages → Reads → Type 0
AreParents pages reads =
    map (λ (i : Item). i.parent) reads.items
    ≡ map (λ (i : TreeItem). slot_or_none (layout_of pages reads).item (parent_of (kept_of reads).items i.id))
    (kept_of reads).items

-- ---- ids stand once

module _ (reads : Reads) (good : IsGood (stored_store reads.stored)) where
  pub pages_apart : Apart page_number reads.stored.pages
  pages_apart =
      apart_increasing page_number reads.stored.pages
      (subst IsStrictlyIncreasing (map-map (λ (p : Page). p.id.0) stored_page reads.stored.pages)
      good.page_ids.ascending)

  pub visits_apart : Apart visit_number reads.stored.visits
  visits_apart =
      apart_increasing visit_number reads.stored.visits
      (subst IsStrictlyIncreasing (map-map (λ (v : StoreVisit). v.id.0) visit_of reads.stored.visits)
      good.visit_ids.ascending)

  pub items_apart : Apart item_number reads.stored.items
  items_apart = apart_increasing item_number reads.stored.items good.item_ids.ascending
