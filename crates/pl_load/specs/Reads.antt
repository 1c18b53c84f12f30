-- The rows of a file as they are read, and the rows of a store that they are.
use Rattle.std.proofs.Common.{eqb}
use Rattle.std.specs.Prelude.{◌≡◌, ℕ, true, List, ◌++◌, length, map}
use Rattle.std.specs.List.{All, AllZip, IsDistinct, flat_map, zip}
use Rattle.pl_base.specs.declared.id.Slot.{Slot}
use Rattle.pl_base.specs.Rows.{Kept, KeptOrigin, KeptPage, mark_of}
use Rattle.pl_base.specs.Store.{Item as TreeItem, Visit as StoreVisit}
use Rattle.pl_base.specs.Tree.{parent_of}
use Rattle.pl_load.specs.Members.{parent_members}
use Rattle.pl_owned.specs.Owned.{IsListed}
use Rattle.pl_reading.specs.Live.{AreListed, HoldsItem, HoldsPlace, HoldsTotal, HoldsVisit}
use Rattle.pl_reading.specs.Read.{IsItemOf, IsPageRead, IsVisitRead}
use Rattle.pl_reading.specs.Texts.{IsHeld, row_texts, text_parts}
use Rattle.pl_record.specs.declared.rows.Item.{Item}
use Rattle.pl_record.specs.declared.rows.Place.{Place}
use Rattle.pl_record.specs.declared.rows.TextAt.{TextAt}
use Rattle.pl_record.specs.declared.rows.Visit.{Visit}
use Rattle.pl_record.specs.Chains.{item_slots, page_slots, visit_slots}
use Rattle.pl_record.specs.Records.{Layout, slot_or_none}
use Rattle.pl_sheets.specs.Sheets.{Pages}
use Rattle.pl_slot.specs.declared.links.Rail.TheVariants.{Children}
use Rattle.pl_slot.specs.Arena.{first_in, header_of, is_among, is_live}
use Rattle.pl_stored.specs.declared.stored.StoredPage.{StoredPage}
use Rattle.pl_stored.specs.declared.stored.StoredVisit.{StoredVisit}
use Rattle.pl_stored.specs.Stored.{Stored}

-- the slots that the header lists of each kind, what they hold, and the rows with their texts and
-- ids
pub record Reads : Type 0 where
  pub origins : List Slot
  pub totals : List ℕ
  pub place_slots : List Slot
  pub places : List Place
  pub visit_slots : List Slot
  pub visits : List Visit
  pub item_slots : List Slot
  pub items : List Item
  pub stored : Stored

-- the slots of all that was read: those of rows, and those of texts
abbrev pub numbers : List Slot → List ℕ
numbers slots = map (λ (s : Slot). s.0) slots

abbrev pub met_slots : Pages → Reads → List ℕ
met_slots pages reads =
    numbers reads.origins ++ numbers reads.place_slots ++ numbers reads.visit_slots
    ++ numbers reads.item_slots
    ++ flat_map (text_parts pages) (row_texts reads.places reads.items)

-- it was read from these pages: the header lists the slots, which hold the rows, their texts are
-- there, no slot is met twice and no live one is not met; numbers name pages, visits and items,
-- texts are URLs of the store and titles, and each item has the children that name it
pub record AreReadFrom (pages : Pages) (reads : Reads) : Type 0 where
  pub listed : AreListed reads.origins reads.place_slots reads.visit_slots reads.item_slots pages
  pub totals : AllZip (HoldsTotal pages) reads.origins reads.totals
  pub places : AllZip (HoldsPlace pages) reads.place_slots reads.places
  pub visits : AllZip (HoldsVisit pages) reads.visit_slots reads.visits
  pub items : AllZip (HoldsItem pages) reads.item_slots reads.items
  pub texts : All (IsHeld pages) (row_texts reads.places reads.items)
  pub once : IsDistinct eqb (met_slots pages reads)
  pub whole : (n : ℕ) → is_live n pages ≡ true → is_among n (met_slots pages reads) ≡ true
  pub day : reads.stored.day ≡ (header_of pages).day
  pub ids : reads.stored.ids ≡ (header_of pages).ids
  pub stored_pages : AllZip (IsPageRead pages) reads.places reads.stored.pages
  pub stored_visits : AllZip (IsVisitRead pages) reads.visits reads.stored.visits
  pub children : List (List Slot)
  pub parents : AllZip (IsListed Children (parent_members reads.item_slots reads.items) pages)
      reads.item_slots children
  pub stored_items : AllZip (IsItemOf pages) (zip reads.items children) reads.stored.items

-- ---- rows of a store in the slots of a layout

abbrev pub text_at : List ℕ → List ℕ → TextAt
text_at slots text = record { slot = first_in slots; length = length text }

abbrev pub place_at : Layout → KeptPage → Place
place_at at p =
    record {
      id = p.page.id;
      mark = mark_of p;
      origin = p.origin;
      url = text_at (at.url p.page.id) p.page.url;
      title = text_at (at.title p.page.id) p.page.title;
    }

abbrev pub visit_at : Layout → StoreVisit → Visit
visit_at at v =
    record {
      id = v.id;
      transition = v.transition;
      page = at.page v.page;
      source = slot_or_none at.visit v.source;
      date = v.date;
    }

abbrev pub item_at : Layout → List TreeItem → TreeItem → Item
item_at at items i =
    record {
      id = i.id;
      kind = i.kind;
      parent = slot_or_none at.item (parent_of items i.id);
      page = slot_or_none at.page i.page;
      title = text_at (at.item_title i.id) i.title;
      added = i.added;
      modified = i.modified;
    }

-- ---- rows of a store as a file has them

abbrev pub stored_page : KeptPage → StoredPage
stored_page p =
    record {
      id = p.page.id;
      typed = p.page.typed;
      frecency = p.frecency;
      url = p.page.url;
      title = p.page.title;
    }

abbrev pub stored_visit : StoreVisit → StoredVisit
stored_visit v =
    record {
      id = v.id;
      page = v.page;
      date = v.date;
      transition = v.transition;
      source = v.source;
    }

abbrev pub stored_rows : Kept → Stored
stored_rows kept =
    record {
      day = kept.day;
      ids = kept.ids;
      pages = map stored_page kept.pages;
      visits = map stored_visit kept.visits;
      items = kept.items;
    }

-- ---- both

-- what was read are these rows in these slots
pub record AreRead (at : Layout) (kept : Kept) (reads : Reads) : Type 0 where
  pub origins : reads.origins ≡ map (λ (o : KeptOrigin). o.origin) kept.origins
  pub totals : reads.totals ≡ map (λ (o : KeptOrigin). o.total) kept.origins
  pub place_slots : reads.place_slots ≡ page_slots at kept.pages
  pub places : reads.places ≡ map (place_at at) kept.pages
  pub visit_slots : reads.visit_slots ≡ visit_slots at kept.visits
  pub visits : reads.visits ≡ map (visit_at at) kept.visits
  pub item_slots : reads.item_slots ≡ item_slots at (map (λ (i : TreeItem). i.id) kept.items)
  pub items : reads.items ≡ map (item_at at kept.items) kept.items
  pub stored : reads.stored ≡ stored_rows kept
