-- What is tested of rows that were read from a file of linked slots.
use Rattle.std.specs.Prelude.{◌≡◌, ◌+◌, ◌≤◌, length, map}
use Rattle.std.specs.List.{All, zip}
use Rattle.pl_accept.specs.declared.accepted.Accepted.{Accepted}
use Rattle.pl_base.specs.Live.{origin_count}
use Rattle.pl_base.specs.Store.{Item as TreeItem}
use Rattle.pl_load.specs.Chained.{HasLoneSlots, HasOwnLists, HasTargetLists}
use Rattle.pl_load.specs.Reads.{Reads}
use Rattle.pl_origins.specs.Names.{AreNamed, named}
use Rattle.pl_reading.specs.Texts.{row_texts, wanted}
use Rattle.pl_record.specs.declared.rows.Item.{Item}
use Rattle.pl_record.specs.declared.rows.Place.{Place}
use Rattle.pl_record.specs.declared.rows.Visit.{Visit}
use Rattle.pl_sheets.specs.Sheets.{Pages}
use Rattle.pl_slot.specs.Arena.{header_of, slot_count}
use Rattle.pl_stored.specs.declared.stored.StoredPage.{StoredPage}
use Rattle.pl_stored.specs.declared.stored.StoredVisit.{StoredVisit}

-- the slots that rows name as their owners are some that there are
pub record HasOwnersBelow (pages : Pages) (reads : Reads) : Type 0 where
  pub origins : All (λ (p : Place). p.origin.0 ≤ slot_count pages) reads.places
  pub visited : All (λ (v : Visit). v.page.0 ≤ slot_count pages) reads.visits
  pub sources : All (λ (v : Visit). v.source.0 ≤ slot_count pages) reads.visits
  pub referenced : All (λ (i : Item). i.page.0 ≤ slot_count pages) reads.items

-- origins are named and counted as the pages demand, and the header counts the live slots
pub record IsCounted (pages : Pages) (reads : Reads) : Type 0 where
  pub names : AreNamed
      (named reads.stored.pages (map (λ (p : Place). p.origin) reads.places))
  pub count : length reads.origins
      ≡ origin_count (map (λ (p : StoredPage). p.url) reads.stored.pages)
  pub live : (header_of pages).live
      ≡ length reads.origins + length reads.places + length reads.visits + length reads.items
      + wanted (row_texts reads.places reads.items)

-- the links make the lists that the rows demand, and the slots that are in none stand alone
pub record IsLinked (pages : Pages) (reads : Reads) : Type 0 where
  pub own : HasOwnLists pages reads
  pub targets : HasTargetLists pages reads
  pub lone : HasLoneSlots pages reads

-- each slot of a page, a visit or an item has a row with an id
pub record HasIdEach (reads : Reads) : Type 0 where
  pub pages : length reads.place_slots ≡ length reads.stored.pages
  pub visits : length reads.visit_slots ≡ length reads.stored.visits
  pub items : length reads.item_slots ≡ length reads.stored.items

-- the slots of rows are beside the numbers of their ids
pub record AreByIds (reads : Reads) (a : Accepted) : Type 0 where
  pub pages : a.pages.entries
      ≡ zip (map (λ (p : StoredPage). p.id.0) reads.stored.pages) reads.place_slots
  pub visits : a.visits.entries
      ≡ zip (map (λ (v : StoredVisit). v.id.0) reads.stored.visits) reads.visit_slots
  pub items : a.items.entries
      ≡ zip (map (λ (i : TreeItem). i.id.0) reads.stored.items) reads.item_slots
