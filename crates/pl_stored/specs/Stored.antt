-- The rows of a store as a file has them.
use Rattle.std.specs.Prelude.{List, map}
use Rattle.pl_base.specs.declared.date.Day.{Day}
use Rattle.pl_base.specs.declared.id.Ids.{Ids}
use Rattle.pl_base.specs.declared.id.ItemId.{ItemId}
use Rattle.pl_base.specs.Good.{IsTitle}
use Rattle.pl_base.specs.Store.{Item, Page, Store, Visit}
use Rattle.pl_stored.specs.declared.stored.StoredVisit.{StoredVisit}
use Rattle.pl_stored.specs.declared.stored.StoredPage.{StoredPage}
use Rattle.pl_stored.specs.Fits.{AreListed, IsEight, IsFour, IsItemPage, IsSignedEight, IsSource}
use Rattle.pl_stored.specs.Fits.{IsUrl}

-- a page without its frecency
abbrev pub stored_page : StoredPage → Page
stored_page p = record { id = p.id; url = p.url; title = p.title; typed = p.typed }

-- a visit with its source
abbrev pub visit_of : StoredVisit → Visit
visit_of v =
    record {
      id = v.id;
      page = v.page;
      date = v.date;
      transition = v.transition;
      source = v.source;
    }

-- a page whose numbers fit, with a URL of the store and a title that is not too long
abbrev pub IsStoredPage : StoredPage → Type 0
IsStoredPage p = IsFour p.id.0 × IsSignedEight p.frecency × IsUrl p.url × IsTitle p.title

-- a visit whose numbers fit
abbrev pub IsStoredVisit : StoredVisit → Type 0
IsStoredVisit v = IsFour v.id.0 × IsFour v.page.0 × IsSource v.source × IsEight v.date.0

-- a child whose number fits
abbrev pub IsChild : ItemId → Type 0
IsChild id = IsFour id.0

-- an item whose numbers fit, with a title that is not too long
abbrev pub IsStoredItem : Item → Type 0
IsStoredItem i =
    IsFour i.id.0 × IsItemPage i.page × IsEight i.added.0 × IsEight i.modified.0 × IsTitle i.title
    × AreListed IsChild i.children

-- the rows of a file
pub record Stored : Type 0 where
  pub day : Day
  pub ids : Ids
  pub pages : List StoredPage
  pub visits : List StoredVisit
  pub items : List Item

-- the store of the rows
abbrev pub stored_store : Stored → Store
stored_store rows =
    record {
      day = rows.day;
      ids = rows.ids;
      pages = map stored_page rows.pages;
      visits = map visit_of rows.visits;
      items = rows.items;
    }

-- each of the next ids has 4 bytes
abbrev pub AreIdsFour : Ids → Type 0
AreIdsFour ids = IsFour ids.page × IsFour ids.visit × IsFour ids.item

-- rows whose numbers fit, with URLs of the store and titles that are not too long
pub record AreStored (rows : Stored) : Type 0 where
  pub day : IsFour rows.day.0
  pub ids : AreIdsFour rows.ids
  pub pages : AreListed IsStoredPage rows.pages
  pub visits : AreListed IsStoredVisit rows.visits
  pub items : AreListed IsStoredItem rows.items
