-- Rows that are read from slots in which numbers may name anything.
use Rattle.std.specs.Prelude.{◌≡◌, ℕ, List, length, map, Option, Some, None}
use Rattle.pl_base.specs.declared.id.Slot.{Slot}
use Rattle.pl_base.specs.Good.{IsTitle}
use Rattle.pl_base.specs.Store.{Item as TreeItem}
use Rattle.pl_stored.specs.declared.stored.StoredPage.{StoredPage}
use Rattle.pl_stored.specs.declared.stored.StoredVisit.{StoredVisit}
use Rattle.pl_stored.specs.Fits.{IsUrl}
use Rattle.pl_record.specs.declared.rows.Item.{Item}
use Rattle.pl_record.specs.declared.rows.Place.{Place}
use Rattle.pl_record.specs.declared.rows.TextAt.{TextAt}
use Rattle.pl_record.specs.declared.rows.Visit.{Visit}
use Rattle.pl_record.specs.Rows.{item_in, page_in, visit_in}
use Rattle.pl_rail.specs.Rails.{none}
use Rattle.pl_sheets.specs.Sheets.{Pages}
use Rattle.pl_text.specs.Chunks.{HoldsText}

-- ---- what numbers name

-- slot 0 names none, and any other slot what it holds
abbrev pub Names : {Id : Type 0} → (Slot → Option Id) → Slot → Option Id → Type 0
Names held slot None = slot ≡ none
Names held slot (Some id) = held slot ≡ Some id

-- this text is there
pub record IsText (pages : Pages) (at : TextAt) (text : List ℕ) : Type 0 where
  pub held : HoldsText at.slot text pages
  pub size : length text ≡ at.length

-- ---- rows

-- a page with its texts, of which one is a URL of the store and one a title
pub record IsPageRead (pages : Pages) (p : Place) (s : StoredPage) : Type 0 where
  pub id : s.id ≡ p.id
  pub typed : s.typed ≡ p.mark.typed
  pub frecency : s.frecency ≡ p.mark.frecency
  pub url : IsText pages p.url s.url
  pub title : IsText pages p.title s.title
  pub is_url : IsUrl s.url
  pub is_title : IsTitle s.title

-- a visit, with the ids of its page and of its source
pub record IsVisitRead (pages : Pages) (v : Visit) (s : StoredVisit) : Type 0 where
  pub id : s.id ≡ v.id
  pub page : page_in pages v.page ≡ Some s.page
  pub date : s.date ≡ v.date
  pub transition : s.transition ≡ v.transition
  pub source : Names (visit_in pages) v.source s.source

-- an item with its title, the id of its page, and those of its children
pub record IsItemRead (pages : Pages) (i : Item) (slots : List Slot) (s : TreeItem) : Type 0 where
  pub id : s.id ≡ i.id
  pub kind : s.kind ≡ i.kind
  pub title : IsText pages i.title s.title
  pub is_title : IsTitle s.title
  pub page : Names (page_in pages) i.page s.page
  pub added : s.added ≡ i.added
  pub modified : s.modified ≡ i.modified
  pub children : map (item_in pages) slots ≡ map Some s.children

-- the same of an item and the slots of its children
abbrev pub IsItemOf : Pages → Item × List Slot → TreeItem → Type 0
IsItemOf pages row s = IsItemRead pages row.0 row.1 s
