-- What the slots of a store hold: a row for each origin, page, visit and item, but for the links of
-- their chains, and the parts of its texts.
use Rattle.std.specs.Prelude.{◌≡◌, ℕ, true, List, ◌++◌, length, map, Option, Some, None}
use Rattle.std.proofs.Common.{eqb}
use Rattle.std.specs.List.{All, IsDistinct, flat_map}
use Rattle.std.specs.Option.{option_map}
use Rattle.pl_base.specs.declared.id.ItemId.{ItemId}
use Rattle.pl_base.specs.declared.id.PageId.{PageId}
use Rattle.pl_base.specs.declared.id.Slot.{Slot}
use Rattle.pl_base.specs.declared.id.VisitId.{VisitId}
use Rattle.pl_base.specs.Rows.{Kept, KeptOrigin, KeptPage}
use Rattle.pl_base.specs.Store.{Item, Visit}
use Rattle.pl_base.specs.Tree.{parent_of}
use Rattle.pl_sheets.specs.Sheets.{Pages}
use Rattle.pl_slot.specs.declared.row.SlotRow.{SlotRow}
use Rattle.pl_slot.specs.declared.row.SlotRow.TheVariants as rows
use Rattle.pl_slot.specs.Arena.{first_in, is_among, is_live, row_at}
use Rattle.pl_text.specs.Chunks.{Hold}
use Rattle.pl_rail.specs.Rails.{none}

-- ---- where rows stand

-- the slots of pages, visits and items by their ids, and those of each text, in the order of its
-- parts. An origin is named by its slot
pub record Layout : Type 0 where
  pub page : PageId → Slot
  pub visit : VisitId → Slot
  pub item : ItemId → Slot
  pub url : PageId → List ℕ
  pub title : PageId → List ℕ
  pub item_title : ItemId → List ℕ

-- the slot of what an id names, 0 where there is none
abbrev pub slot_or_none : {Id : Type 0} → (Id → Slot) → Option Id → Slot
slot_or_none slot_of None = none
slot_or_none slot_of (Some id) = slot_of id

-- ---- rows

-- a row where it stands in no chain and owns none
abbrev pub unlinked : SlotRow → SlotRow
unlinked (rows.Free next) = rows.Free next
unlinked (rows.Origin live_previous live_next first_page last_page total) =
    rows.Origin none none none none total
unlinked
    (rows.Place typed hidden live_previous live_next id origin origin_previous origin_next
    first_visit last_visit first_reference last_reference url_text url_length title_text
    title_length frecency count) =
    rows.Place typed hidden none none id origin none none none none none none url_text url_length
    title_text title_length frecency count
unlinked
    (rows.Visit transition live_previous live_next id page page_previous page_next source
    target_previous target_next first_target last_target date) =
    rows.Visit transition none none id page none none source none none none none date
unlinked
    (rows.Item kind live_previous live_next id parent sibling_previous sibling_next first_child
    last_child page reference_previous reference_next title_text title_length added modified) =
    rows.Item kind none none id parent none none none none page none none title_text title_length
    added modified
unlinked (rows.Text used next payload) = rows.Text used next payload

-- a slot, and the row that stands there but for its links
pub record Record : Type 0 where
  pub slot : Slot
  pub row : SlotRow

-- the slot of a record holds its row, with links that may be any
abbrev pub HoldsRow : Record → Pages → Type 0
HoldsRow r pages = option_map unlinked (row_at r.slot.0 pages) ≡ Some r.row

abbrev pub origin_record : KeptOrigin → Record
origin_record o =
    record { slot = o.origin; row = rows.Origin none none none none o.total }

abbrev pub page_record : Layout → KeptPage → Record
page_record at p =
    record {
      slot = at.page p.page.id;
      row = rows.Place p.page.typed p.hidden none none p.page.id p.origin none none none none none
          none (first_in (at.url p.page.id)) (length p.page.url) (first_in (at.title p.page.id))
          (length p.page.title) p.frecency p.count;
    }

abbrev pub visit_record : Layout → Visit → Record
visit_record at v =
    record {
      slot = at.visit v.id;
      row = rows.Visit v.transition none none v.id (at.page v.page) none none
          (slot_or_none at.visit v.source) none none none none v.date;
    }

-- an item names its parent too, of which it is a child
abbrev pub item_record : Layout → List Item → Item → Record
item_record at items i =
    record {
      slot = at.item i.id;
      row = rows.Item i.kind none none i.id (slot_or_none at.item (parent_of items i.id)) none none
          none none (slot_or_none at.page i.page) none none (first_in (at.item_title i.id))
          (length i.title) i.added i.modified;
    }

-- each row of the store stands in its slot
pub record HoldsRows (at : Layout) (kept : Kept) (pages : Pages) : Type 0 where
  pub origins : All (λ (o : KeptOrigin). HoldsRow (origin_record o) pages) kept.origins
  pub places : All (λ (p : KeptPage). HoldsRow (page_record at p) pages) kept.pages
  pub visits : All (λ (v : Visit). HoldsRow (visit_record at v) pages) kept.visits
  pub items : All (λ (i : Item). HoldsRow (item_record at kept.items i) pages) kept.items

-- ---- texts

-- each text of the store is held by its slots
pub record HoldsTexts (at : Layout) (kept : Kept) (pages : Pages) : Type 0 where
  pub urls : All (λ (p : KeptPage). Hold (at.url p.page.id) p.page.url pages) kept.pages
  pub titles : All (λ (p : KeptPage). Hold (at.title p.page.id) p.page.title pages) kept.pages
  pub item_titles : All (λ (i : Item). Hold (at.item_title i.id) i.title pages) kept.items

-- ---- all of them

-- the slots of rows, and those of texts
abbrev pub row_slots : Layout → Kept → List ℕ
row_slots at kept =
    map (λ (o : KeptOrigin). o.origin.0) kept.origins
    ++ map (λ (p : KeptPage). (at.page p.page.id).0) kept.pages
    ++ map (λ (v : Visit). (at.visit v.id).0) kept.visits
    ++ map (λ (i : Item). (at.item i.id).0) kept.items

abbrev pub text_slots : Layout → Kept → List ℕ
text_slots at kept =
    flat_map (λ (p : KeptPage). at.url p.page.id ++ at.title p.page.id) kept.pages
    ++ flat_map (λ (i : Item). at.item_title i.id) kept.items

-- each live slot holds a row or a part of a text, and none holds two
pub record HoldsOnce (at : Layout) (kept : Kept) (pages : Pages) : Type 0 where
  pub once : IsDistinct eqb (row_slots at kept ++ text_slots at kept)
  pub whole : (n : ℕ) → is_live n pages ≡ true
      → is_among n (row_slots at kept ++ text_slots at kept) ≡ true
