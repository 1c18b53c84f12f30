-- What rows say beside their links, as the code has it.
use Rattle.std.specs.Prelude.{◌≡◌, ◌==◌, ℕ, [], ◌∷◌, Option, Some, None, if◌then◌else◌}
use Rattle.std.specs.Option.{option_and_then, option_map}
use Rattle.pl_base.specs.declared.date.Micros.{Micros}
use Rattle.pl_base.specs.declared.id.ItemId.{ItemId}
use Rattle.pl_base.specs.declared.id.PageId.{PageId}
use Rattle.pl_base.specs.declared.id.Slot.{Slot}
use Rattle.pl_base.specs.declared.id.VisitId.{VisitId}
use Rattle.pl_base.specs.declared.row.Mark.{Mark}
use Rattle.pl_record.specs.declared.rows.Item.{Item}
use Rattle.pl_record.specs.declared.rows.Place.{Place}
use Rattle.pl_record.specs.declared.rows.TextAt.{TextAt}
use Rattle.pl_record.specs.declared.rows.Visit.{Visit}
use Rattle.pl_record.specs.Records.{unlinked}
use Rattle.pl_rail.specs.Rails.{none}
use Rattle.pl_sheets.specs.Sheets.{Pages}
use Rattle.pl_slot.specs.declared.links.Link.{Link}
use Rattle.pl_slot.specs.declared.links.Rail.{Rail}
use Rattle.pl_slot.specs.declared.row.SlotRow.{SlotRow}
use Rattle.pl_slot.specs.declared.row.SlotRow.TheVariants as rows
use Rattle.pl_slot.specs.Arena.{ChangesOnly, IsArena, header_of, live_at, live_count, row_at}
use Rattle.pl_slot.specs.Arena.{slot_page}
use Rattle.pl_slot.specs.Links.{kind_at, link_at}

-- the row of a slot but for its links
abbrev pub row_in : Slot → Pages → Option SlotRow
row_in slot pages = option_map unlinked (row_at slot.0 pages)

-- the row of a live slot but for its links
abbrev pub record_at : ℕ → Pages → Option SlotRow
record_at n pages = option_map unlinked (live_at n pages)

abbrev pub place_row : Place → SlotRow
place_row p =
    rows.Place p.mark.typed p.mark.hidden none none p.id p.origin none none none none none none
    p.url.slot p.url.length p.title.slot p.title.length p.mark.frecency p.mark.count

abbrev pub visit_row : Visit → SlotRow
visit_row v =
    rows.Visit v.transition none none v.id v.page none none v.source none none none none v.date

abbrev pub item_row : Item → SlotRow
item_row i =
    rows.Item i.kind none none i.id i.parent none none none none i.page none none i.title.slot
    i.title.length i.added i.modified

-- the row of an origin with this total
abbrev pub origin_row : ℕ → SlotRow
origin_row total = rows.Origin none none none none total

-- ---- rows that are written

-- the row of a page with another mark or title, that of a visit with another source, that of an
-- item with another parent, title or modified date, and that of an origin with another total
abbrev pub with_mark : Mark → SlotRow → SlotRow
with_mark mark
    (rows.Place typed hidden live_previous live_next id origin origin_previous origin_next
    first_visit last_visit first_reference last_reference url_text url_length title_text
    title_length frecency count) =
    rows.Place mark.typed mark.hidden live_previous live_next id origin origin_previous origin_next
    first_visit last_visit first_reference last_reference url_text url_length title_text
    title_length mark.frecency mark.count
with_mark mark row = row

abbrev pub with_title : TextAt → SlotRow → SlotRow
with_title text
    (rows.Place typed hidden live_previous live_next id origin origin_previous origin_next
    first_visit last_visit first_reference last_reference url_text url_length title_text
    title_length frecency count) =
    rows.Place typed hidden live_previous live_next id origin origin_previous origin_next
    first_visit last_visit first_reference last_reference url_text url_length text.slot
    text.length frecency count
with_title text row = row

abbrev pub with_source : Slot → SlotRow → SlotRow
with_source source
    (rows.Visit transition live_previous live_next id page page_previous page_next old
    target_previous target_next first_target last_target date) =
    rows.Visit transition live_previous live_next id page page_previous page_next source
    target_previous target_next first_target last_target date
with_source source row = row

abbrev pub with_parent : Slot → SlotRow → SlotRow
with_parent new
    (rows.Item kind live_previous live_next id parent sibling_previous sibling_next first_child
    last_child page reference_previous reference_next title_text title_length added modified) =
    rows.Item kind live_previous live_next id new sibling_previous sibling_next first_child
    last_child page reference_previous reference_next title_text title_length added modified
with_parent new row = row

abbrev pub with_item_title : TextAt → SlotRow → SlotRow
with_item_title text
    (rows.Item kind live_previous live_next id parent sibling_previous sibling_next first_child
    last_child page reference_previous reference_next title_text title_length added modified) =
    rows.Item kind live_previous live_next id parent sibling_previous sibling_next first_child
    last_child page reference_previous reference_next text.slot text.length added modified
with_item_title text row = row

abbrev pub with_modified : Micros → SlotRow → SlotRow
with_modified date
    (rows.Item kind live_previous live_next id parent sibling_previous sibling_next first_child
    last_child page reference_previous reference_next title_text title_length added modified) =
    rows.Item kind live_previous live_next id parent sibling_previous sibling_next first_child
    last_child page reference_previous reference_next title_text title_length added date
with_modified date row = row

abbrev pub with_total : ℕ → SlotRow → SlotRow
with_total total (rows.Origin live_previous live_next first_page last_page old) =
    rows.Origin live_previous live_next first_page last_page total
with_total total row = row

-- a slot holds the row that was made of its own, with the links that it had. All else is as it was
pub record SetsRow (slot : Slot) (change : SlotRow → SlotRow) (old new : Pages) : Type 0 where
  pub rows : (n : ℕ) → row_at n new
      ≡ (if n == slot.0 then option_map change (row_at n old) else row_at n old)
  pub kinds : (n : ℕ) → kind_at n new ≡ kind_at n old
  pub links : (rail : Rail) (link : Link) (n : ℕ) → link_at rail link n new
      ≡ link_at rail link n old
  pub header : header_of new ≡ header_of old
  pub count : live_count new ≡ live_count old
  pub pages : ChangesOnly (slot_page slot.0 ∷ []) old new
  pub arena : IsArena new

-- ---- the ids of rows

abbrev pub page_id : SlotRow → Option PageId
page_id
    (rows.Place typed hidden live_previous live_next id origin origin_previous origin_next
    first_visit last_visit first_reference last_reference url_text url_length title_text
    title_length frecency count) =
    Some id
page_id row = None

abbrev pub visit_id : SlotRow → Option VisitId
visit_id
    (rows.Visit transition live_previous live_next id page page_previous page_next source
    target_previous target_next first_target last_target date) =
    Some id
visit_id row = None

abbrev pub item_id : SlotRow → Option ItemId
item_id
    (rows.Item kind live_previous live_next id parent sibling_previous sibling_next first_child
    last_child page reference_previous reference_next title_text title_length added modified) =
    Some id
item_id row = None

-- the id of the page, the visit or the item in a slot
abbrev pub page_in : Pages → Slot → Option PageId
page_in pages slot = option_and_then page_id (row_in slot pages)

abbrev pub visit_in : Pages → Slot → Option VisitId
visit_in pages slot = option_and_then visit_id (row_in slot pages)

abbrev pub item_in : Pages → Slot → Option ItemId
item_in pages slot = option_and_then item_id (row_in slot pages)
