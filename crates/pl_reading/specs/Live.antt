-- The slots of rows as the header lists them, and what they hold.
use Rattle.std.specs.Prelude.{◌≡◌, ℕ, List, Some}
use Rattle.pl_base.specs.declared.id.Slot.{Slot}
use Rattle.pl_record.specs.declared.rows.Item.{Item}
use Rattle.pl_record.specs.declared.rows.Place.{Place}
use Rattle.pl_record.specs.declared.rows.Visit.{Visit}
use Rattle.pl_record.specs.Rows.{item_row, origin_row, place_row, row_in, visit_row}
use Rattle.pl_rail.specs.declared.owner.Owner.TheVariants.{Header}
use Rattle.pl_rail.specs.Rails.{Lists}
use Rattle.pl_sheets.specs.Sheets.{Pages}
use Rattle.pl_slot.specs.declared.kind.LiveKind.TheVariants as kinds
use Rattle.pl_slot.specs.declared.links.Rail.TheVariants.{Live}

-- the header lists these slots of origins, of pages, of visits and of items
pub record AreListed (os ps vs is : List Slot) (pages : Pages) : Type 0 where
  pub origins : Lists Live (Header kinds.Origin) os pages
  pub places : Lists Live (Header kinds.Place) ps pages
  pub visits : Lists Live (Header kinds.Visit) vs pages
  pub items : Lists Live (Header kinds.Item) is pages

-- the slot holds an origin with this total, this page, this visit, this item
abbrev pub HoldsTotal : Pages → Slot → ℕ → Type 0
HoldsTotal pages slot total = row_in slot pages ≡ Some (origin_row total)

abbrev pub HoldsPlace : Pages → Slot → Place → Type 0
HoldsPlace pages slot p = row_in slot pages ≡ Some (place_row p)

abbrev pub HoldsVisit : Pages → Slot → Visit → Type 0
HoldsVisit pages slot v = row_in slot pages ≡ Some (visit_row v)

abbrev pub HoldsItem : Pages → Slot → Item → Type 0
HoldsItem pages slot i = row_in slot pages ≡ Some (item_row i)
