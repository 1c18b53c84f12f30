-- The rows in the slots that a header lists, as the code has them.
use Rattle.std.specs.Prelude.{◌≡◌, ℕ, List, ◌++◌}
use Rattle.std.specs.List.{AllZip, flat_map, zip}
use Rattle.pl_base.specs.declared.id.Slot.{Slot}
use Rattle.pl_base.specs.Store.{Item as TreeItem}
use Rattle.pl_load.specs.declared.held.LiveRows.{LiveRows}
use Rattle.pl_load.specs.Members.{parent_members}
use Rattle.pl_load.specs.Reads.{numbers}
use Rattle.pl_owned.specs.Owned.{IsListed}
use Rattle.pl_reading.specs.Live.{AreListed, HoldsItem, HoldsPlace, HoldsTotal, HoldsVisit}
use Rattle.pl_reading.specs.Read.{IsItemOf, IsPageRead, IsVisitRead}
use Rattle.pl_reading.specs.Texts.{row_texts, text_parts}
use Rattle.pl_sheets.specs.Sheets.{Pages}
use Rattle.pl_slot.specs.declared.links.Rail.TheVariants.{Children}
use Rattle.pl_slot.specs.Arena.{header_of}
use Rattle.pl_stored.specs.Stored.{Stored}

-- the header lists these slots, which hold these rows
pub record AreHeld (pages : Pages) (h : LiveRows) : Type 0 where
  pub listed : AreListed h.live.origins.items h.live.places.items h.live.visits.items
      h.live.items.items pages
  pub totals : AllZip (HoldsTotal pages) h.live.origins.items h.totals.items
  pub places : AllZip (HoldsPlace pages) h.live.places.items h.places.items
  pub visits : AllZip (HoldsVisit pages) h.live.visits.items h.visits.items
  pub items : AllZip (HoldsItem pages) h.live.items.items h.items.items

-- the slots of the rows and of their texts
abbrev pub held_slots : Pages → LiveRows → List ℕ
held_slots pages h =
    numbers h.live.origins.items ++ numbers h.live.places.items ++ numbers h.live.visits.items
    ++ numbers h.live.items.items
    ++ flat_map (text_parts pages) (row_texts h.places.items h.items.items)

-- the items of a file: each has the children that name it as their parent
pub record AreItemsFrom (pages : Pages) (h : LiveRows) (items : List TreeItem) : Type 0 where
  pub children : List (List Slot)
  pub parents : AllZip (IsListed Children (parent_members h.live.items.items h.items.items) pages)
      h.live.items.items children
  pub items_read : AllZip (IsItemOf pages) (zip h.items.items children) items

-- the rows of a file with their texts and ids
pub record AreStoredFrom (pages : Pages) (h : LiveRows) (stored : Stored) : Type 0 where
  pub day : stored.day ≡ (header_of pages).day
  pub ids : stored.ids ≡ (header_of pages).ids
  pub stored_pages : AllZip (IsPageRead pages) h.places.items stored.pages
  pub stored_visits : AllZip (IsVisitRead pages) h.visits.items stored.visits
  pub tree : AreItemsFrom pages h stored.items
