-- What is known of rows in slots before the links of those are read.
use Rattle.std.specs.Prelude.{◌≡◌, length}
use Rattle.pl_load.specs.Reads.{Reads}
use Rattle.pl_reading.specs.Live.{AreListed}
use Rattle.pl_sheets.specs.Sheets.{Pages}

-- the header lists the slots
abbrev pub HasListed : Pages → Reads → Type 0
HasListed pages reads =
    AreListed reads.origins reads.place_slots reads.visit_slots reads.item_slots pages

-- each slot of a page, a visit or an item has a row
pub record HasRowEach (reads : Reads) : Type 0 where
  pub places : length reads.place_slots ≡ length reads.places
  pub visits : length reads.visit_slots ≡ length reads.visits
  pub items : length reads.item_slots ≡ length reads.items
