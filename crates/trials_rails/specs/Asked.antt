-- What `insert_after` takes for granted.
use Rattle.std.specs.Prelude.{◌≡◌, ◌++◌, List, Option, true, false}
use Rattle.pl_base.specs.declared.id.Slot.{Slot}
use Rattle.pl_rail.specs.declared.owner.Owner.{Owner}
use Rattle.pl_rail.specs.Rails.{Lists, is_in, is_member, last_of}
use Rattle.pl_sheets.specs.Sheets.{Pages}
use Rattle.pl_slot.specs.declared.links.Rail.{Rail}

-- some of the slots, from the first on, end there
pub record HasFront (after : Option Slot) (slots : List Slot) : Type 0 where
  pub front : List Slot
  pub back : List Slot
  pub whole : front ++ back ≡ slots
  pub last : last_of front ≡ after

-- the slot may be a member, and is in no chain of the rail
pub record MayCome (rail : Rail) (owner : Owner) (slot : Slot) (pages : Pages) : Type 0 where
  pub member : is_member rail owner pages slot ≡ true
  pub free : (o : Owner) (slots : List Slot) → Lists rail o slots pages → is_in slot slots ≡ false
