-- Numbers in rows that have to name an origin or an item.
use Rattle.std.specs.Prelude.{◌||◌, ◌≡◌, ◌==◌, Bool, true}
use Rattle.std.specs.List.{list_all}
use Rattle.pl_load.specs.Reads.{Reads}
use Rattle.pl_rail.specs.declared.owner.Owner.TheVariants.{Header}
use Rattle.pl_rail.specs.Rails.{is_member}
use Rattle.pl_record.specs.declared.rows.Item.{Item}
use Rattle.pl_record.specs.declared.rows.Place.{Place}
use Rattle.pl_sheets.specs.Sheets.{Pages}
use Rattle.pl_slot.specs.declared.kind.LiveKind.TheVariants as kinds
use Rattle.pl_slot.specs.declared.links.Rail.TheVariants.{Live}

-- the slot that a page names holds an origin
abbrev pub names_origin : Pages → Place → Bool
names_origin pages p = is_member Live (Header kinds.Origin) pages p.origin

-- an item names no parent, or a slot with an item
abbrev pub names_parent : Pages → Item → Bool
names_parent pages i = (i.parent.0 == 0) || is_member Live (Header kinds.Item) pages i.parent

-- all pages and items do so
pub record NameOwners (pages : Pages) (reads : Reads) : Type 0 where
  pub origins : list_all (names_origin pages) reads.places ≡ true
  pub parents : list_all (names_parent pages) reads.items ≡ true
