-- All chains of a store's slots as one map: which list each owner has in each rail.
use Rattle.std.specs.Prelude.{◌≡◌, ◌==◌, ◌&&◌, Bool, true, false, List, [], None, IsSome}
use Rattle.std.specs.Prelude.{if◌then◌else◌}
use Rattle.pl_base.specs.declared.id.Slot.{Slot}
use Rattle.pl_rail.specs.declared.owner.Owner.{Owner}
use Rattle.pl_rail.specs.declared.owner.Owner.TheVariants.{Header, At}
use Rattle.pl_rail.specs.declared.owner.Side.TheVariants.{Behind}
use Rattle.pl_rail.specs.Rails.{Lists, end_at, is_in}
use Rattle.pl_sheets.specs.Sheets.{Pages}
use Rattle.pl_slot.specs.declared.kind.LiveKind.TheVariants as kinds
use Rattle.pl_slot.specs.declared.links.Rail.{Rail}
use Rattle.pl_slot.specs.Links.{is_rail}

-- the list of each owner in each rail; those without a chain have an empty one
abbrev pub ChainMap : Type 0
ChainMap = Rail → Owner → List Slot

-- the owners are the same
abbrev pub is_owner : Owner → Owner → Bool
is_owner (At slot) (At other) = slot.0 == other.0
is_owner (Header kinds.Origin) (Header kinds.Origin) = true
is_owner (Header kinds.Place) (Header kinds.Place) = true
is_owner (Header kinds.Visit) (Header kinds.Visit) = true
is_owner (Header kinds.Item) (Header kinds.Item) = true
is_owner owner other = false

-- the chains, of which this owner has this list in this rail
abbrev pub with_chain : Rail → Owner → List Slot → ChainMap → ChainMap
with_chain rail owner slots chains r o =
    if is_rail r rail && is_owner o owner then slots else chains r o

-- these are the chains of the slots: the links of each owner make its list
pub record AreChains (chains : ChainMap) (pages : Pages) : Type 0 where
  pub lists : (rail : Rail) (owner : Owner) → IsSome (end_at Behind rail owner pages)
      → Lists rail owner (chains rail owner) pages
  pub none : (rail : Rail) (owner : Owner) → end_at Behind rail owner pages ≡ None
      → chains rail owner ≡ []

-- no slot is in two chains of a rail
abbrev pub AreApart : Rail → ChainMap → Type 0
AreApart rail chains =
    (owner other : Owner) (slot : Slot) → is_in slot (chains rail owner) ≡ true
    → is_in slot (chains rail other) ≡ true → owner ≡ other

-- a slot is in no chain of a rail
abbrev pub IsLoose : Rail → Slot → ChainMap → Type 0
IsLoose rail slot chains = (owner : Owner) → is_in slot (chains rail owner) ≡ false
