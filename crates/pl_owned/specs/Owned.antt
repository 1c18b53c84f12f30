-- Which slots name an owner, and the lists of owners that have them all.
use Rattle.std.specs.Prelude.{◌≡◌, ◌+◌, ◌*◌, ◌<◌, ◌==◌, ℕ, List, [], get_or, length, map}
use Rattle.std.specs.List.{filter}
use Rattle.std.specs.List.Sorted.{IsPermutation}
use Rattle.std.specs.Vec.{vec_items}
use Rattle.pl_base.specs.declared.id.Slot.{Slot}
use Rattle.pl_owned.specs.declared.owned.Member.{Member}
use Rattle.pl_owned.specs.declared.owned.Owned.{Owned}
use Rattle.pl_rail.specs.declared.owner.Owner.TheVariants.{At}
use Rattle.pl_rail.specs.Rails.{Lists}
use Rattle.pl_sheets.specs.Sheets.{Pages}
use Rattle.pl_slot.specs.declared.links.Rail.{Rail}

-- the slots that name this owner, in the order in which they come
abbrev pub owned_by : List Member → Slot → List Slot
owned_by members owner =
    map (λ (m : Member). m.slot) (filter (λ (m : Member). m.owner.0 == owner.0) members)

-- the records that are read of an owner whose list has these slots
abbrev pub reads : List Member → Slot → ℕ
reads members owner = 3 * length (owned_by members owner) + 2

-- the owner's links make this list, which has exactly the slots that name it, in any order
pub record IsListed (rail : Rail) (members : List Member) (pages : Pages) (owner : Slot)
    (slots : List Slot) : Type 0 where
  pub lists : Lists rail (At owner) slots pages
  pub same : IsPermutation slots (owned_by members owner)

-- ---- the lists of all owners

-- the lists, each at its owner's number
abbrev pub lists_in : Owned → List (List Slot)
lists_in owned = map vec_items owned.lists.items

-- that of an owner
abbrev pub list_at : Owned → ℕ → List Slot
list_at owned n = get_or (lists_in owned) n []

-- each owner below this number has the list of the slots that name it
pub record HasOwned (members : List Member) (count : ℕ) (owned : Owned) : Type 0 where
  pub long : length owned.lists.items ≡ count
  pub lists : (owner : Slot) → owner.0 < count → list_at owned owner.0 ≡ owned_by members owner
