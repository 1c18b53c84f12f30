-- The chains of rails: that links make this list of slots, for this owner.
use Rattle.std.specs.Prelude.{◌≡◌, ◌≢◌, ℕ, ◌==◌, Bool, true, false, not, List, [], ◌∷◌, ◌++◌}
use Rattle.std.specs.Prelude.{Option, Some, None, if◌then◌else◌}
use Rattle.std.specs.List.{list_all, list_any}
use Rattle.pl_base.specs.declared.id.Slot.{Slot}
use Rattle.pl_rail.specs.declared.owner.Owner.{Owner}
use Rattle.pl_rail.specs.declared.owner.Owner.TheVariants as owners
use Rattle.pl_rail.specs.declared.owner.Side.{Side}
use Rattle.pl_rail.specs.declared.owner.Side.TheVariants.{Before, Behind}
use Rattle.pl_sheets.specs.Sheets.{Pages, page_count}
use Rattle.pl_slot.specs.declared.kind.LiveKind.{LiveKind}
use Rattle.pl_slot.specs.declared.kind.LiveKind.TheVariants as live
use Rattle.pl_slot.specs.declared.kind.SlotKind.{SlotKind}
use Rattle.pl_slot.specs.declared.kind.SlotKind.TheVariants as kinds
use Rattle.pl_slot.specs.declared.links.Link.{Link}
use Rattle.pl_slot.specs.declared.links.Link.TheVariants.{First, Last, Next, Previous}
use Rattle.pl_slot.specs.declared.links.Rail.{Rail}
use Rattle.pl_slot.specs.declared.links.Rail.TheVariants.{Live, OriginPages, PageVisits, Targets}
use Rattle.pl_slot.specs.declared.links.Rail.TheVariants.{Children, References}
use Rattle.pl_slot.specs.Arena.{ChangesOnly, header_of, header_page, live_count, slot_page}
use Rattle.pl_slot.specs.Header.{Ends, Header, ends_of, with_ends, with_first, with_last}
use Rattle.pl_slot.specs.Links.{is_rail, kind_at, link_at, others_at}
use Rattle.pl_slot.specs.SlotKind.{slot_kind_number}

-- the number that names no slot
abbrev pub none : Slot
none = record { 0 = 0 }

-- ---- what links name

-- an owner's link to a side: from the first member on, or from the last one back
abbrev pub end_link : Side → Link
end_link Behind = First
end_link Before = Last

-- a member's
abbrev pub side_link : Side → Link
side_link Behind = Next
side_link Before = Previous

abbrev pub end_in : Side → Ends → Slot
end_in Behind ends = ends.first
end_in Before ends = ends.last

-- the first or the last slot that an owner names, if the rail has this owner
abbrev pub end_at : Side → Rail → Owner → Pages → Option Slot
end_at side rail (owners.At slot) pages = link_at rail (end_link side) slot.0 pages
end_at side Live (owners.Header kind) pages = Some (end_in side (ends_of kind (header_of pages)))
end_at side rail (owners.Header kind) pages = None

-- the header with another end of a kind's chain
abbrev pub with_end : Side → LiveKind → Slot → Header → Header
with_end Behind kind slot header = with_first kind slot header
with_end Before kind slot header = with_last kind slot header

-- the slot that one names at a side. The owner stands there as 0: behind it is the first member,
-- and it is behind the last
abbrev pub neighbour : Side → Rail → Owner → Pages → Slot → Option Slot
neighbour side rail owner pages slot =
    if slot.0 == 0 then end_at side rail owner pages else link_at rail (side_link side) slot.0 pages

-- ---- members

abbrev pub live_slots : LiveKind → SlotKind
live_slots live.Origin = kinds.Origin
live_slots live.Place = kinds.Place
live_slots live.Visit = kinds.Visit
live_slots live.Item = kinds.Item

-- what the members of a chain are
abbrev pub member_kind : Rail → Owner → Option SlotKind
member_kind Live (owners.Header kind) = Some (live_slots kind)
member_kind OriginPages (owners.At slot) = Some kinds.Place
member_kind PageVisits (owners.At slot) = Some kinds.Visit
member_kind Targets (owners.At slot) = Some kinds.Visit
member_kind Children (owners.At slot) = Some kinds.Item
member_kind References (owners.At slot) = Some kinds.Item
member_kind rail owner = None

abbrev pub is_kind : Option SlotKind → Option SlotKind → Bool
is_kind (Some kind) (Some wanted) = slot_kind_number kind == slot_kind_number wanted
is_kind kind wanted = false

-- the slot is of the kind of the owner's members
abbrev pub is_member : Rail → Owner → Pages → Slot → Bool
is_member rail owner pages slot = is_kind (kind_at slot.0 pages) (member_kind rail owner)

-- ---- lists

-- from a slot on along others, each names the one behind it, and is named by that
abbrev pub AreLinked : (Slot → Option Slot) → (Slot → Option Slot) → Slot → List Slot → Type 0
AreLinked behind before slot [] = Unit {0}
AreLinked behind before slot (next ∷ rest) =
    (behind slot ≡ Some next) × (before next ≡ Some slot) × AreLinked behind before next rest

-- the links make this list: from the owner along the members back to the owner
pub record Lists (rail : Rail) (owner : Owner) (slots : List Slot) (pages : Pages) : Type 0 where
  pub members : list_all (is_member rail owner pages) slots ≡ true
  pub linked : AreLinked (neighbour Behind rail owner pages) (neighbour Before rail owner pages)
      none (slots ++ none ∷ [])

-- the slot is a member, and stands between these two
pub record IsBetween (rail : Rail) (owner : Owner) (before slot behind : Slot) (pages : Pages)
    : Type 0 where
  pub member : is_member rail owner pages slot ≡ true
  pub back : neighbour Before rail owner pages slot ≡ Some before
  pub forth : neighbour Behind rail owner pages slot ≡ Some behind

-- one of the slots is this one
abbrev pub is_in : Slot → List Slot → Bool
is_in slot slots = list_any (λ (other : Slot). other.0 == slot.0) slots

-- none of the slots is among the others
abbrev pub are_apart : List Slot → List Slot → Bool
are_apart slots others = list_all (λ slot. not (is_in slot others)) slots

-- the first and the last of some slots
abbrev pub first_of : List Slot → Option Slot
first_of [] = None
first_of (slot ∷ slots) = Some slot

abbrev pub last_from : Slot → List Slot → Slot
last_from slot [] = slot
last_from slot (next ∷ slots) = last_from next slots

abbrev pub last_of : List Slot → Option Slot
last_of [] = None
last_of (slot ∷ slots) = Some (last_from slot slots)

-- the slot, unless it is 0
abbrev pub named : Slot → Option Slot
named slot = if slot.0 == 0 then None else Some slot

-- the slot, or 0
abbrev pub or_none : Option Slot → Slot
or_none None = none
or_none (Some slot) = slot

-- a list of the owner has an end of its front here
pub record HasPlace (rail : Rail) (owner : Owner) (after : Option Slot) (pages : Pages) : Type 0
  where
    pub front : List Slot
    pub back : List Slot
    pub lists : Lists rail owner (front ++ back) pages
    pub last : last_of front ≡ after

-- a list of the owner has this member
pub record HasMember (rail : Rail) (owner : Owner) (slot : Slot) (pages : Pages) : Type 0 where
  pub front : List Slot
  pub back : List Slot
  pub lists : Lists rail owner (front ++ slot ∷ back) pages

-- ---- what a change leaves

-- the page of a slot, that of the owner for 0
abbrev pub page_by : Owner → Slot → ℕ
page_by (owners.Header kind) slot = if slot.0 == 0 then header_page else slot_page slot.0
page_by (owners.At owner) slot = if slot.0 == 0 then slot_page owner.0 else slot_page slot.0

-- the header but for the ends of the owner's chain
abbrev pub KeepsHeader : Owner → Pages → Pages → Type 0
KeepsHeader (owners.Header kind) old new =
    header_of new ≡ with_ends kind (ends_of kind (header_of new)) (header_of old)
KeepsHeader (owners.At slot) old new = header_of new ≡ header_of old

-- all but the links of a rail is as it was: the kinds of slots and their other fields, the links of
-- other rails, and the header
pub record KeepsRest (rail : Rail) (owner : Owner) (old new : Pages) : Type 0 where
  pub kinds : (n : ℕ) → kind_at n new ≡ kind_at n old
  pub fields : (n : ℕ) → others_at rail n new ≡ others_at rail n old
  pub links : (r : Rail) (l : Link) (n : ℕ) → is_rail r rail ≡ false
      → link_at r l n new ≡ link_at r l n old
  pub ends : (r : Rail) (side : Side) (o : Owner) → is_rail r rail ≡ false
      → end_at side r o new ≡ end_at side r o old
  pub header : KeepsHeader owner old new
  pub count : live_count new ≡ live_count old
  pub as_many : page_count new ≡ page_count old

-- every chain of the other rails is as it was
abbrev pub KeepsRails : Rail → Pages → Pages → Type 0
KeepsRails rail old new =
    (r : Rail) (o : Owner) (slots : List Slot) → r ≢ rail → Lists r o slots old
    → Lists r o slots new

-- so is every chain of other owners that has no slot of this one
abbrev pub KeepsOwners : Rail → Owner → List Slot → Pages → Pages → Type 0
KeepsOwners rail owner slots old new =
    (o : Owner) (others : List Slot) → o ≢ owner → are_apart others slots ≡ true
    → Lists rail o others old → Lists rail o others new

-- every slot but this one and the members names the neighbours that it named
abbrev pub KeepsBeside : Rail → Slot → List Slot → Pages → Pages → Type 0
KeepsBeside rail slot slots old new =
    (side : Side) (other : Slot) → other ≢ slot → is_in other slots ≡ false
    → link_at rail (side_link side) other.0 new ≡ link_at rail (side_link side) other.0 old

-- the pages of a slot, of its neighbours or the owner, and no others have changed
abbrev pub ChangesAround : Owner → List Slot → Slot → List Slot → Pages → Pages → Type 0
ChangesAround owner front slot back old new =
    ChangesOnly
    (page_by owner (or_none (last_of front)) ∷ page_by owner slot
    ∷ page_by owner (or_none (first_of back)) ∷ [])
    old new

-- ---- steps of a change

-- a slot names another at a side. All else is as it was
pub record SetsSide (side : Side) (rail : Rail) (owner : Owner) (slot to : Slot) (old new : Pages)
    : Type 0 where
  pub here : neighbour side rail owner new slot ≡ Some to
  pub there : (n : Slot) → n ≢ slot
      → neighbour side rail owner new n ≡ neighbour side rail owner old n
  pub opposite : (other : Side) (n : Slot) → other ≢ side
      → neighbour other rail owner new n ≡ neighbour other rail owner old n
  pub elsewhere : (o : Owner) (other : Side) (n : Slot) → o ≢ owner → (n ≡ slot → n ≡ none)
      → neighbour other rail o new n ≡ neighbour other rail o old n
  pub rest : KeepsRest rail owner old new
  pub pages : ChangesOnly (page_by owner slot ∷ []) old new

-- two slots are neighbours. All else is as it was
pub record Joins (rail : Rail) (owner : Owner) (slot next : Slot) (old new : Pages) : Type 0 where
  pub forth : neighbour Behind rail owner new slot ≡ Some next
  pub back : neighbour Before rail owner new next ≡ Some slot
  pub behind : (n : Slot) → n ≢ slot
      → neighbour Behind rail owner new n ≡ neighbour Behind rail owner old n
  pub before : (n : Slot) → n ≢ next
      → neighbour Before rail owner new n ≡ neighbour Before rail owner old n
  pub elsewhere : (o : Owner) (side : Side) (n : Slot) → o ≢ owner → (n ≡ slot → n ≡ none)
      → (n ≡ next → n ≡ none) → neighbour side rail o new n ≡ neighbour side rail o old n
  pub rest : KeepsRest rail owner old new
  pub pages : ChangesOnly (page_by owner slot ∷ page_by owner next ∷ []) old new
