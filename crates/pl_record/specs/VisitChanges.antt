-- What the slots of a visit that comes or goes leave of the records, the chains and the header.
use Rattle.std.specs.Prelude.{◌≡◌, ◌≢◌, ℕ, ◌+◌, ◌≤◌, ◌==◌, Bool, true, false, List, [], ◌∷◌, ◌++◌}
use Rattle.std.specs.Prelude.{length, nat_lt, not, Option, Some, None, if◌then◌else◌}
use Rattle.std.specs.List.{filter}
use Rattle.std.specs.Option.{option_and_then, option_map}
use Rattle.pl_base.specs.declared.date.Micros.{Micros}
use Rattle.pl_base.specs.declared.id.Slot.{Slot}
use Rattle.pl_base.specs.declared.id.VisitId.{VisitId}
use Rattle.pl_base.specs.declared.row.VisitRow.{VisitRow}
use Rattle.pl_base.specs.declared.transition.Transition.{Transition}
use Rattle.pl_base.specs.Redirects.{is_redirect}
use Rattle.pl_record.specs.ChainMap.{AreApart, AreChains, ChainMap, IsLoose, with_chain}
use Rattle.pl_record.specs.Chains.{IsAlone}
use Rattle.pl_record.specs.declared.rows.Visit.{Visit}
use Rattle.pl_record.specs.LinkedRows.{Entries, slot_at}
use Rattle.pl_record.specs.Rows.{record_at, row_in, visit_row, with_source}
use Rattle.pl_record.specs.SlotChanges.{KeepsBody}
use Rattle.pl_rail.specs.declared.owner.Owner.{Owner}
use Rattle.pl_rail.specs.declared.owner.Owner.TheVariants.{At, Header}
use Rattle.pl_rail.specs.Rails.{ChangesAround, HasMember, KeepsBeside, KeepsOwners, KeepsRails}
use Rattle.pl_rail.specs.Rails.{KeepsRest, Lists, is_in, last_of, none, or_none}
use Rattle.pl_sheets.specs.Sheets.{Pages, page_count}
use Rattle.pl_slot.specs.declared.kind.LiveKind.TheVariants as kinds
use Rattle.pl_slot.specs.declared.links.Rail.{Rail}
use Rattle.pl_slot.specs.declared.links.Rail.TheVariants.{Live, PageVisits, Targets}
use Rattle.pl_slot.specs.declared.row.SlotRow.{SlotRow}
use Rattle.pl_slot.specs.declared.row.SlotRow.TheVariants as rows
use Rattle.pl_slot.specs.Arena.{ChangesOnly, header_of, is_live, live_count}
use Rattle.pl_slot.specs.Links.{is_rail, kind_at}

-- ---- where a visit stands

-- when the visit in a slot was
abbrev pub visit_date : SlotRow → Option Micros
visit_date
    (rows.Visit transition live_previous live_next id page page_previous page_next source
    target_previous target_next first_target last_target date) =
    Some date
visit_date row = None

abbrev pub date_in : Pages → Slot → Option Micros
date_in pages slot = option_and_then visit_date (row_in slot pages)

-- it was later than this
abbrev pub is_after : Micros → Option Micros → Bool
is_after date None = false
is_after date (Some other) = nat_lt date.0 other.0

-- a slot in front of the first visit that is not later than this
abbrev pub put_in_time : Pages → Micros → Slot → List Slot → List Slot
put_in_time pages date slot [] = slot ∷ []
put_in_time pages date slot (other ∷ rest) =
    if is_after date (date_in pages other) then other ∷ put_in_time pages date slot rest
    else slot ∷ other ∷ rest

-- a new visit stands behind the last of those that are later, up to the first that is not
pub record IsPlaceInTime (date : Micros) (after : Option Slot) (visits : List Slot) (pages : Pages)
    : Type 0 where
  pub front : List Slot
  pub back : List Slot
  pub is : visits ≡ front ++ back
  pub last : last_of front ≡ after
  pub placed : (slot : Slot) → put_in_time pages date slot visits ≡ front ++ slot ∷ back

-- a slot among the targets of a visit: a redirect in front of all, and others behind all
abbrev pub put_target : Transition → Slot → List Slot → List Slot
put_target transition slot targets =
    if is_redirect transition then slot ∷ targets else targets ++ slot ∷ []

-- ---- chains

-- the chains with a visit's slot more: behind all, among its page's, and among its source's targets
abbrev pub with_target_slot : Visit → Slot → ChainMap → ChainMap
with_target_slot v slot chains =
    if v.source.0 == 0 then chains
    else with_chain Targets (At v.source)
    (put_target v.transition slot (chains Targets (At v.source))) chains

abbrev pub with_visit_slot : Pages → Visit → Slot → ChainMap → ChainMap
with_visit_slot pages v slot chains =
    with_target_slot v slot
    (with_chain PageVisits (At v.page)
    (put_in_time pages v.date slot (chains PageVisits (At v.page)))
    (with_chain Live (Header kinds.Visit) (chains Live (Header kinds.Visit) ++ slot ∷ []) chains))

-- the chains without a slot in the chain of an owner
abbrev pub without_slot : Slot → List Slot → List Slot
without_slot slot slots = filter (λ (s : Slot). not (s.0 == slot.0)) slots

abbrev pub without_member : Rail → Owner → Slot → ChainMap → ChainMap
without_member rail owner slot chains =
    with_chain rail owner (without_slot slot (chains rail owner)) chains

-- the chains without a visit's slot, in all three
abbrev pub without_target_slot : Visit → Slot → ChainMap → ChainMap
without_target_slot v slot chains =
    if v.source.0 == 0 then chains else without_member Targets (At v.source) slot chains

abbrev pub without_visit_slot : Visit → Slot → ChainMap → ChainMap
without_visit_slot v slot chains =
    without_member Live (Header kinds.Visit) slot
    (without_member PageVisits (At v.page) slot (without_target_slot v slot chains))

-- ---- slots that stand alone

-- those in no chain of targets, and all in other rails, still do, but for the rails of live slots
-- and of a page's visits
abbrev pub KeepsLone : ChainMap → Pages → Pages → Type 0
KeepsLone chains old new =
    (rail : Rail) (slot : Slot) → is_rail rail Live ≡ false → is_rail rail PageVisits ≡ false
    → (is_rail rail Targets ≡ true → IsLoose Targets slot chains) → IsAlone rail slot old
    → IsAlone rail slot new

-- so do all but this one
abbrev pub KeepsLoneBut : Slot → ChainMap → Pages → Pages → Type 0
KeepsLoneBut slot chains old new =
    (rail : Rail) (other : Slot) → other ≢ slot → is_rail rail Live ≡ false
    → is_rail rail PageVisits ≡ false → (is_rail rail Targets ≡ true → IsLoose Targets other chains)
    → IsAlone rail other old → IsAlone rail other new

-- ---- a visit comes

-- the visit of a row, with the next id and the slots of its page and its source
pub record IsNextVisit (row : VisitRow) (pages visits : Entries) (sheets : Pages) (v : Visit)
    : Type 0 where
  pub id : v.id.0 ≡ (header_of sheets).ids.visit
  pub transition : v.transition ≡ row.transition
  pub page : slot_at pages row.page.0 ≡ Some v.page
  pub source : v.source
      ≡ or_none (option_and_then (λ (s : VisitId). slot_at visits s.0) row.source)
  pub date : v.date ≡ row.date

-- a slot that was not live has the row of a visit, and stands in its chains
pub record TakesVisit (v : Visit) (slot : Slot) (old new : Pages) : Type 0 where
  pub fresh : is_live slot.0 old ≡ false
  pub records : (n : ℕ) → record_at n new
      ≡ (if n == slot.0 then Some (visit_row v) else record_at n old)
  pub chains : (chains : ChainMap) → AreChains chains old → AreApart PageVisits chains
      → AreApart Targets chains → AreChains (with_visit_slot old v slot chains) new
  pub alone : (chains : ChainMap) → AreChains chains old → KeepsLone chains old new
  pub own : v.source.0 ≡ 0 → IsAlone Targets slot new
  pub count : live_count new ≡ live_count old + 1
  pub body : KeepsBody old new
  pub longer : page_count old ≤ page_count new
  pub these : List ℕ
  pub few : length these ≤ 9
  pub pages : ChangesOnly these old new

-- a visit stands here among the targets of another
pub record IsTargetPlace (transition : Transition) (after : Option Slot) (targets : List Slot)
    : Type 0 where
  pub front : List Slot
  pub back : List Slot
  pub is : targets ≡ front ++ back
  pub last : last_of front ≡ after
  pub placed : (slot : Slot) → put_target transition slot targets ≡ front ++ slot ∷ back

-- the slot of a visit stands among the targets of its source, if it has one. All else is as it was
pub record PutsTarget (v : Visit) (slot : Slot) (old new : Pages) : Type 0 where
  pub records : (n : ℕ) → record_at n new ≡ record_at n old
  pub chains : (chains : ChainMap) → AreChains chains old → AreApart Targets chains
      → AreChains (with_target_slot v slot chains) new
  pub alone : (chains : ChainMap) → AreChains chains old → (rail : Rail) (other : Slot)
      → (is_rail rail Targets ≡ true → (other ≢ slot) × IsLoose Targets other chains)
      → IsAlone rail other old → IsAlone rail other new
  pub own : v.source.0 ≡ 0 → IsAlone Targets slot old → IsAlone Targets slot new
  pub count : live_count new ≡ live_count old
  pub body : KeepsBody old new
  pub as_many : page_count new ≡ page_count old
  pub these : List ℕ
  pub few : length these ≤ 3
  pub pages : ChangesOnly these old new

-- ---- a visit goes

-- a member goes out of an owner's chain, and names no neighbour then. All but the links of the rail
-- is as it was
pub record Leaves (rail : Rail) (owner : Owner) (slot : Slot) (old new : Pages) : Type 0 where
  pub list : (front back : List Slot) → Lists rail owner (front ++ slot ∷ back) old
      → Lists rail owner (front ++ back) new
  pub own : IsAlone rail slot new
  pub owners : (slots : List Slot) → Lists rail owner slots old
      → KeepsOwners rail owner slots old new
  pub others : KeepsRails rail old new
  pub rest : KeepsRest rail owner old new
  pub beside : (slots : List Slot) → Lists rail owner slots old
      → KeepsBeside rail slot slots old new
  pub pages : (front back : List Slot) → Lists rail owner (front ++ slot ∷ back) old
      → ChangesAround owner front slot back old new

-- the targets of a visit come from none, and stand alone
pub record DropsTargets (slot : Slot) (targets : List Slot) (old new : Pages) : Type 0 where
  pub records : (n : ℕ) → record_at n new
      ≡ (if is_in (record { 0 = n }) targets then option_map (with_source none) (record_at n old)
      else record_at n old)
  pub chains : (chains : ChainMap) → AreChains chains old → AreApart Targets chains
      → AreChains (with_chain Targets (At slot) [] chains) new
  pub loose : (target : Slot) → is_in target targets ≡ true → IsAlone Targets target new
  pub alone : (rail : Rail) (other : Slot)
      → (is_rail rail Targets ≡ true → is_in other targets ≡ false) → IsAlone rail other old
      → IsAlone rail other new
  pub count : live_count new ≡ live_count old
  pub body : KeepsBody old new
  pub as_many : page_count new ≡ page_count old
  pub these : List ℕ
  pub pages : ChangesOnly these old new

-- a slot holds a visit from which none came
pub record HoldsVisit (slot : Slot) (pages : Pages) : Type 0 where
  pub visit : Visit
  pub row : record_at slot.0 pages ≡ Some (visit_row visit)
  pub of_header : HasMember Live (Header kinds.Visit) slot pages
  pub of_page : HasMember PageVisits (At visit.page) slot pages
  pub of_source : visit.source.0 ≢ 0 → HasMember Targets (At visit.source) slot pages
  pub no_target : Lists Targets (At slot) [] pages

-- it stands no longer among the targets of its source, if it has one
pub record LeavesSource (v : Visit) (slot : Slot) (old new : Pages) : Type 0 where
  pub records : (n : ℕ) → record_at n new ≡ record_at n old
  pub kinds : (n : ℕ) → kind_at n new ≡ kind_at n old
  pub chains : (chains : ChainMap) → AreChains chains old → AreApart Targets chains
      → AreChains (without_target_slot v slot chains) new
  pub loose : (chains : ChainMap) → AreChains chains old → AreApart Targets chains
      → (v.source.0 ≡ 0 → IsLoose Targets slot chains)
      → IsLoose Targets slot (without_target_slot v slot chains)
  pub empty : Lists Targets (At slot) [] old → Lists Targets (At slot) [] new
  pub others : KeepsRails Targets old new
  pub alone : (chains : ChainMap) → AreChains chains old → (rail : Rail) (other : Slot)
      → other ≢ slot → (is_rail rail Targets ≡ true → IsLoose Targets other chains)
      → IsAlone rail other old → IsAlone rail other new
  pub count : live_count new ≡ live_count old
  pub body : KeepsBody old new
  pub as_many : page_count new ≡ page_count old
  pub these : List ℕ
  pub pages : ChangesOnly these old new

-- its slot is free, and all others stand in their order
pub record FreesVisit (v : Visit) (slot : Slot) (old new : Pages) : Type 0 where
  pub records : (n : ℕ) → record_at n new ≡ (if n == slot.0 then None else record_at n old)
  pub chains : (chains : ChainMap) → AreChains chains old → AreApart PageVisits chains
      → AreApart Targets chains → (v.source.0 ≡ 0 → IsLoose Targets slot chains)
      → AreChains (without_visit_slot v slot chains) new
  pub alone : (chains : ChainMap) → AreChains chains old → KeepsLoneBut slot chains old new
  pub count : live_count new + 1 ≡ live_count old
  pub body : KeepsBody old new
  pub longer : page_count old ≤ page_count new
  pub these : List ℕ
  pub pages : ChangesOnly these old new
