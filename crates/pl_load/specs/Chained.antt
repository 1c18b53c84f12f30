-- That the links of a file's slots make the lists that the rows read from it demand.
use Rattle.std.specs.Prelude.{◌≡◌, ◌≢◌, List, []}
use Rattle.std.specs.List.{All, AllZip, zip}
use Rattle.pl_base.specs.declared.id.Slot.{Slot}
use Rattle.pl_load.specs.Members.{ItemIn, VisitIn, origin_members, page_members, reference_members}
use Rattle.pl_load.specs.Members.{source_members}
use Rattle.pl_load.specs.Reads.{Reads}
use Rattle.pl_owned.specs.Owned.{IsListed, owned_by}
use Rattle.pl_owned.specs.Redirects.{HasRedirectsFirst}
use Rattle.pl_rail.specs.declared.owner.Owner.TheVariants.{At}
use Rattle.pl_rail.specs.Rails.{Lists}
use Rattle.pl_record.specs.declared.rows.Visit.{Visit}
use Rattle.pl_record.specs.Chains.{IsAlone}
use Rattle.pl_sheets.specs.Sheets.{Pages}
use Rattle.pl_slot.specs.declared.links.Rail.TheVariants.{Children, OriginPages, PageVisits}
use Rattle.pl_slot.specs.declared.links.Rail.TheVariants.{References, Targets}

-- an origin has its pages in their order, and at least one; a page its visits, the latest first,
-- and its items in their order
pub record HasOwnLists (pages : Pages) (reads : Reads) : Type 0 where
  pub origins : All (λ (o : Slot). Lists OriginPages (At o)
      (owned_by (origin_members reads.place_slots reads.places) o) pages) reads.origins
  pub some_page : All (λ (o : Slot).
      owned_by (origin_members reads.place_slots reads.places) o ≢ []) reads.origins
  pub visits : All (λ (s : Slot). Lists PageVisits (At s)
      (owned_by (page_members reads.visit_slots reads.visits) s) pages) reads.place_slots
  pub references : All (λ (s : Slot). Lists References (At s)
      (owned_by (reference_members reads.item_slots reads.items) s) pages) reads.place_slots

-- a visit has those that came from it, redirects first
pub record HasTargetsIn (pages : Pages) (owners : List Slot) (visits : List Visit) : Type 0 where
  pub slots : List (List Slot)
  pub listed : AllZip (IsListed Targets (source_members owners visits) pages) owners slots
  pub first : All (λ (l : List Slot). HasRedirectsFirst l pages) slots

abbrev pub HasTargetLists : Pages → Reads → Type 0
HasTargetLists pages reads = HasTargetsIn pages reads.visit_slots reads.visits

-- visits that came from none, items without a parent and items without a page stand alone
pub record HasLoneSlots (pages : Pages) (reads : Reads) : Type 0 where
  pub visits : All (λ (v : VisitIn). v.1.source.0 ≡ 0 → IsAlone Targets v.0 pages)
      (zip reads.visit_slots reads.visits)
  pub roots : All (λ (i : ItemIn). i.1.parent.0 ≡ 0 → IsAlone Children i.0 pages)
      (zip reads.item_slots reads.items)
  pub others : All (λ (i : ItemIn). i.1.page.0 ≡ 0 → IsAlone References i.0 pages)
      (zip reads.item_slots reads.items)
