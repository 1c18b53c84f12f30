-- The chains that link the slots of a store.
use Rattle.std.specs.Prelude.{◌≡◌, ◌==◌, List, map, Some, None}
use Rattle.std.specs.List.{All, filter}
use Rattle.pl_base.specs.declared.id.ItemId.{ItemId}
use Rattle.pl_base.specs.declared.id.Slot.{Slot}
use Rattle.pl_base.specs.declared.id.VisitId.{VisitId}
use Rattle.pl_base.specs.Rows.{Kept, KeptOrigin, KeptPage, page_visits}
use Rattle.pl_base.specs.Store.{Item, Visit}
use Rattle.pl_base.specs.Tree.{parent_of, references}
use Rattle.pl_record.specs.Records.{Layout}
use Rattle.pl_rail.specs.declared.owner.Owner.TheVariants.{Header, At}
use Rattle.pl_rail.specs.Rails.{Lists, none}
use Rattle.pl_sheets.specs.Sheets.{Pages}
use Rattle.pl_slot.specs.declared.kind.LiveKind.TheVariants as kinds
use Rattle.pl_slot.specs.declared.links.Link.TheVariants.{Next, Previous}
use Rattle.pl_slot.specs.declared.links.Rail.{Rail}
use Rattle.pl_slot.specs.declared.links.Rail.TheVariants.{Live, OriginPages, PageVisits, Targets}
use Rattle.pl_slot.specs.declared.links.Rail.TheVariants.{Children, References}
use Rattle.pl_slot.specs.Links.{link_at}

-- ---- which slots are in a chain

-- the pages of an origin, by ascending id
abbrev pub pages_in : Kept → Slot → List KeptPage
pages_in kept origin = filter (λ (p : KeptPage). p.origin.0 == origin.0) kept.pages

-- the slots of pages, visits and items
abbrev pub page_slots : Layout → List KeptPage → List Slot
page_slots at pages = map (λ (p : KeptPage). at.page p.page.id) pages

abbrev pub visit_slots : Layout → List Visit → List Slot
visit_slots at visits = map (λ (v : Visit). at.visit v.id) visits

abbrev pub item_slots : Layout → List ItemId → List Slot
item_slots at items = map at.item items

-- the header has all slots of each kind: pages, visits and items by ascending id
pub record HasLive (at : Layout) (kept : Kept) (pages : Pages) : Type 0 where
  pub origins :
      Lists Live (Header kinds.Origin) (map (λ (o : KeptOrigin). o.origin) kept.origins) pages
  pub places : Lists Live (Header kinds.Place) (page_slots at kept.pages) pages
  pub visits : Lists Live (Header kinds.Visit) (visit_slots at kept.visits) pages
  pub items :
      Lists Live (Header kinds.Item) (item_slots at (map (λ (i : Item). i.id) kept.items)) pages

-- an origin has its pages by ascending id; a page its visits, the latest first, and its items by
-- ascending id; a visit those that came from it, in this order; an item its children
pub record HasChains (at : Layout) (kept : Kept) (targets : VisitId → List Visit) (pages : Pages)
    : Type 0 where
  pub origins : All (λ (o : KeptOrigin). Lists OriginPages (At o.origin)
      (page_slots at (pages_in kept o.origin)) pages) kept.origins
  pub visits : All (λ (p : KeptPage). Lists PageVisits (At (at.page p.page.id))
      (visit_slots at (page_visits kept p.page.id)) pages) kept.pages
  pub references : All (λ (p : KeptPage). Lists References (At (at.page p.page.id))
      (item_slots at (references kept.items p.page.id)) pages) kept.pages
  pub targeted : All (λ (v : Visit). Lists Targets (At (at.visit v.id))
      (visit_slots at (targets v.id)) pages) kept.visits
  pub children : All (λ (i : Item). Lists Children (At (at.item i.id))
      (item_slots at i.children) pages) kept.items

-- ---- which slots are in none

-- a slot names no neighbour in a rail
pub record IsAlone (rail : Rail) (slot : Slot) (pages : Pages) : Type 0 where
  pub before : link_at rail Previous slot.0 pages ≡ Some none
  pub behind : link_at rail Next slot.0 pages ≡ Some none

-- visits that came from none, items that are no children, and items that have no page
pub record HasAlone (at : Layout) (kept : Kept) (pages : Pages) : Type 0 where
  pub visits : All (λ (v : Visit). v.source ≡ None
      → IsAlone Targets (at.visit v.id) pages) kept.visits
  pub roots : All (λ (i : Item). parent_of kept.items i.id ≡ None
      → IsAlone Children (at.item i.id) pages) kept.items
  pub others : All (λ (i : Item). i.page ≡ None
      → IsAlone References (at.item i.id) pages) kept.items
