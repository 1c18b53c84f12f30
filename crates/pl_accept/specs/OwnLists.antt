-- The lists of origins and of pages, as rows name their owners.
use Rattle.std.specs.Prelude.{◌≢◌, ◌==◌, Bool, List, [], not}
use Rattle.std.specs.List.{All}
use Rattle.pl_base.specs.declared.id.Slot.{Slot}
use Rattle.pl_load.specs.Members.{origin_members, page_members, reference_members}
use Rattle.pl_owned.specs.Owned.{owned_by}
use Rattle.pl_rail.specs.declared.owner.Owner.TheVariants.{At}
use Rattle.pl_rail.specs.Rails.{Lists, or_none}
use Rattle.pl_record.specs.declared.rows.Item.{Item}
use Rattle.pl_record.specs.declared.rows.Place.{Place}
use Rattle.pl_record.specs.declared.rows.Visit.{Visit}
use Rattle.pl_sheets.specs.Sheets.{Pages}
use Rattle.pl_slot.specs.declared.links.Link.TheVariants.{First}
use Rattle.pl_slot.specs.declared.links.Rail.TheVariants.{OriginPages, PageVisits, References}
use Rattle.pl_slot.specs.Links.{link_at}

-- an origin names a first page
abbrev pub names_first : Pages → Slot → Bool
names_first pages o = not ((or_none (link_at OriginPages First o.0 pages)).0 == 0)

-- each origin has a list of its pages in their order, and at least one
pub record HasPageLists (pages : Pages) (origins slots : List Slot) (places : List Place) : Type 0
  where
    pub lists : All (λ (o : Slot). Lists OriginPages (At o)
        (owned_by (origin_members slots places) o) pages) origins
    pub some_page : All (λ (o : Slot). owned_by (origin_members slots places) o ≢ []) origins

-- each page has a list of its visits, the latest first
abbrev pub HasVisitLists : Pages → List Slot → List Slot → List Visit → Type 0
HasVisitLists pages owners slots visits =
    All (λ (s : Slot). Lists PageVisits (At s) (owned_by (page_members slots visits) s) pages)
    owners

-- each page has a list of its items in their order
abbrev pub HasReferenceLists : Pages → List Slot → List Slot → List Item → Type 0
HasReferenceLists pages owners slots items =
    All (λ (s : Slot). Lists References (At s) (owned_by (reference_members slots items) s) pages)
    owners
