-- The lists that members demand, where what was read are the rows of a store.
use Rattle.std.proofs.Common.{◌≡◌, ◌∙◌, ◌==◌, List, Option, Some, None, ap, filter, map, refl}
use Rattle.std.proofs.Common.{sym, true}
use Rattle.std.specs.List.{AllByRecursion, zip}
use Rattle.std.specs.Option.{IfSome, option_and_then, option_map}
use Rattle.pl_base.specs.declared.id.PageId.{PageId}
use Rattle.pl_base.specs.declared.id.Slot.{Slot}
use Rattle.pl_base.specs.Rows.{Kept, KeptPage, has_page, page_visits}
use Rattle.pl_base.specs.Sorting.{sorted_by}
use Rattle.pl_base.specs.Store.{Item, Visit}
use Rattle.pl_base.specs.Tree.{is_page, references}
use Rattle.pl_base.specs.Visits.{latest_first}
use Rattle.pl_base.proofs.ListLaws.{filter-where, map-map, weaker}
use Rattle.pl_base.proofs.SortLaws.{sorted_map}
use Rattle.pl_base.proofs.VisitOrder.{latest_part}
use Rattle.pl_base.proofs.VisitsLaws.{Differ, all-latest_first}
use Rattle.pl_load.specs.Members.{is_newer, origin_member, origin_members, page_member, page_members}
use Rattle.pl_load.specs.Members.{ItemIn, VisitIn, reference_member, reference_members}
use Rattle.pl_load.specs.Reads.{AreRead, Reads, item_at, place_at, visit_at}
use Rattle.pl_load.proofs.Lists.{owned_map, sorted_later, zip_maps}
use Rattle.pl_load.proofs.SlotNames as names
use Rattle.pl_owned.specs.declared.owned.Member.{Member}
use Rattle.pl_owned.specs.Owned.{owned_by}
use Rattle.pl_record.specs.Chains.{item_slots, page_slots, pages_in, visit_slots}
use Rattle.pl_record.specs.Records.{HoldsRows, Layout, slot_or_none, unlinked}
use Rattle.pl_record.specs.Rows.{page_id, page_in}
use Rattle.pl_record.proofs.NamedSlots.{page_named}
use Rattle.pl_rail.specs.Rails.{none}
use Rattle.pl_sheets.specs.Sheets.{Pages}
use Rattle.pl_slot.proofs.SlotPlaces.{no_slot}

-- slot 0 is that of no page
pub no_page : (pages : Pages) → page_in pages none ≡ None
no_page pages = ap (λ o. option_and_then page_id (option_map unlinked o)) (no_slot 0 pages refl)

module _ (at : Layout) (kept : Kept) (reads : Reads) (are : AreRead at kept reads) where
  abbrev visit_row : Visit → VisitIn
  visit_row v = (at.visit v.id, visit_at at v)

  abbrev item_row : Item → ItemIn
  item_row i = (at.item i.id, item_at at kept.items i)

  -- ---- the pages of an origin

  pub pages_owned : (origin : Slot)
      → owned_by (origin_members reads.place_slots reads.places) origin ≡ page_slots at (pages_in kept origin)
  pages_owned origin =
      ap (λ (ms : List Member). owned_by ms origin) members
      ∙ owned_map (λ (p : KeptPage). p.origin) (λ (p : KeptPage). at.page p.page.id) kept.pages origin
    where
      members : origin_members reads.place_slots reads.places
          ≡ map (λ (p : KeptPage). record { owner = p.origin; slot = at.page p.page.id }) kept.pages
      members =
          (λ i. map origin_member (zip (are.place_slots i) (are.places i)))
          ∙ ap (map origin_member) (zip_maps (λ (p : KeptPage). at.page p.page.id) (place_at at) kept.pages)
          ∙ map-map origin_member (λ (p : KeptPage). (at.page p.page.id, place_at at p)) kept.pages

  module _ (pages : Pages) (held : HoldsRows at kept pages) where
    -- the page in a slot, and the id that it says
    abbrev page_says : PageId → Type 0
    page_says id = page_in pages (at.page id) ≡ Some id

    says : (id : PageId) → has_page kept id ≡ true → page_says id
    says id there = page_named at kept pages held id there

    same_own : (v id : PageId) → has_page kept v ≡ true → has_page kept id ≡ true
        → ((at.page v).0 == (at.page id).0) ≡ (v.0 == id.0)
    same_own v id first second =
        names.same_owner (λ (p : PageId). p.0) (λ a b same. ap (λ n. record { 0 = n }) same) at.page (page_in pages)
        (no_page pages) v id (says v first) (says id second)

    -- ---- the visits of a page

    pub visits_owned : (id : PageId) → has_page kept id ≡ true
        → AllByRecursion (λ (v : Visit). has_page kept v.page ≡ true) kept.visits → Differ kept.visits
        → owned_by (page_members reads.visit_slots reads.visits) (at.page id) ≡ visit_slots at (page_visits kept id)
    visits_owned id there own differ =
        ap (λ (ms : List Member). owned_by ms (at.page id)) members
        ∙ owned_map (λ (v : Visit). at.page v.page) (λ (v : Visit). at.visit v.id) (latest_first kept.visits)
        (at.page id)
        ∙ ap (map (λ (v : Visit). at.visit v.id))
        (filter-where (λ (v : Visit). (at.page v.page).0 == (at.page id).0) (λ (v : Visit). v.page.0 == id.0)
        (latest_first kept.visits)
        (weaker (λ (v : Visit). has_page kept v.page ≡ true)
        (λ (v : Visit). ((at.page v.page).0 == (at.page id).0) ≡ (v.page.0 == id.0)) (latest_first kept.visits)
        (λ v here. same_own v.page id here there)
        (all-latest_first (λ (v : Visit). has_page kept v.page ≡ true) kept.visits own))
        ∙ latest_part (λ (v : Visit). v.page.0 == id.0) kept.visits differ)
      where
        members : page_members reads.visit_slots reads.visits
            ≡ map (λ (v : Visit). record { owner = at.page v.page; slot = at.visit v.id }) (latest_first kept.visits)
        members =
            (λ i. map page_member (sorted_by is_newer (zip (are.visit_slots i) (are.visits i))))
            ∙ ap (λ (rs : List VisitIn). map page_member (sorted_by is_newer rs))
            (zip_maps (λ (v : Visit). at.visit v.id) (visit_at at) kept.visits)
            ∙ ap (map page_member)
            (sym (sorted_map visit_row is_newer kept.visits) ∙ ap (map visit_row) (sorted_later kept.visits))
            ∙ map-map page_member visit_row (latest_first kept.visits)

    -- ---- the items of a page

    own_alike : (id : PageId) → has_page kept id ≡ true → (own : Option PageId)
        → IfSome own (λ p. has_page kept p ≡ true)
        → ((slot_or_none at.page own).0 == (at.page id).0) ≡ is_page id own
    own_alike id there None has =
        names.no_owner (λ (p : PageId). p.0) (λ a b same. ap (λ n. record { 0 = n }) same) at.page (page_in pages)
        (no_page pages) id (says id there)
    own_alike id there (Some p) has = same_own p id has there

    pub references_owned : (id : PageId) → has_page kept id ≡ true
        → AllByRecursion (λ (i : Item). IfSome i.page (λ p. has_page kept p ≡ true)) kept.items
        → owned_by (reference_members reads.item_slots reads.items) (at.page id)
        ≡ item_slots at (references kept.items id)
    references_owned id there own =
        ap (λ (ms : List Member). owned_by ms (at.page id)) members
        ∙ owned_map (λ (i : Item). slot_or_none at.page i.page) (λ (i : Item). at.item i.id) kept.items (at.page id)
        ∙ ap (map (λ (i : Item). at.item i.id))
        (filter-where (λ (i : Item). (slot_or_none at.page i.page).0 == (at.page id).0)
        (λ (i : Item). is_page id i.page)
        kept.items
        (weaker (λ (i : Item). IfSome i.page (λ p. has_page kept p ≡ true))
        (λ (i : Item). ((slot_or_none at.page i.page).0 == (at.page id).0) ≡ is_page id i.page) kept.items
        (λ i has. own_alike id there i.page has) own))
        ∙ sym (map-map at.item (λ (i : Item). i.id) (filter (λ (i : Item). is_page id i.page) kept.items))
      where
        members : reference_members reads.item_slots reads.items
            ≡ map (λ (i : Item). record { owner = slot_or_none at.page i.page; slot = at.item i.id }) kept.items
        members =
            (λ i. map reference_member (zip (are.item_slots i) (are.items i)))
            ∙ ap (λ (ss : List Slot). map reference_member (zip ss (map (item_at at kept.items) kept.items)))
            (map-map at.item (λ (i : Item). i.id) kept.items)
            ∙ ap (map reference_member) (zip_maps (λ (i : Item). at.item i.id) (item_at at kept.items) kept.items)
            ∙ map-map reference_member item_row kept.items
