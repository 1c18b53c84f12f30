-- Where the links of a file's slots make the lists that the rows read from it demand, its slots are
-- linked as those of the store.
use Rattle.std.proofs.Common.{◌≡◌, ◌∙◌, ◌==◌, List, All, Option, Some, None, ap, eq-eqb, map, refl, subst, true}
use Rattle.std.specs.List.{AllByRecursion, list_any, zip}
use Rattle.std.specs.Option.{IfSome}
use Rattle.std.proofs.lemmas.List.Elements.{All-from_recursion, All-weaker, recursion_from_All}
use Rattle.pl_base.specs.declared.id.ItemId.{ItemId}
use Rattle.pl_base.specs.declared.id.PageId.{PageId}
use Rattle.pl_base.specs.declared.id.Slot.{Slot}
use Rattle.pl_base.specs.declared.id.VisitId.{VisitId}
use Rattle.pl_base.specs.Date.{IsDate}
use Rattle.pl_base.specs.Good.{IsGood, IsGoodItem}
use Rattle.pl_base.specs.Rows.{IsWellKept, Kept, KeptOrigin, KeptPage, has_page, page_visits, store_of}
use Rattle.pl_base.specs.Store.{Item, Page, Visit}
use Rattle.pl_base.specs.Tree.{parent_of, references}
use Rattle.pl_base.proofs.Among.{all_from_in, any_from_in}
use Rattle.pl_base.proofs.ListLaws.{All-from_map, from_map, map-map}
use Rattle.pl_base.proofs.LookUps.{both}
use Rattle.pl_base.proofs.TargetsRun.{differ_all}
use Rattle.pl_load.specs.Chained.{HasLoneSlots, HasOwnLists, HasTargetLists}
use Rattle.pl_load.specs.Members.{ItemIn, VisitIn, origin_members, page_members, reference_members}
use Rattle.pl_load.specs.Owners.{NameOwners}
use Rattle.pl_load.specs.Reads.{AreRead, AreReadFrom, Reads, item_at, visit_at}
use Rattle.pl_load.proofs.HeldRows.{held_rows}
use Rattle.pl_load.proofs.Layouts.{kept_of, layout_of}
use Rattle.pl_load.proofs.Lists.{zip_maps}
use Rattle.pl_load.proofs.OwnedLists.{pages_owned, references_owned, visits_owned}
use Rattle.pl_load.proofs.ParentsTold.{children_linked, parents_are, rows_read}
use Rattle.pl_load.proofs.SourceSlots.{sources_there}
use Rattle.pl_load.proofs.TargetLists.{targets_in, targets_linked}
use Rattle.pl_load.proofs.WellRead.{good_rows, page_known}
use Rattle.pl_owned.specs.Owned.{owned_by}
use Rattle.pl_rail.specs.declared.owner.Owner.TheVariants.{At}
use Rattle.pl_rail.specs.Rails.{Lists}
use Rattle.pl_record.specs.Chains.{HasAlone, HasChains, IsAlone, item_slots, page_slots, pages_in, visit_slots}
use Rattle.pl_record.specs.Records.{HoldsRows, Layout, slot_or_none}
use Rattle.pl_sheets.specs.Sheets.{Pages}
use Rattle.pl_slot.specs.declared.links.Rail.TheVariants.{Children, OriginPages, PageVisits, References, Targets}
use Rattle.pl_stored.specs.Stored.{stored_store}

-- the visits that came from each, in the order of the lists that the links make
abbrev pub targets_of : (pages : Pages) (reads : Reads) → HasTargetLists pages reads → VisitId → List Visit
targets_of pages reads targets = targets_in (layout_of pages reads) (kept_of reads) targets.slots

module _ (pages : Pages) (reads : Reads) (from : AreReadFrom pages reads)
    (good : IsGood (stored_store reads.stored)) (owners : NameOwners pages reads) (well : IsWellKept (kept_of reads))
  where
    abbrev at : Layout
    at = layout_of pages reads

    abbrev kept : Kept
    kept = kept_of reads

    are : AreRead at kept reads
    are = rows_read pages reads from good owners

    held : HoldsRows at kept pages
    held = held_rows pages reads from good (parents_are pages reads from good owners)

    -- ---- rows that are named

    pages_there : AllByRecursion (λ (p : KeptPage). has_page kept p.page.id ≡ true) kept.pages
    pages_there =
        all_from_in (λ (p : KeptPage). has_page kept p.page.id ≡ true) kept.pages
        (λ p within.
        any_from_in (λ (q : KeptPage). q.page.id.0 == p.page.id.0) kept.pages p within
        (eq-eqb p.page.id.0 p.page.id.0 refl))

    visit_pages : AllByRecursion (λ (v : Visit). has_page kept v.page ≡ true) kept.visits
    visit_pages =
        recursion_from_All (λ (v : Visit). has_page kept v.page ≡ true) kept.visits
        (All-weaker (λ (v : Visit). IsDate v.date × (has_page kept v.page ≡ true))
        (λ (v : Visit). has_page kept v.page ≡ true) (λ v told. told.1) kept.visits well.visits)

    -- the page of each item is there
    pub item_pages : All (λ (i : Item). IfSome i.page (λ id. has_page kept id ≡ true)) kept.items
    item_pages =
        All-weaker (IsGoodItem (store_of kept)) (λ (i : Item). IfSome i.page (λ id. has_page kept id ≡ true))
        (λ i told. known i.page told.page) kept.items (good_rows pages reads from good).items
      where
        known : (o : Option PageId)
            → IfSome o (λ id. list_any (λ (p : Page). p.id.0 == id.0) (store_of kept).pages ≡ true)
            → IfSome o (λ id. has_page kept id ≡ true)
        known None has = tt
        known (Some id) has = page_known pages reads from good id has

    -- ---- the lists of owners

    module _ (own : HasOwnLists pages reads) (targets : HasTargetLists pages reads) where
      origins_chained : All (λ (o : KeptOrigin). Lists OriginPages (At o.origin)
          (page_slots at (pages_in kept o.origin)) pages) kept.origins
      origins_chained =
          All-from_map (λ (o : Slot). Lists OriginPages (At o) (page_slots at (pages_in kept o)) pages)
          (λ (o : KeptOrigin). o.origin) kept.origins
          (subst (All (λ (o : Slot). Lists OriginPages (At o) (page_slots at (pages_in kept o)) pages)) are.origins
          (All-weaker (λ (o : Slot). Lists OriginPages (At o)
          (owned_by (origin_members reads.place_slots reads.places) o) pages)
          (λ (o : Slot). Lists OriginPages (At o) (page_slots at (pages_in kept o)) pages)
          (λ o lists.
          subst (λ (ss : List Slot). Lists OriginPages (At o) ss pages) (pages_owned at kept reads are o) lists)
          reads.origins own.origins))

      visits_chained : All (λ (p : KeptPage). Lists PageVisits (At (at.page p.page.id))
          (visit_slots at (page_visits kept p.page.id)) pages) kept.pages
      visits_chained =
          All-from_recursion (λ (p : KeptPage). Lists PageVisits (At (at.page p.page.id))
          (visit_slots at (page_visits kept p.page.id)) pages) kept.pages
          (both (λ (p : KeptPage). has_page kept p.page.id ≡ true)
          (λ (p : KeptPage). Lists PageVisits (At (at.page p.page.id))
          (owned_by (page_members reads.visit_slots reads.visits) (at.page p.page.id)) pages)
          (λ (p : KeptPage). Lists PageVisits (At (at.page p.page.id))
          (visit_slots at (page_visits kept p.page.id)) pages)
          kept.pages
          (λ p there lists.
          subst (λ (ss : List Slot). Lists PageVisits (At (at.page p.page.id)) ss pages)
          (visits_owned at kept reads are pages held p.page.id there visit_pages (differ_all kept well)) lists)
          pages_there
          (from_map (λ (s : Slot). Lists PageVisits (At s)
          (owned_by (page_members reads.visit_slots reads.visits) s) pages)
          (λ (p : KeptPage). at.page p.page.id) kept.pages
          (recursion_from_All (λ (s : Slot). Lists PageVisits (At s)
          (owned_by (page_members reads.visit_slots reads.visits) s) pages) (page_slots at kept.pages)
          (subst (All (λ (s : Slot). Lists PageVisits (At s)
          (owned_by (page_members reads.visit_slots reads.visits) s) pages)) are.place_slots own.visits))))

      references_chained : All (λ (p : KeptPage). Lists References (At (at.page p.page.id))
          (item_slots at (references kept.items p.page.id)) pages) kept.pages
      references_chained =
          All-from_recursion (λ (p : KeptPage). Lists References (At (at.page p.page.id))
          (item_slots at (references kept.items p.page.id)) pages) kept.pages
          (both (λ (p : KeptPage). has_page kept p.page.id ≡ true)
          (λ (p : KeptPage). Lists References (At (at.page p.page.id))
          (owned_by (reference_members reads.item_slots reads.items) (at.page p.page.id)) pages)
          (λ (p : KeptPage). Lists References (At (at.page p.page.id)) (item_slots at (references kept.items p.page.id))
          pages) kept.pages
          (λ p there lists.
          subst (λ (ss : List Slot). Lists References (At (at.page p.page.id)) ss pages)
          (references_owned at kept reads are pages held p.page.id there
          (recursion_from_All (λ (i : Item). IfSome i.page (λ id. has_page kept id ≡ true)) kept.items
          item_pages)) lists)
          pages_there
          (from_map (λ (s : Slot). Lists References (At s) (owned_by (reference_members reads.item_slots reads.items) s)
          pages) (λ (p : KeptPage). at.page p.page.id) kept.pages
          (recursion_from_All (λ (s : Slot). Lists References (At s)
          (owned_by (reference_members reads.item_slots reads.items) s) pages) (page_slots at kept.pages)
          (subst (All (λ (s : Slot). Lists References (At s)
          (owned_by (reference_members reads.item_slots reads.items) s) pages)) are.place_slots own.references))))

      pub has_chains : HasChains at kept (targets_of pages reads targets) pages
      has_chains =
          record {
            origins = origins_chained;
            visits = visits_chained;
            references = references_chained;
            targeted =
                targets_linked pages at kept held.visits (differ_all kept well) (sources_there kept well)
                reads.visit_slots reads.visits are.visit_slots are.visits targets.slots targets.listed targets.first;
            children = children_linked pages reads from good owners;
          }

    -- ---- slots that stand alone

    pub has_alone : HasLoneSlots pages reads → HasAlone at kept pages
    has_alone lone =
        record {
          visits =
              All-weaker (λ (v : Visit). (slot_or_none at.visit v.source).0 ≡ 0 → IsAlone Targets (at.visit v.id) pages)
              (λ (v : Visit). v.source ≡ None → IsAlone Targets (at.visit v.id) pages)
              (λ v alone none. alone (ap (λ (o : Option VisitId). (slot_or_none at.visit o).0) none)) kept.visits
              (All-from_map (λ (v : VisitIn). v.1.source.0 ≡ 0 → IsAlone Targets v.0 pages)
              (λ (v : Visit). (at.visit v.id, visit_at at v)) kept.visits
              (subst (All (λ (v : VisitIn). v.1.source.0 ≡ 0 → IsAlone Targets v.0 pages)) visits_zipped lone.visits));
          roots =
              All-weaker (λ (i : Item). (slot_or_none at.item (parent_of kept.items i.id)).0 ≡ 0
              → IsAlone Children (at.item i.id) pages)
              (λ (i : Item). parent_of kept.items i.id ≡ None → IsAlone Children (at.item i.id) pages)
              (λ i alone none. alone (ap (λ (o : Option ItemId). (slot_or_none at.item o).0) none)) kept.items
              (All-from_map (λ (i : ItemIn). i.1.parent.0 ≡ 0 → IsAlone Children i.0 pages)
              (λ (i : Item). (at.item i.id, item_at at kept.items i)) kept.items
              (subst (All (λ (i : ItemIn). i.1.parent.0 ≡ 0 → IsAlone Children i.0 pages)) items_zipped lone.roots));
          others =
              All-weaker (λ (i : Item). (slot_or_none at.page i.page).0 ≡ 0 → IsAlone References (at.item i.id) pages)
              (λ (i : Item). i.page ≡ None → IsAlone References (at.item i.id) pages)
              (λ i alone none. alone (ap (λ (o : Option PageId). (slot_or_none at.page o).0) none)) kept.items
              (All-from_map (λ (i : ItemIn). i.1.page.0 ≡ 0 → IsAlone References i.0 pages)
              (λ (i : Item). (at.item i.id, item_at at kept.items i)) kept.items
              (subst (All (λ (i : ItemIn). i.1.page.0 ≡ 0 → IsAlone References i.0 pages)) items_zipped lone.others));
        }
      where
        visits_zipped : zip reads.visit_slots reads.visits
            ≡ map (λ (v : Visit). (at.visit v.id, visit_at at v)) kept.visits
        visits_zipped =
            (λ i. zip (are.visit_slots i) (are.visits i))
            ∙ zip_maps (λ (v : Visit). at.visit v.id) (visit_at at) kept.visits

        items_zipped : zip reads.item_slots reads.items
            ≡ map (λ (i : Item). (at.item i.id, item_at at kept.items i)) kept.items
        items_zipped =
            (λ i. zip ((are.item_slots ∙ map-map at.item (λ (j : Item). j.id) kept.items) i) (are.items i))
            ∙ zip_maps (λ (i : Item). at.item i.id) (item_at at kept.items) kept.items
