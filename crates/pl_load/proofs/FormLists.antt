-- Pages that are the form of a store link the lists that its rows demand, and leave alone the slots
-- that are in none.
use Rattle.std.proofs.Common.{◌≡◌, ◌≢◌, ◌∙◌, ◌==◌, [], Bool, List, Option, Some, None, ap, eq-eqb, filter, find, map}
use Rattle.std.proofs.Common.{refl, subst, sym, true}
use Rattle.std.specs.List.{All, AllByRecursion, Contains, zip}
use Rattle.std.specs.Option.{IfSome, option_and_then, option_map}
use Rattle.std.specs.Prelude.{IsTrue}
use Rattle.std.proofs.lemmas.List.Elements.{All-from_recursion, recursion_from_All}
use Rattle.pl_base.specs.declared.id.ItemId.{ItemId}
use Rattle.pl_base.specs.declared.id.PageId.{PageId}
use Rattle.pl_base.specs.declared.id.Slot.{Slot}
use Rattle.pl_base.specs.declared.id.VisitId.{VisitId}
use Rattle.pl_base.specs.Date.{IsDate}
use Rattle.pl_base.specs.Rows.{Kept, KeptOrigin, KeptPage, has_page, has_visit, page_origins, page_visits}
use Rattle.pl_base.specs.Store.{Item as TreeItem, Visit as StoreVisit}
use Rattle.pl_base.specs.Tree.{has_child, parent_of, references}
use Rattle.pl_base.proofs.Among.{In, all_from_in, any_from_in, from_any, in_filter, in_map}
use Rattle.pl_base.proofs.IdsLaws.{same_slot}
use Rattle.pl_base.proofs.ListLaws.{map-map, to_map, weaker}
use Rattle.pl_base.proofs.LookUps.{found_holds}
use Rattle.pl_base.proofs.TargetsRun.{differ_all}
use Rattle.pl_load.specs.Chained.{HasLoneSlots, HasOwnLists, HasTargetLists}
use Rattle.pl_load.specs.Members.{ItemIn, VisitIn, origin_members, page_members, reference_members}
use Rattle.pl_load.specs.Reads.{item_at, visit_at}
use Rattle.pl_load.proofs.FormReads.{are_read, of_one, reads_of}
use Rattle.pl_load.proofs.ItemSlots.{no_item}
use Rattle.pl_load.proofs.Lists.{zip_maps}
use Rattle.pl_load.proofs.OwnedLists.{no_page, pages_owned, references_owned, visits_owned}
use Rattle.pl_load.proofs.SourceSlots.{no_visit, sources_there}
use Rattle.pl_load.proofs.TargetSlots.{all_listed, all_redirects_first, target_lists}
use Rattle.pl_owned.specs.Owned.{owned_by}
use Rattle.pl_rail.specs.declared.owner.Owner.TheVariants.{At}
use Rattle.pl_rail.specs.Rails.{Lists, none}
use Rattle.pl_record.specs.Chains.{IsAlone, item_slots, page_slots, pages_in, visit_slots}
use Rattle.pl_record.specs.Form.{AreRows, IsLaid}
use Rattle.pl_record.specs.Records.{Layout, slot_or_none}
use Rattle.pl_record.specs.Rows.{item_id, item_in, page_in, visit_in}
use Rattle.pl_record.proofs.NamedSlots.{page_named, visit_named}
use Rattle.pl_record.proofs.OriginsCounted.{numbered}
use Rattle.pl_sheets.specs.Sheets.{Pages}
use Rattle.pl_slot.specs.declared.links.Rail.TheVariants.{Children, OriginPages, PageVisits}
use Rattle.pl_slot.specs.declared.links.Rail.TheVariants.{References, Targets}

-- where slots say what they are named for, and slot 0 says nothing, slot 0 stands for none
none_named : {Id : Type 0} (slot_of : Id → Slot) (says : Slot → Option Id) → says none ≡ None → (named : Option Id)
    → IfSome named (λ id. says (slot_of id) ≡ Some id) → (slot_or_none slot_of named).0 ≡ 0 → named ≡ None
none_named slot_of says empty None told zero = refl
none_named slot_of says empty (Some id) told zero =
    let here : slot_of id ≡ none = same_slot (slot_of id) none zero in
    let nothing : None ≡ Some id = sym empty ∙ ap says (sym here) ∙ told in
    absurd (cc)

module _ (at : Layout) (kept : Kept) (targets : VisitId → List StoreVisit) (pages : Pages)
    (rows : AreRows kept targets) (laid : IsLaid at kept targets pages) where
  -- ---- the lists of origins

  -- the slots of pages that name an origin
  abbrev owned_pages : Slot → List Slot
  owned_pages o = owned_by (origin_members (reads_of at kept).place_slots (reads_of at kept).places) o

  owned_pages_are : (o : Slot) → owned_pages o ≡ page_slots at (pages_in kept o)
  owned_pages_are o = pages_owned at kept (reads_of at kept) (are_read at kept) o

  origin_lists : (o : KeptOrigin) → In o kept.origins
      → Lists OriginPages (At o.origin) (owned_pages o.origin) pages
  origin_lists o here =
      subst (λ (ss : List Slot). Lists OriginPages (At o.origin) ss pages) (sym (owned_pages_are o.origin))
      (of_one (λ (a : KeptOrigin). Lists OriginPages (At a.origin) (page_slots at (pages_in kept a.origin)) pages)
      kept.origins o laid.chains.origins here)

  -- each has a page
  origin_used : (o : KeptOrigin) → In o kept.origins → owned_pages o.origin ≢ []
  origin_used o here empty =
      let test : KeptPage → Bool = λ (p : KeptPage). p.origin.0 == o.origin.0 in
      let used : Contains (page_origins kept) o.origin.0 =
      of_one (λ (a : KeptOrigin). Contains (page_origins kept) a.origin.0) kept.origins o rows.well.origins.used here in
      let r = from_any test kept.pages (numbered (λ (p : KeptPage). p.origin.0) kept.pages o.origin.0 used) in
      subst (In (at.page r.0.page.id)) (sym (owned_pages_are o.origin) ∙ empty)
      (in_map (λ (p : KeptPage). at.page p.page.id) (filter test kept.pages) r.0
      (in_filter test kept.pages r.0 r.1 r.2))

  -- ---- the lists of pages

  page_there : (p : KeptPage) → In p kept.pages → has_page kept p.page.id ≡ true
  page_there p here =
      any_from_in (λ (q : KeptPage). q.page.id.0 == p.page.id.0) kept.pages p here
      (eq-eqb p.page.id.0 p.page.id.0 refl)

  -- visits and items have pages that are there
  visits_own : AllByRecursion (λ (v : StoreVisit). has_page kept v.page ≡ true) kept.visits
  visits_own =
      weaker (λ (v : StoreVisit). IsDate v.date × IsTrue (has_page kept v.page))
      (λ (v : StoreVisit). has_page kept v.page ≡ true) kept.visits (λ v has. has.1)
      (recursion_from_All (λ (v : StoreVisit). IsDate v.date × IsTrue (has_page kept v.page)) kept.visits
      rows.well.visits)

  items_own : AllByRecursion (λ (i : TreeItem). IfSome i.page (λ id. has_page kept id ≡ true)) kept.items
  items_own =
      recursion_from_All (λ (i : TreeItem). IfSome i.page (λ id. has_page kept id ≡ true)) kept.items rows.own

  abbrev owned_visits : Slot → List Slot
  owned_visits s = owned_by (page_members (reads_of at kept).visit_slots (reads_of at kept).visits) s

  abbrev owned_references : Slot → List Slot
  owned_references s = owned_by (reference_members (reads_of at kept).item_slots (reads_of at kept).items) s

  visit_lists : (p : KeptPage) → In p kept.pages
      → Lists PageVisits (At (at.page p.page.id)) (owned_visits (at.page p.page.id)) pages
  visit_lists p here =
      subst (λ (ss : List Slot). Lists PageVisits (At (at.page p.page.id)) ss pages)
      (sym (visits_owned at kept (reads_of at kept) (are_read at kept) pages laid.rows p.page.id (page_there p here)
      visits_own (differ_all kept rows.well)))
      (of_one (λ (q : KeptPage). Lists PageVisits (At (at.page q.page.id))
      (visit_slots at (page_visits kept q.page.id)) pages) kept.pages p laid.chains.visits here)

  reference_lists : (p : KeptPage) → In p kept.pages
      → Lists References (At (at.page p.page.id)) (owned_references (at.page p.page.id)) pages
  reference_lists p here =
      subst (λ (ss : List Slot). Lists References (At (at.page p.page.id)) ss pages)
      (sym (references_owned at kept (reads_of at kept) (are_read at kept) pages laid.rows p.page.id
      (page_there p here) items_own))
      (of_one (λ (q : KeptPage). Lists References (At (at.page q.page.id))
      (item_slots at (references kept.items q.page.id)) pages) kept.pages p laid.chains.references here)

  -- ---- both

  -- what holds of the slot of each origin, and of each page
  of_origins : (P : Slot → Type 0) → ((o : KeptOrigin) → In o kept.origins → P o.origin)
      → All P (reads_of at kept).origins
  of_origins P each =
      All-from_recursion P (reads_of at kept).origins
      (to_map P (λ (o : KeptOrigin). o.origin) kept.origins
      (all_from_in (λ (o : KeptOrigin). P o.origin) kept.origins each))

  of_pages : (P : Slot → Type 0) → ((p : KeptPage) → In p kept.pages → P (at.page p.page.id))
      → All P (reads_of at kept).place_slots
  of_pages P each =
      All-from_recursion P (reads_of at kept).place_slots
      (to_map P (λ (p : KeptPage). at.page p.page.id) kept.pages
      (all_from_in (λ (p : KeptPage). P (at.page p.page.id)) kept.pages each))

  pub form_own_lists : HasOwnLists pages (reads_of at kept)
  form_own_lists =
      record {
        origins = of_origins (λ o. Lists OriginPages (At o) (owned_pages o) pages) origin_lists;
        some_page = of_origins (λ o. owned_pages o ≢ []) origin_used;
        visits = of_pages (λ s. Lists PageVisits (At s) (owned_visits s) pages) visit_lists;
        references = of_pages (λ s. Lists References (At s) (owned_references s) pages) reference_lists;
      }

  -- ---- the lists of visits

  pub form_target_lists : HasTargetLists pages (reads_of at kept)
  form_target_lists =
      record {
        slots = target_lists at kept targets;
        listed =
            all_listed pages at kept laid.rows.visits targets rows.targeted (reads_of at kept).visit_slots
            (reads_of at kept).visits refl refl (sources_there kept rows.well) laid.chains.targeted;
        first = all_redirects_first pages at kept laid.rows.visits targets rows.targeted;
      }

  -- ---- slots in no list

  source_says : (source : Option VisitId) → IfSome source (λ s. has_visit kept s ≡ true)
      → IfSome source (λ s. visit_in pages (at.visit s) ≡ Some s)
  source_says None has = tt
  source_says (Some s) has = visit_named at kept pages laid.rows s has

  own_says : (own : Option PageId) → IfSome own (λ id. has_page kept id ≡ true)
      → IfSome own (λ id. page_in pages (at.page id) ≡ Some id)
  own_says None has = tt
  own_says (Some id) has = page_named at kept pages laid.rows id has

  -- an item that was found says its id in its slot
  found_says : (found : Option TreeItem)
      → ((p : TreeItem) → found ≡ Some p → item_in pages (at.item p.id) ≡ Some p.id)
      → IfSome (option_map (λ (p : TreeItem). p.id) found) (λ c. item_in pages (at.item c) ≡ Some c)
  found_says None say = tt
  found_says (Some p) say = say p refl

  items_say : AllByRecursion (λ (i : TreeItem). item_in pages (at.item i.id) ≡ Some i.id) kept.items
  items_say =
      recursion_from_All (λ (i : TreeItem). item_in pages (at.item i.id) ≡ Some i.id) kept.items
      (λ k d within. ap (option_and_then item_id) (laid.rows.items k d within))

  parent_says : (id : ItemId) → IfSome (parent_of kept.items id) (λ c. item_in pages (at.item c) ≡ Some c)
  parent_says id =
      found_says (find (has_child id) kept.items)
      (λ p found.
      found_holds (λ (i : TreeItem). item_in pages (at.item i.id) ≡ Some i.id) (has_child id) kept.items p items_say
      found)

  visit_alone : (v : StoreVisit) → In v kept.visits → (visit_at at v).source.0 ≡ 0
      → IsAlone Targets (at.visit v.id) pages
  visit_alone v here zero =
      of_one (λ (w : StoreVisit). w.source ≡ None → IsAlone Targets (at.visit w.id) pages) kept.visits v
      laid.alone.visits here
      (none_named at.visit (visit_in pages) (no_visit pages) v.source
      (source_says v.source
      (of_one (λ (w : StoreVisit). IfSome w.source (λ s. has_visit kept s ≡ true)) kept.visits v
      (All-from_recursion (λ (w : StoreVisit). IfSome w.source (λ s. has_visit kept s ≡ true)) kept.visits
      (sources_there kept rows.well)) here)) zero)

  root_alone : (i : TreeItem) → In i kept.items → (item_at at kept.items i).parent.0 ≡ 0
      → IsAlone Children (at.item i.id) pages
  root_alone i here zero =
      of_one (λ (j : TreeItem). parent_of kept.items j.id ≡ None → IsAlone Children (at.item j.id) pages) kept.items i
      laid.alone.roots here
      (none_named at.item (item_in pages) (no_item pages) (parent_of kept.items i.id) (parent_says i.id) zero)

  other_alone : (i : TreeItem) → In i kept.items → (item_at at kept.items i).page.0 ≡ 0
      → IsAlone References (at.item i.id) pages
  other_alone i here zero =
      of_one (λ (j : TreeItem). j.page ≡ None → IsAlone References (at.item j.id) pages) kept.items i
      laid.alone.others here
      (none_named at.page (page_in pages) (no_page pages) i.page
      (own_says i.page (of_one (λ (j : TreeItem). IfSome j.page (λ id. has_page kept id ≡ true)) kept.items i rows.own
      here)) zero)

  -- what holds of each visit in its slot, and of each item
  of_visits : (P : VisitIn → Type 0) → ((v : StoreVisit) → In v kept.visits → P (at.visit v.id, visit_at at v))
      → All P (zip (reads_of at kept).visit_slots (reads_of at kept).visits)
  of_visits P each =
      subst (All P) (sym (zip_maps (λ (v : StoreVisit). at.visit v.id) (visit_at at) kept.visits))
      (All-from_recursion P (map (λ (v : StoreVisit). (at.visit v.id, visit_at at v)) kept.visits)
      (to_map P (λ (v : StoreVisit). (at.visit v.id, visit_at at v)) kept.visits
      (all_from_in (λ (v : StoreVisit). P (at.visit v.id, visit_at at v)) kept.visits each)))

  of_items : (P : ItemIn → Type 0)
      → ((i : TreeItem) → In i kept.items → P (at.item i.id, item_at at kept.items i))
      → All P (zip (reads_of at kept).item_slots (reads_of at kept).items)
  of_items P each =
      subst (λ (ss : List Slot). All P (zip ss (reads_of at kept).items))
      (sym (map-map at.item (λ (i : TreeItem). i.id) kept.items))
      (subst (All P) (sym (zip_maps (λ (i : TreeItem). at.item i.id) (item_at at kept.items) kept.items))
      (All-from_recursion P (map (λ (i : TreeItem). (at.item i.id, item_at at kept.items i)) kept.items)
      (to_map P (λ (i : TreeItem). (at.item i.id, item_at at kept.items i)) kept.items
      (all_from_in (λ (i : TreeItem). P (at.item i.id, item_at at kept.items i)) kept.items each))))

  pub form_lone_slots : HasLoneSlots pages (reads_of at kept)
  form_lone_slots =
      record {
        visits = of_visits (λ (v : VisitIn). v.1.source.0 ≡ 0 → IsAlone Targets v.0 pages) visit_alone;
        roots = of_items (λ (i : ItemIn). i.1.parent.0 ≡ 0 → IsAlone Children i.0 pages) root_alone;
        others = of_items (λ (i : ItemIn). i.1.page.0 ≡ 0 → IsAlone References i.0 pages) other_alone;
      }
