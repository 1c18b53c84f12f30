-- An item comes by a few calls: what these ask for, and what they leave of the rows.
use Rattle.std.proofs.Common.{◌≡◌, ◌∙◌, ◌∷◌, ◌++◌, ◌+◌, ◌<◌, ◌≤◌, ◌==◌, [], ℕ, All, Bool, List, None, Option, Some, ap}
use Rattle.std.proofs.Common.{arith, eq-eqb, false, find, IfSome, if◌then◌else◌, length, map}
use Rattle.std.proofs.Common.{ne_eqb, refl, subst, sym, true}
use Rattle.std.specs.List.{AllByRecursion}
use Rattle.std.specs.Option.{IsSomeAnd, option_and_then, option_map}
use Rattle.std.proofs.lemmas.List.Elements.{All-weaker, recursion_from_All}
use Rattle.pl_base.specs.declared.id.Ids.{Ids}
use Rattle.pl_base.specs.declared.id.ItemId.{ItemId}
use Rattle.pl_base.specs.declared.id.PageId.{PageId}
use Rattle.pl_base.specs.declared.id.Slot.{Slot}
use Rattle.pl_base.specs.declared.id.VisitId.{VisitId}
use Rattle.pl_base.specs.declared.item.ItemKind.TheVariants.{Folder}
use Rattle.pl_base.specs.declared.item.ItemRow.{ItemRow}
use Rattle.pl_base.specs.Good.{IsTitle, end_of_ids}
use Rattle.pl_base.specs.Live.{chunks, live_slots, slot_limit}
use Rattle.pl_base.specs.Rows.{Kept, has_page, live_with_item, store_of, with_item}
use Rattle.pl_base.specs.Store.{Item, Visit, item_id}
use Rattle.pl_base.specs.Tree.{IsFolder, has_child, has_item, item_at, new_item, parent_of}
use Rattle.pl_base.proofs.ItemLookUps.{same_item}
use Rattle.pl_base.proofs.ListLaws.{All-from_map, to_map}
use Rattle.pl_base.proofs.LookUps.{found_holds, found_passes, found_some}
use Rattle.pl_base.proofs.PageLaws.{id_at}
use Rattle.pl_base.proofs.ReferencesRun.{items_found}
use Rattle.pl_record.specs.declared.rows.Item.{Item as Row}
use Rattle.pl_record.specs.ChainMap.{AreApart, AreChains, ChainMap}
use Rattle.pl_record.specs.Chains.{item_slots}
use Rattle.pl_record.specs.ItemChanges.{InsertsItem, IsNextItem}
use Rattle.pl_record.specs.LinkedRows.{AreLinked, Entries, IsBaseOf, slot_at}
use Rattle.pl_record.proofs.NamedSlots.{found_all, found_of}
use Rattle.pl_record.specs.Records.{Layout, slot_or_none}
use Rattle.pl_record.specs.SlotChanges.{CountsItem}
use Rattle.pl_record.proofs.Bases.{base_kept, both_only}
use Rattle.pl_record.proofs.Filled.{filled, laid_out}
use Rattle.pl_record.proofs.FilledMoves.{filled_still}
use Rattle.pl_record.proofs.ItemAdded.{each_parent_still, item_added, item_live, items_added, parent_added}
use Rattle.pl_record.proofs.ItemAdded.{references_added}
use Rattle.pl_record.proofs.ItemChains.{children_apart, pageless_loose, parentless_loose, references_apart}
use Rattle.pl_record.proofs.ItemComes.{item_comes}
use Rattle.pl_record.proofs.ItemNamed.{slotted_new, with_item_at}
use Rattle.pl_record.proofs.ItemPut.{grown}
use Rattle.pl_record.proofs.ItemRowsTold.{item_found, item_kind, item_there}
use Rattle.pl_record.proofs.LaidChains.{chains_named, chains_of, laid_chains}
use Rattle.pl_record.proofs.LiveCounted.{live_counted, room_for}
use Rattle.pl_record.proofs.OneChains.{member_once}
use Rattle.pl_record.proofs.PageInserted.{ids_ends}
use Rattle.pl_record.proofs.PagesTold.{named_slot, page_found, page_missing}
use Rattle.pl_record.proofs.TitleSet.{live_ends}
use Rattle.pl_record.proofs.VisitHeld.{member_of}
use Rattle.pl_record.proofs.VisitsTold.{page_slot_kind}
use Rattle.pl_rail.specs.declared.owner.Owner.{Owner}
use Rattle.pl_rail.specs.declared.owner.Owner.TheVariants.{At}
use Rattle.pl_rail.specs.Rails.{HasMember, is_in, named, none, or_none}
use Rattle.pl_sheets.specs.Sheets.{ArePages, Pages}
use Rattle.pl_slot.specs.declared.kind.SlotKind.TheVariants as kinds
use Rattle.pl_slot.specs.declared.links.Rail.{Rail}
use Rattle.pl_slot.specs.declared.links.Rail.TheVariants.{Children, References}
use Rattle.pl_slot.specs.Arena.{header_of, header_page, live_count}
use Rattle.pl_slot.specs.Links.{kind_at}
use Rattle.pl_text.specs.Chunks.{chunk_count}
use Rattle.pl_record.proofs.ItemHeld.{among_items}

-- ---- members

pub members_once : (rail : Rail) (owner : Owner) (pages : Pages) (o : Option Slot)
    → IsProp (IfSome o (λ s. HasMember rail owner s pages))
members_once rail owner pages None a b = refl
members_once rail owner pages (Some slot) a b = member_once rail owner slot pages a b

-- ---- numbers of slots

number_is : (after before live chunks : ℕ) → live ≡ before → after ≡ before + 1 + chunks
    → live + (1 + chunks) ≡ after
number_is after before live chunks is more = omega (arith, is, more)

-- ---- the parent

-- a folder is there
pub folder_there : (items : List Item) (o : Option ItemId) → IsSomeAnd o (IsFolder items)
    → IfSome o (λ id. has_item items id ≡ true)
folder_there items None folder = tt
folder_there items (Some id) folder = choose (item_at items id) refl folder
  where
    choose : (o : Option Item) → item_at items id ≡ o → IsSomeAnd o (λ (i : Item). i.kind ≡ Folder)
        → has_item items id ≡ true
    choose None is folder = absurd folder
    choose (Some i) is folder = found_some (λ (j : Item). j.id.0 == id.0) items i is

-- an item that is a child of this one
pub record IsChildOf (items : List Item) (id parent : ItemId) : Type 0 where
  pub item : Item
  pub found : item_at items parent ≡ Some item
  pub among : has_child id item ≡ true

module _ (kept : Kept) (targets : VisitId → List Visit) (old : Pages) (pages visits items : Entries)
    (l : AreLinked kept targets old pages visits items) where
  pub child_of : (id parent : ItemId) → parent_of kept.items id ≡ Some parent → IsChildOf kept.items id parent
  child_of id parent is = choose (find (has_child id) kept.items) refl is
    where
      choose : (o : Option Item) → find (has_child id) kept.items ≡ o
          → option_map (λ (i : Item). i.id) o ≡ Some parent → IsChildOf kept.items id parent
      choose None found is = absurd (cc)
      choose (Some p) found is =
          let same : p.id ≡ parent = cc in
          record {
            item = p;
            found =
                ap (item_at kept.items) (sym same)
                ∙ found_holds (λ (i : Item). item_at kept.items i.id ≡ Some i) (has_child id) kept.items p
                (items_found kept l.rows.well) found;
            among = found_passes (has_child id) kept.items p found;
          }

  -- a child is an item
  pub child_there : (id parent : ItemId) → parent_of kept.items id ≡ Some parent → has_item kept.items id ≡ true
  child_there id parent is =
      let p = child_of id parent is in
      let c = found_of (λ (d : ItemId). d.0 == id.0) p.item.children p.among in
      let same : c.0 ≡ id =
      same_item c.0 id (found_passes (λ (d : ItemId). d.0 == id.0) p.item.children c.0 c.1) in
      subst (λ d. has_item kept.items d ≡ true) same
      (found_all (λ (d : ItemId). has_item kept.items d ≡ true) (λ (d : ItemId). d.0 == id.0) p.item.children c.0
      (found_all (λ (j : Item). All (λ d. has_item kept.items d ≡ true) j.children) (λ (j : Item). j.id.0 == parent.0)
      kept.items p.item l.rows.children p.found) c.1)

  pub after_there : (parent after : Option ItemId) → IsSomeAnd parent (IsFolder kept.items)
      → IfSome after (λ id. parent_of kept.items id ≡ parent) → IfSome after (λ id. has_item kept.items id ≡ true)
  after_there parent None folder behind = tt
  after_there None (Some id) folder behind = absurd folder
  after_there (Some parent) (Some id) folder behind = child_there id parent behind

  -- ---- slots of ids

  pub item_slot_of : (id : ItemId) → has_item kept.items id ≡ true → slot_at items id.0 ≡ Some (l.at.item id)
  item_slot_of id there =
      let s = item_there kept targets old pages visits items l id there in
      let f = item_found kept targets old pages visits items l id s.0 s.1 in
      s.1
      ∙ ap Some (sym f.here ∙ ap l.at.item (same_item f.row.id id
      (found_passes (λ (i : Item). i.id.0 == id.0) kept.items f.row f.there)))

  pub item_slots_of : (o : Option ItemId) → IfSome o (λ id. has_item kept.items id ≡ true)
      → option_and_then (λ (id : ItemId). slot_at items id.0) o ≡ option_map l.at.item o
  item_slots_of None there = refl
  item_slots_of (Some id) there = item_slot_of id there

  page_slots_of : (o : Option PageId) → IfSome o (λ id. has_page kept id ≡ true)
      → or_none (option_and_then (λ (id : PageId). slot_at pages id.0) o) ≡ slot_or_none l.at.page o
  page_slots_of None there = refl
  page_slots_of (Some id) there = choose (slot_at pages id.0) refl
    where
      choose : (o : Option Slot) → slot_at pages id.0 ≡ o → or_none o ≡ l.at.page id
      choose None is = absurd (page_missing kept targets old pages visits items l id there is)
      choose (Some slot) is =
          let f = page_found kept targets old pages visits items l id slot is in
          sym f.here ∙ ap l.at.page (id_at kept id f.row f.there)

  -- ---- what the calls ask for

  pub item_chains : (chains : ChainMap) × AreChains chains old × AreApart Children chains × AreApart References chains
  item_chains = (
    chains_of l.at kept targets,
    laid_chains l.at kept targets old l.rows l.laid,
    children_apart l.at kept targets old l.rows l.laid.rows,
    references_apart l.at kept targets old l.rows l.laid.rows,
  )

  pub item_room : (row : ItemRow) (title : List ℕ) (after : Option ItemId)
      → live_with_item row title after kept ≤ slot_limit → live_count old + 1 + chunks title ≤ slot_limit
  item_room row title after few =
      room_for (live_with_item row title after kept) (live_slots (store_of kept)) (live_count old) (chunks title)
      (live_counted l.at kept targets old l.rows l.laid) (item_live row title after kept) few

  -- a child's slot is a member of its parent's chain
  pub child_member : (id parent : ItemId) → parent_of kept.items id ≡ Some parent
      → HasMember Children (At (l.at.item parent)) (l.at.item id) old
  child_member id parent is =
      let p = child_of id parent is in
      let before = chains_of l.at kept targets in
      let same : p.item.id ≡ parent =
      same_item p.item.id parent (found_passes (λ (i : Item). i.id.0 == parent.0) kept.items p.item p.found) in
      let chain : before Children (At (l.at.item parent)) ≡ item_slots l.at p.item.children =
      ap (λ (c : ItemId). before Children (At (l.at.item c))) (sym same)
      ∙ found_all (λ (i : Item). before Children (At (l.at.item i.id)) ≡ item_slots l.at i.children)
      (λ (i : Item). i.id.0 == parent.0) kept.items p.item
      (chains_named l.at kept targets old l.laid.rows l.rows.well).children p.found in
      member_of before old (laid_chains l.at kept targets old l.rows l.laid) Children (At (l.at.item parent))
      (l.at.item id) (ap (is_in (l.at.item id)) chain ∙ among_items l.at id p.item.children p.among)

  after_member : (parent : ItemId) (after : Option ItemId)
      → IfSome after (λ id. parent_of kept.items id ≡ Some parent)
      → IfSome (option_map l.at.item after) (λ s. HasMember Children (At (l.at.item parent)) s old)
  after_member parent None behind = tt
  after_member parent (Some id) behind = child_member id parent behind

  module _ (row : ItemRow) (title : List ℕ) (after : Option ItemId)
      (folder : IsSomeAnd row.parent (IsFolder kept.items))
      (behind : IfSome after (λ id. parent_of kept.items id ≡ row.parent))
      (own_page : IfSome row.page (λ id. has_page kept id ≡ true)) (i : Row) (next : IsNextItem row pages items old i)
      (put : Option Slot) (told : put ≡ option_and_then (λ (id : ItemId). slot_at items id.0) after) where
    -- ---- the item with its slots

    number : i.id.0 ≡ kept.ids.item
    number = next.id ∙ ap (λ (ids : Ids). ids.item) l.laid.header.ids

    pub item_number : i.id.0 ≡ kept.ids.item
    item_number = number

    given_parent : (parent : ItemId) × (row.parent ≡ Some parent)
    given_parent = choose row.parent refl folder
      where
        choose : (o : Option ItemId) → row.parent ≡ o → IsSomeAnd o (IsFolder kept.items)
            → (parent : ItemId) × (row.parent ≡ Some parent)
        choose None is folder = absurd folder
        choose (Some parent) is folder = (parent, is)

    abbrev parent : ItemId
    parent = given_parent.0

    parent_there : has_item kept.items parent ≡ true
    parent_there =
        subst (λ o. IfSome o (λ id. has_item kept.items id ≡ true)) given_parent.1
        (folder_there kept.items row.parent folder)

    behind_there : IfSome after (λ id. has_item kept.items id ≡ true)
    behind_there = after_there row.parent after folder behind

    parent_slot : i.parent ≡ l.at.item parent
    parent_slot =
        next.parent ∙ ap (λ o. or_none (option_and_then (λ (id : ItemId). slot_at items id.0) o)) given_parent.1
        ∙ ap or_none (item_slot_of parent parent_there)

    page_slot : i.page ≡ slot_or_none l.at.page row.page
    page_slot = next.page ∙ page_slots_of row.page own_page

    put_is : put ≡ option_map l.at.item after
    put_is = told ∙ item_slots_of after behind_there

    -- ---- what the call asks for

    pub item_last : AllByRecursion (λ (e : ℕ × Slot). e.0 < i.id.0) items
    item_last =
        subst (λ n. AllByRecursion (λ (e : ℕ × Slot). e.0 < n) items) (sym number)
        (subst (AllByRecursion (λ (e : ℕ × Slot). e.0 < kept.ids.item)) (sym l.indexed.items)
        (to_map (λ (e : ℕ × Slot). e.0 < kept.ids.item) (λ (j : Item). (j.id.0, l.at.item j.id)) kept.items
        (recursion_from_All (λ (j : Item). j.id.0 < kept.ids.item) kept.items
        (All-weaker (λ (j : Item). (0 < j.id.0) × (j.id.0 < kept.ids.item)) (λ (j : Item). j.id.0 < kept.ids.item)
        (λ j given. given.1) kept.items
        (All-from_map (λ n. (0 < n) × (n < kept.ids.item)) (λ (j : Item). j.id.0) kept.items
        l.rows.well.item_ids.given)))))

    pub item_parent_kind : kind_at i.parent.0 old ≡ Some kinds.Item
    item_parent_kind =
        ap (λ (s : Slot). kind_at s.0 old) parent_slot
        ∙ item_kind kept targets old pages visits items l parent (l.at.item parent) (item_slot_of parent parent_there)

    pub item_page_kind : IfSome (named i.page) (λ s. kind_at s.0 old ≡ Some kinds.Place)
    item_page_kind =
        subst (λ s. IfSome (named s) (λ t. kind_at t.0 old ≡ Some kinds.Place)) (sym page_slot)
        (choose row.page own_page)
      where
        choose : (o : Option PageId) → IfSome o (λ id. has_page kept id ≡ true)
            → IfSome (named (slot_or_none l.at.page o)) (λ t. kind_at t.0 old ≡ Some kinds.Place)
        choose None there = tt
        choose (Some id) there =
            let kind = page_slot_kind kept targets old pages visits items l id there in
            subst (λ o. IfSome o (λ t. kind_at t.0 old ≡ Some kinds.Place))
            (sym (named_slot (l.at.page id) kinds.Place old kind)) kind

    pub item_after : IfSome put (λ s. HasMember Children (At i.parent) s old)
    item_after =
        subst (λ o. IfSome o (λ s. HasMember Children (At i.parent) s old)) (sym put_is)
        (subst (λ p. IfSome (option_map l.at.item after) (λ s. HasMember Children (At p) s old)) (sym parent_slot)
        (after_member parent after
        (subst (λ o. IfSome after (λ id. parent_of kept.items id ≡ o)) given_parent.1 behind)))

    -- ---- what it leaves

    module _ (room : kept.ids.item < end_of_ids) (fits : live_with_item row title after kept ≤ slot_limit) (slot : Slot)
        (a : Pages) (inserts : InsertsItem i title put slot old a) where
      ids_were : (header_of a).ids ≡ kept.ids
      ids_were = inserts.body.ids ∙ l.laid.header.ids

      live_was : (header_of a).live ≡ live_slots (store_of kept)
      live_was = inserts.body.live ∙ l.laid.header.live

      pub item_next_id : (header_of a).ids.item + 1 ≤ end_of_ids
      item_next_id = omega (arith, ap (λ (ids : Ids). ids.item) ids_were, room)

      pub item_next_live : (header_of a).live + 1 + chunk_count (length title) ≤ slot_limit
      item_next_live =
          room_for (live_with_item row title after kept) (live_slots (store_of kept)) (header_of a).live (chunks title)
          live_was (item_live row title after kept) fits

      abbrev id : ItemId
      id = item_id kept.ids.item

      abbrev whole : Kept
      whole = with_item row title after kept

      -- the item before its title is in its slots
      abbrev bare : Row
      bare = record i { title = record { slot = none; length = 0 } }

      same : bare ≡ slotted_new l.at id row
      same =
          λ k.
          record {
            id = record { 0 = number k };
            kind = next.kind k;
            parent = (parent_slot ∙ sym (ap (slot_or_none l.at.item) given_parent.1)) k;
            page = page_slot k;
            title = record { slot = none; length = 0 };
            added = next.added k;
            modified = next.modified k;
          }

      comes : InsertsItem (slotted_new l.at id row) title (option_map l.at.item after) slot old a
      comes =
          subst (λ o. InsertsItem (slotted_new l.at id row) title o slot old a) put_is
          (subst (λ j. InsertsItem j title put slot old a) same
          (record {
            text = inserts.text;
            fresh = inserts.fresh;
            apart = inserts.apart;
            row = inserts.row;
            held = inserts.held;
            others = inserts.others;
            chains = inserts.chains;
            alone = inserts.alone;
            own = inserts.own;
            count = inserts.count;
            body = inserts.body;
            longer = inserts.longer;
            these = inserts.these;
            pages = inserts.pages;
          }))

      apart : AllByRecursion (λ (j : Item). (j.id.0 == id.0) ≡ false) kept.items
      apart =
          recursion_from_All (λ (j : Item). (j.id.0 == id.0) ≡ false) kept.items
          (All-weaker (λ (j : Item). (0 < j.id.0) × (j.id.0 < kept.ids.item)) (λ (j : Item). (j.id.0 == id.0) ≡ false)
          (λ j given. ne_eqb j.id.0 id.0 (λ same. omega (arith, given.1, same))) kept.items
          (All-from_map (λ n. (0 < n) × (n < kept.ids.item)) (λ (j : Item). j.id.0) kept.items
          l.rows.well.item_ids.given))

      abbrev at : Layout
      at = with_item_at id slot comes.text l.at

      entries_more : (js : List Item) → AllByRecursion (λ (j : Item). (j.id.0 == id.0) ≡ false) js
          → map {B = ℕ × Slot} (λ (j : Item). (j.id.0, at.item j.id))
          (map (grown row.parent after id) js ++ new_item id row title ∷ [])
          ≡ map {B = ℕ × Slot} (λ (j : Item). (j.id.0, l.at.item j.id)) js ++ (id.0, slot) ∷ []
      entries_more [] all =
          ap (λ (b : Bool). (id.0, if b then slot else l.at.item id) ∷ []) (eq-eqb id.0 id.0 refl)
      entries_more (j ∷ js) all =
          λ k.
          (j.id.0, ap (λ (b : Bool). if b then slot else l.at.item j.id) all.0 k)
          ∷ entries_more js all.1 k

      pub item_moves : IsTitle title → (c : Pages) → CountsItem (1 + chunk_count (length title)) a c → (js : Entries)
          → js ≡ items ++ (i.id.0, slot) ∷ [] → AreLinked whole targets c pages visits js
      unfolding filled
      item_moves own c counts js is =
          let placed =
          item_comes l.at kept targets row title after slot old a l.rows parent given_parent.1 parent_there own_page
          behind_there (filled l.at kept targets old l.rows l.laid)
          (children_apart l.at kept targets old l.rows l.laid.rows)
          (references_apart l.at kept targets old l.rows l.laid.rows)
          (parentless_loose l.at kept targets old l.rows l.laid.rows)
          (pageless_loose l.at kept targets old l.rows l.laid.rows)
          (each_parent_still row title after kept l.rows.well)
          (parent_added row title after kept l.rows.well l.rows.children folder) (references_added row title after kept)
          comes in
          let named = filled_still at whole targets a counts.middle placed
          (ids_ends (record (header_of a).ids { item = (header_of a).ids.item + 1 }) a counts.middle counts.ids)
          counts.ids.rows in
          let counted = filled_still at whole targets counts.middle c named
          (live_ends ((header_of a).live + (1 + chunk_count (length title))) counts.middle c counts.live)
          counts.live.rows in
          record {
            at = at;
            rows = item_added row title after kept targets l.rows own_page own room fits;
            laid =
                laid_out at whole targets c counted counts.arena
                (record {
                  form =
                      ap (λ h. h.form) counts.live.header ∙ ap (λ h. h.form) counts.ids.header ∙ inserts.body.form
                      ∙ l.laid.header.form;
                  day =
                      ap (λ h. h.day) counts.live.header ∙ ap (λ h. h.day) counts.ids.header ∙ inserts.body.day
                      ∙ l.laid.header.day;
                  ids =
                      ap (λ h. h.ids) counts.live.header ∙ ap (λ h. h.ids) counts.ids.header
                      ∙ ap (λ (ids : Ids). record ids { item = ids.item + 1 }) ids_were;
                  live =
                      ap (λ h. h.live) counts.live.header
                      ∙ number_is (live_with_item row title after kept) (live_slots (store_of kept)) (header_of a).live
                      (chunks title) live_was (item_live row title after kept);
                  rest =
                      ap (λ h. h.rest) counts.live.header ∙ ap (λ h. h.rest) counts.ids.header ∙ inserts.body.rest
                      ∙ l.laid.header.rest;
                });
            indexed = record {
              pages = l.indexed.pages;
              visits = l.indexed.visits;
              items =
                  is ∙ (λ k. l.indexed.items k ++ (number k, slot) ∷ [])
                  ∙ sym (ap (map {B = ℕ × Slot} (λ (j : Item). (j.id.0, at.item j.id)))
                  (items_added row title after kept)
                  ∙ entries_more kept.items apart);
            };
          }

-- ---- pages

module _ (i : Row) (title : List ℕ) (put : Option Slot) (slot : Slot) (old a c : Pages)
    (inserts : InsertsItem i title put slot old a) (counts : CountsItem (1 + chunk_count (length title)) a c) where
  pub item_base : ArePages old → (bytes : List ℕ) → IsBaseOf old bytes → IsBaseOf c bytes
  item_base are =
      base_kept (inserts.these ++ header_page ∷ []) old c are
      (both_only inserts.these (header_page ∷ []) old a c inserts.longer inserts.pages counts.pages)
