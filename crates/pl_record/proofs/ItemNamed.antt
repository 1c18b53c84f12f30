-- How the slots of a store are chained with an item more, which has the next id.
use Rattle.std.proofs.Common.{◌≡◌, ◌∙◌, ◌∷◌, ◌==◌, ◌+◌, ◌++◌, ◌||◌, ◌<◌, [], ℕ, All, Bool, List, None}
use Rattle.std.proofs.Common.{Option, Some, ap, arith, eq-eqb, eqb-true, false, filter, find, if◌then◌else◌}
use Rattle.std.proofs.Common.{IfSome, inl, inr, is_some, map, ne_eqb, refl, sym, true}
use Rattle.std.specs.List.{AllByRecursion, slice_index_or}
use Rattle.std.specs.Option.{option_map}
use Rattle.std.proofs.lemmas.Bool.{cases_Bool, true≢false}
use Rattle.std.proofs.lemmas.List.{map-append}
use Rattle.std.proofs.lemmas.List.Elements.{All-from_recursion, All-map, All-push, recursion_from_All}
use Rattle.pl_base.specs.declared.id.ItemId.{ItemId}
use Rattle.pl_base.specs.declared.id.PageId.{PageId}
use Rattle.pl_base.specs.declared.id.Slot.{Slot}
use Rattle.pl_base.specs.declared.id.VisitId.{VisitId}
use Rattle.pl_base.specs.declared.item.ItemRow.{ItemRow}
use Rattle.pl_base.specs.Rows.{Kept, KeptPage, has_page, page_at}
use Rattle.pl_base.specs.Store.{Item, Visit, item_id}
use Rattle.pl_base.specs.Tree.{adopted, adopting, has_item, inserted, is_page, new_item}
use Rattle.pl_base.specs.Tree.{put_behind, references}
use Rattle.pl_base.proofs.IdsLaws.{same_slot}
use Rattle.pl_base.proofs.ItemLookUps.{same_item}
use Rattle.pl_base.proofs.ListLaws.{All-from_map, all-filter, map-alike, map-map, to_map}
use Rattle.pl_base.proofs.ListLaws.{weaker}
use Rattle.pl_base.proofs.LookUps.{any_none, found_passes, found_self, found_some}
use Rattle.pl_base.proofs.PageLaws.{id_at, pages_apart}
use Rattle.pl_base.proofs.ReferencesRun.{items_found}
use Rattle.pl_base.proofs.Truths.{no_test}
use Rattle.pl_record.specs.declared.rows.Item.{Item as Row}
use Rattle.pl_record.specs.ChainMap.{AreApart, ChainMap, with_chain}
use Rattle.pl_record.specs.Chains.{item_slots}
use Rattle.pl_record.specs.Form.{AreRows}
use Rattle.pl_record.specs.ItemChanges.{InsertsItem, put_behind as slot_behind, with_child_slot}
use Rattle.pl_record.specs.ItemChanges.{with_item_slot, with_reference_slot}
use Rattle.pl_record.proofs.NamedSlots.{found_of, item_named, item_row_is, page_named, page_row_is, some_slot}
use Rattle.pl_record.specs.Records.{Layout, item_record, page_record}
use Rattle.pl_record.specs.Records.{slot_or_none}
use Rattle.pl_record.specs.Rows.{item_in, page_in}
use Rattle.pl_record.proofs.ChainMaps.{apart_beside, fresh_linkless, linkless_empty}
use Rattle.pl_record.proofs.Filled.{IsFilled}
use Rattle.pl_record.proofs.LaidChains.{NamesChains}
use Rattle.pl_record.proofs.RecordMaps.{held_record, record_live}
use Rattle.pl_rail.specs.declared.owner.Owner.{Owner}
use Rattle.pl_rail.specs.declared.owner.Owner.TheVariants.{At, Header}
use Rattle.pl_rail.specs.Rails.{none}
use Rattle.pl_sheets.specs.Sheets.{Pages}
use Rattle.pl_slot.specs.declared.kind.LiveKind.TheVariants as kinds
use Rattle.pl_slot.specs.declared.links.Rail.{Rail}
use Rattle.pl_slot.specs.declared.links.Rail.TheVariants.{Children, Live, OriginPages, PageVisits, References, Targets}
use Rattle.pl_slot.specs.Arena.{is_among, is_live}
use Rattle.pl_slot.specs.Links.{is_rail}
use Rattle.pl_record.proofs.OwnedChains.{owner_apart, owner_beside}

-- the layout in which an item lies in this slot, and its title in these
abbrev pub with_item_at : ItemId → Slot → List ℕ → Layout → Layout
with_item_at id slot text at =
    record at {
      item = λ i. if i.0 == id.0 then slot else at.item i;
      item_title = λ i. if i.0 == id.0 then text else at.item_title i;
    }

-- a new item with the slots of its parent and its page, and no title yet
abbrev pub slotted_new : Layout → ItemId → ItemRow → Row
slotted_new at id row =
    record {
      id = id;
      kind = row.kind;
      parent = slot_or_none at.item row.parent;
      page = slot_or_none at.page row.page;
      title = record { slot = none; length = 0 };
      added = row.added;
      modified = row.modified;
    }

-- a map with a reference more has the chains of other rails that it had
reference_beside : (i : Row) (slot : Slot) (chains : ChainMap) (r : Rail) (o : Owner) → is_rail r References ≡ false
    → with_reference_slot i slot chains r o ≡ chains r o
reference_beside i slot chains =
    owner_beside References i.page (chains References (At i.page) ++ slot ∷ []) chains (i.page.0 == 0)

reference_apart : (i : Row) (slot : Slot) (chains : ChainMap) (r : Rail) → is_rail r References ≡ false
    → AreApart r chains → AreApart r (with_reference_slot i slot chains)
reference_apart i slot chains =
    owner_apart References i.page (chains References (At i.page) ++ slot ∷ []) chains (i.page.0 == 0)

module _ (at : Layout) (kept : Kept) (targets : VisitId → List Visit) (row : ItemRow) (title : List ℕ)
    (after : Option ItemId) (slot : Slot) (old new : Pages) (rows : AreRows kept targets)
    (parent : ItemId) (parent_is : row.parent ≡ Some parent) (parent_there : has_item kept.items parent ≡ true)
    (page_there : IfSome row.page (λ page. has_page kept page ≡ true))
    (after_there : IfSome after (λ a. has_item kept.items a ≡ true))
    (filled : IsFilled at kept targets old)
    (of_page : (page : PageId) → references (inserted (item_id kept.ids.item) row title after kept.items) page
    ≡ (if is_page page row.page then references kept.items page ++ item_id kept.ids.item ∷ []
    else references kept.items page))
    (comes : InsertsItem (slotted_new at (item_id kept.ids.item) row) title (option_map at.item after) slot old new)
  where
    abbrev id : ItemId
    id = item_id kept.ids.item

    abbrev next : Item
    next = new_item id row title

    abbrev bt : Layout
    bt = with_item_at id slot comes.text at

    abbrev made : Row
    made = slotted_new at id row

    abbrev put : Option Slot
    put = option_map at.item after

    -- the items that are there, of which the parent has a child more
    abbrev grow : Item → Item
    grow i = record i { children = if i.id.0 == parent.0 then put_behind after id i.children else i.children }

    abbrev all : List Item
    all = map grow kept.items ++ next ∷ []

    abbrev with_all : List Item → Kept
    with_all items = record kept { ids = record kept.ids { item = kept.ids.item + 1 }; items = items }

    abbrev now : Kept
    now = with_all all

    pub all_is : inserted id row title after kept.items ≡ all
    all_is =
        ap (λ o. adopted o after id kept.items ++ next ∷ []) parent_is
        ∙ ap (λ items. items ++ next ∷ [])
        (map-alike (adopting parent after id) grow kept.items (λ i. choose i (i.id.0 == parent.0)))
      where
        choose : (i : Item) (b : Bool)
            → (if b then record i { children = put_behind after id i.children } else i)
            ≡ record i { children = if b then put_behind after id i.children else i.children }
        choose i true = refl
        choose i false = refl

    references_now : (page : PageId)
        → references all page
        ≡ (if is_page page row.page then references kept.items page ++ id ∷ [] else references kept.items page)
    references_now page = ap (λ items. references items page) (sym all_is) ∙ of_page page

    -- ---- no item has the id yet

    abbrev pub IsThere : ItemId → Type 0
    IsThere item = has_item kept.items item ≡ true

    pub apart : All (λ (i : Item). (i.id.0 == id.0) ≡ false) kept.items
    apart k d within =
        let i : Item = slice_index_or kept.items k d in
        let given : (0 < i.id.0) × (i.id.0 < kept.ids.item) =
        All-from_map (λ n. (0 < n) × (n < kept.ids.item)) (λ (j : Item). j.id.0) kept.items rows.well.item_ids.given
        k d within in
        ne_eqb i.id.0 id.0 (λ same. omega (arith, given.1, same))

    absent : has_item kept.items id ≡ false
    absent =
        any_none (λ (i : Item). i.id.0 == id.0) kept.items
        (recursion_from_All (λ (i : Item). (i.id.0 == id.0) ≡ false) kept.items apart)

    pub other : (item : ItemId) → IsThere item → (item.0 == id.0) ≡ false
    other item there =
        no_test (item.0 == id.0) (λ same.
        true≢false (sym there ∙ ap (λ n. has_item kept.items (record { 0 = n })) (eqb-true item.0 id.0 same) ∙ absent))

    pub each_there : AllByRecursion (λ (i : Item). IsThere i.id) kept.items
    each_there =
        weaker (λ (i : Item). find (λ (j : Item). j.id.0 == i.id.0) kept.items ≡ Some i) (λ (i : Item). IsThere i.id)
        kept.items (λ i found. found_some (λ (j : Item). j.id.0 == i.id.0) kept.items i found)
        (items_found kept rows.well)

    -- ---- where all stands

    itself : (id.0 == id.0) ≡ true
    itself = eq-eqb id.0 id.0 refl

    pub here : bt.item id ≡ slot
    here = ap (λ b. if b then slot else at.item id) itself

    pub item_same : (item : ItemId) → (item.0 == id.0) ≡ false → bt.item item ≡ at.item item
    item_same item beside = ap (λ b. if b then slot else at.item item) beside

    pub title_same : (item : ItemId) → (item.0 == id.0) ≡ false → bt.item_title item ≡ at.item_title item
    title_same item beside = ap (λ b. if b then comes.text else at.item_title item) beside

    pub title_here : bt.item_title id ≡ comes.text
    title_here = ap (λ b. if b then comes.text else at.item_title id) itself

    slots_same : (items : List ItemId) → AllByRecursion IsThere items → item_slots bt items ≡ item_slots at items
    slots_same [] there = refl
    slots_same (c ∷ cs) there = λ k. item_same c (other c there.0) k ∷ slots_same cs there.1 k

    pub or_none_same : (o : Option ItemId) → IfSome o IsThere → slot_or_none bt.item o ≡ slot_or_none at.item o
    or_none_same None there = refl
    or_none_same (Some item) there = item_same item (other item there)

    -- items in one slot are one, and so are pages
    same_there : (a b : ItemId) → IsThere a → IsThere b → at.item a ≡ at.item b → a ≡ b
    same_there a b first second same =
        let both : Some a ≡ Some b =
        sym (item_named at kept old filled.rows a first) ∙ ap (item_in old) same
        ∙ item_named at kept old filled.rows b second in
        cc

    same_page : (p q : PageId) → has_page kept p ≡ true → has_page kept q ≡ true → at.page p ≡ at.page q → p ≡ q
    same_page p q first second same =
        let both : Some p ≡ Some q =
        sym (page_named at kept old filled.rows p first) ∙ ap (page_in old) same
        ∙ page_named at kept old filled.rows q second in
        cc

    test_same : (a b : ItemId) → IsThere a → IsThere b → ((at.item a).0 == (at.item b).0) ≡ (a.0 == b.0)
    test_same a b first second = elim (cases_Bool (a.0 == b.0)) [
      | inl same ↦
          eq-eqb (at.item a).0 (at.item b).0 (ap (λ n. (at.item (record { 0 = n })).0) (eqb-true a.0 b.0 same))
          ∙ sym same
      | inr differs ↦
          no_test ((at.item a).0 == (at.item b).0) (λ same.
          true≢false (sym (eq-eqb a.0 b.0 (ap (λ (i : ItemId). i.0)
          (same_there a b first second
          (same_slot (at.item a) (at.item b) (eqb-true (at.item a).0 (at.item b).0 same))))) ∙ differs))
          ∙ sym differs
    ]

    is_fresh : is_live slot.0 old ≡ false
    is_fresh = comes.fresh slot.0 (ap (λ b. b || is_among slot.0 comes.text) (eq-eqb slot.0 slot.0 refl))

    -- ---- the children of its parent

    put_slots : (o : Option ItemId) → IfSome o IsThere → (cs : List ItemId) → AllByRecursion IsThere cs
        → slot_behind (option_map at.item o) slot (item_slots at cs) ≡ item_slots bt (put_behind o id cs)
    put_slots None known cs there = sym (λ k. here k ∷ slots_same cs there k)
    put_slots (Some a) known [] there = sym (ap (λ s. s ∷ []) here)
    put_slots (Some a) known (c ∷ cs) there =
        ap (λ b. if b then at.item c ∷ slot ∷ item_slots at cs
        else at.item c ∷ slot_behind (Some (at.item a)) slot (item_slots at cs)) (test_same c a there.0 known)
        ∙ choose (c.0 == a.0) (put_slots (Some a) known cs there.1)
      where
        choose : (b : Bool)
            → slot_behind (Some (at.item a)) slot (item_slots at cs) ≡ item_slots bt (put_behind (Some a) id cs)
            → (if b then at.item c ∷ slot ∷ item_slots at cs
            else at.item c ∷ slot_behind (Some (at.item a)) slot (item_slots at cs))
            ≡ item_slots bt (if b then c ∷ id ∷ cs else c ∷ put_behind (Some a) id cs)
        choose true rest = sym (λ k. item_same c (other c there.0) k ∷ here k ∷ slots_same cs there.1 k)
        choose false rest = λ k. sym (item_same c (other c there.0)) k ∷ rest k

    abbrev live : ChainMap
    live = with_chain Live (Header kinds.Item) (filled.chains Live (Header kinds.Item) ++ slot ∷ []) filled.chains

    abbrev child : ChainMap
    child = with_child_slot made.parent put slot live

    -- the children of a slot, by whether it is the parent's
    abbrev by_parent : Slot → Slot → Bool → List Slot
    by_parent p x is =
        if is then slot_behind put slot (filled.chains Children (At p)) else filled.chains Children (At x)

    child_at : (x : Slot)
        → child Children (At x) ≡ by_parent (at.item parent) x (x.0 == (at.item parent).0)
    child_at x =
        ap (λ (o : Option ItemId). by_parent (slot_or_none at.item o) x (x.0 == (slot_or_none at.item o).0)) parent_is

    grown_children : (i : Item) → IsThere i.id → AllByRecursion IsThere i.children
        → filled.chains Children (At (at.item i.id)) ≡ item_slots at i.children
        → child Children (At (at.item i.id)) ≡ item_slots bt (grow i).children
    grown_children i there known is =
        child_at (at.item i.id)
        ∙ ap (by_parent (at.item parent) (at.item i.id)) (test_same i.id parent there parent_there)
        ∙ choose (i.id.0 == parent.0) refl
      where
        choose : (b : Bool) → (i.id.0 == parent.0) ≡ b
            → by_parent (at.item parent) (at.item i.id) b
            ≡ item_slots bt (if b then put_behind after id i.children else i.children)
        choose true same =
            ap (λ n. slot_behind put slot (filled.chains Children (At (at.item (record { 0 = n })))))
            (sym (eqb-true i.id.0 parent.0 same))
            ∙ ap (slot_behind put slot) is ∙ put_slots after after_there i.children known
        choose false differs = is ∙ sym (slots_same i.children known)

    -- the slot of an item that is there is live
    item_live : (item : ItemId) → IsThere item → is_live (at.item item).0 old ≡ true
    item_live item there =
        let found = found_of (λ (i : Item). i.id.0 == item.0) kept.items there in
        let is : found.0.id ≡ item =
        same_item found.0.id item (found_passes (λ (i : Item). i.id.0 == item.0) kept.items found.0 found.1) in
        ap (λ (i : ItemId). is_live (at.item i).0 old) (sym is) ∙ record_live (at.item found.0.id).0 old
        ∙ ap is_some (held_record (item_record at kept.items found.0) old refl
        (item_row_is at kept old filled.rows item found.0 found.1))

    new_children : child Children (At slot) ≡ []
    new_children =
        child_at slot
        ∙ ap (by_parent (at.item parent) slot) (no_test (slot.0 == (at.item parent).0) (λ same.
        true≢false (sym (item_live parent parent_there)
        ∙ ap (λ n. is_live n old) (sym (eqb-true slot.0 (at.item parent).0 same)) ∙ is_fresh)))
        ∙ linkless_empty filled.chains old filled.are Children slot (fresh_linkless slot.0 old is_fresh)

    -- ---- the items of its page

    known_items : (page : PageId) → AllByRecursion IsThere (references kept.items page)
    known_items page =
        to_map IsThere (λ (i : Item). i.id) (filter (λ (i : Item). is_page page i.page) kept.items)
        (all-filter (λ (i : Item). IsThere i.id) (λ (i : Item). is_page page i.page) kept.items each_there)

    references_same : (page : PageId)
        → item_slots bt (references kept.items page) ≡ item_slots at (references kept.items page)
    references_same page = slots_same (references kept.items page) (known_items page)

    not_none : (page : PageId) → has_page kept page ≡ true → ((at.page page).0 == 0) ≡ false
    not_none page there =
        let found = found_of (λ (p : KeptPage). p.page.id.0 == page.0) kept.pages there in
        let is : found.0.page.id ≡ page = id_at kept page found.0 found.1 in
        ne_eqb (at.page page).0 0 (λ zero.
        some_slot (page_record at found.0) old (page_row_is at kept old filled.rows page found.0 found.1)
        (ap at.page is ∙ same_slot (at.page page) none zero))

    -- the items of a slot, by whether it is the page's
    abbrev by_page : Slot → Slot → Bool → List Slot
    by_page q x is =
        if is then filled.chains References (At q) ++ slot ∷ [] else filled.chains References (At x)

    abbrev chain_at : Slot → Owner → List Slot
    chain_at q owner =
        (if q.0 == 0 then child else with_chain References (At q) (child References (At q) ++ slot ∷ []) child)
        References owner

    abbrev list_at : Option PageId → PageId → List ItemId
    list_at o page = if is_page page o then references kept.items page ++ id ∷ [] else references kept.items page

    -- the slots of the items of a page, with the new one behind them or not
    abbrev with_it : PageId → Bool → List Slot
    with_it page is =
        item_slots bt (if is then references kept.items page ++ id ∷ [] else references kept.items page)

    page_items : (page : PageId) → has_page kept page ≡ true
        → filled.chains References (At (at.page page)) ≡ item_slots at (references kept.items page)
        → (o : Option PageId) → IfSome o (λ q. has_page kept q ≡ true)
        → chain_at (slot_or_none at.page o) (At (at.page page)) ≡ item_slots bt (list_at o page)
    page_items page there is None known = is ∙ sym (references_same page)
    page_items page there is (Some q) known =
        ap (λ (b : Bool). (if b then child
        else with_chain References (At (at.page q)) (child References (At (at.page q)) ++ slot ∷ []) child)
        References (At (at.page page))) (not_none q known)
        ∙ choose ((at.page page).0 == (at.page q).0) refl
      where
        choose : (b : Bool) → ((at.page page).0 == (at.page q).0) ≡ b
            → by_page (at.page q) (at.page page) b ≡ item_slots bt (list_at (Some q) page)
        choose true same =
            let one : page ≡ q =
            same_page page q there known
            (same_slot (at.page page) (at.page q) (eqb-true (at.page page).0 (at.page q).0 same)) in
            ap (λ (p : PageId). filled.chains References (At (at.page p)) ++ slot ∷ []) (sym one)
            ∙ ap (λ slots. slots ++ slot ∷ []) is
            ∙ sym (map-append bt.item (references kept.items page) (id ∷ [])
            ∙ (λ k. references_same page k ++ here k ∷ []))
            ∙ sym (ap (with_it page)
            (eq-eqb q.0 page.0 (ap (λ (p : PageId). p.0) (sym one))))
        choose false differs =
            is ∙ sym (references_same page)
            ∙ sym (ap (with_it page)
            (no_test (q.0 == page.0) (λ same.
            true≢false (sym (eq-eqb (at.page page).0 (at.page q).0
            (ap (λ n. (at.page (record { 0 = n })).0) (sym (eqb-true q.0 page.0 same)))) ∙ differs))))

    -- ---- all chains

    abbrev chains : ChainMap
    chains = with_item_slot made put slot filled.chains

    ids_now : map (λ (i : Item). i.id) all ≡ map (λ (i : Item). i.id) kept.items ++ id ∷ []
    ids_now =
        map-append (λ (i : Item). i.id) (map grow kept.items) (next ∷ [])
        ∙ ap (λ ids. ids ++ id ∷ []) (map-map (λ (i : Item). i.id) grow kept.items)

    pub all_of : (P : Item → Type 0) → All (λ (i : Item). P (grow i)) kept.items → P next → All P all
    all_of P each own = All-push P (map grow kept.items) next (All-map P grow kept.items each) own

    pub named : NamesChains bt now targets chains
    named =
        record {
          live_origins = reference_beside made slot child Live (Header kinds.Origin) refl ∙ filled.named.live_origins;
          live_places = reference_beside made slot child Live (Header kinds.Place) refl ∙ filled.named.live_places;
          live_visits = reference_beside made slot child Live (Header kinds.Visit) refl ∙ filled.named.live_visits;
          live_items =
              reference_beside made slot child Live (Header kinds.Item) refl
              ∙ (λ k. filled.named.live_items k ++ slot ∷ [])
              ∙ sym (ap (item_slots bt) ids_now
              ∙ map-append bt.item (map (λ (i : Item). i.id) kept.items) (id ∷ [])
              ∙ (λ k.
              slots_same (map (λ (i : Item). i.id) kept.items)
              (to_map IsThere (λ (i : Item). i.id) kept.items each_there) k
              ++ here k ∷ []));
          origins = λ k d within.
              reference_beside made slot child OriginPages (At (slice_index_or kept.origins k d).origin) refl
              ∙ filled.named.origins k d within;
          visits = λ k d within.
              let p : KeptPage = slice_index_or kept.pages k d in
              reference_beside made slot child PageVisits (At (at.page p.page.id)) refl
              ∙ filled.named.visits k d within;
          references = λ k d within.
              let p : KeptPage = slice_index_or kept.pages k d in
              page_items p.page.id
              (All-from_recursion (λ (q : KeptPage). has_page kept q.page.id ≡ true) kept.pages pages_there k d within)
              (filled.named.references k d within) row.page page_there
              ∙ sym (ap (item_slots bt) (references_now p.page.id));
          targeted = λ k d within.
              let v : Visit = slice_index_or kept.visits k d in
              reference_beside made slot child Targets (At (at.visit v.id)) refl ∙ filled.named.targeted k d within;
          children =
              all_of (λ (i : Item). chains Children (At (bt.item i.id)) ≡ item_slots bt i.children)
              (λ k d within.
              let i : Item = slice_index_or kept.items k d in
              reference_beside made slot child Children (At (bt.item i.id)) refl
              ∙ ap (λ s. child Children (At s)) (item_same i.id (apart k d within))
              ∙ grown_children i
              (All-from_recursion (λ (j : Item). IsThere j.id) kept.items each_there k d within)
              (recursion_from_All IsThere i.children (rows.children k d within)) (filled.named.children k d within))
              (reference_beside made slot child Children (At (bt.item id)) refl
              ∙ ap (λ s. child Children (At s)) here ∙ new_children);
        }
      where
        pages_there : AllByRecursion (λ (p : KeptPage). has_page kept p.page.id ≡ true) kept.pages
        pages_there =
            weaker (λ (p : KeptPage). page_at kept p.page.id ≡ Some p)
            (λ (p : KeptPage). has_page kept p.page.id ≡ true) kept.pages
            (λ p found. found_some (λ (q : KeptPage). q.page.id.0 == p.page.id.0) kept.pages p found)
            (found_self (λ (p : KeptPage). p.page.id.0) kept.pages (pages_apart kept rows.well))

    pub still_apart : AreApart OriginPages chains
    still_apart =
        reference_apart made slot child OriginPages refl
        (apart_beside Children (At made.parent) (slot_behind put slot (live Children (At made.parent))) live OriginPages
        refl
        (apart_beside Live (Header kinds.Item) (filled.chains Live (Header kinds.Item) ++ slot ∷ []) filled.chains
        OriginPages refl filled.apart))
