-- What the slots of a store hold, and how they are chained, with an item more, which has the next
-- id.
use Rattle.std.proofs.Common.{◌≡◌, ◌∙◌, ◌∷◌, ◌==◌, ◌+◌, ◌++◌, ◌<◌, ◌≤◌, [], ℕ, All, List, None}
use Rattle.std.proofs.Common.{Option, Some, ap, arith, eqb, false, find, if◌then◌else◌}
use Rattle.std.proofs.Common.{IfSome, inl, inr, is_some, length, map, refl, subst, sym, true}
use Rattle.std.specs.List.{AllByRecursion, slice_index_or}
use Rattle.std.specs.Option.{option_map}
use Rattle.std.proofs.lemmas.Bool.{cases_eq, true≢false}
use Rattle.std.proofs.lemmas.List.Sums.{sum_by-append, sum_by-cons}
use Rattle.pl_base.specs.declared.id.ItemId.{ItemId}
use Rattle.pl_base.specs.declared.id.PageId.{PageId}
use Rattle.pl_base.specs.declared.id.Slot.{Slot}
use Rattle.pl_base.specs.declared.id.VisitId.{VisitId}
use Rattle.pl_base.specs.declared.item.ItemRow.{ItemRow}
use Rattle.pl_base.specs.Rows.{Kept, has_page, with_item}
use Rattle.pl_base.specs.Store.{Item, Visit, item_id}
use Rattle.pl_base.specs.Tree.{has_child, has_item, inserted, is_page, new_item, parent_of}
use Rattle.pl_base.specs.Tree.{put_behind, references}
use Rattle.pl_base.proofs.KeyCounts.{count-append, count-cons, tick, tick_other, tick_same}
use Rattle.pl_base.proofs.ListLaws.{sum_by-agree, sum_by-map}
use Rattle.pl_base.proofs.LookUps.{found_holds}
use Rattle.pl_record.specs.declared.rows.Item.{Item as Row}
use Rattle.pl_record.specs.ChainMap.{AreApart, ChainMap, IsLoose}
use Rattle.pl_record.specs.Chains.{HasAlone, IsAlone}
use Rattle.pl_record.specs.Form.{AreRows}
use Rattle.pl_record.specs.ItemChanges.{InsertsItem}
use Rattle.pl_record.specs.ItemChanges.{with_item_slot}
use Rattle.pl_record.specs.Records.{HoldsRow, HoldsRows, HoldsTexts, Layout, Record, item_record}
use Rattle.pl_record.specs.Records.{slot_or_none}
use Rattle.pl_record.specs.Rows.{record_at}
use Rattle.pl_record.proofs.Filled.{IsFilled}
use Rattle.pl_record.proofs.LaidChains.{NamesChains}
use Rattle.pl_record.proofs.RecordMaps.{record_held}
use Rattle.pl_record.proofs.RowsBeside.{held_few, kinds_times, once_more, rows_beside, same_before, texts_beside}
use Rattle.pl_record.proofs.SlotCounts.{none_times, slot_times, times}
use Rattle.pl_rail.specs.Rails.{none}
use Rattle.pl_sheets.specs.Sheets.{Pages}
use Rattle.pl_slot.specs.declared.links.Rail.TheVariants.{Children, OriginPages, References, Targets}
use Rattle.pl_slot.specs.declared.row.SlotRow.TheVariants as rows_of
use Rattle.pl_slot.specs.Arena.{first_in, is_among}
use Rattle.pl_text.specs.Chunks.{Hold}
use Rattle.pl_record.proofs.ItemNamed as before
use Rattle.pl_record.proofs.ItemNamed.{slotted_new, with_item_at}

module _ (at : Layout) (kept : Kept) (targets : VisitId → List Visit) (row : ItemRow) (title : List ℕ)
    (after : Option ItemId) (slot : Slot) (old new : Pages) (rows : AreRows kept targets)
    (parent : ItemId) (parent_is : row.parent ≡ Some parent) (parent_there : has_item kept.items parent ≡ true)
    (page_there : IfSome row.page (λ page. has_page kept page ≡ true))
    (after_there : IfSome after (λ a. has_item kept.items a ≡ true))
    (filled : IsFilled at kept targets old)
    (children_apart : AreApart Children filled.chains) (references_apart : AreApart References filled.chains)
    (lone_roots : All (λ (i : Item). parent_of kept.items i.id ≡ None → IsLoose Children (at.item i.id) filled.chains)
    kept.items)
    (lone_others : All (λ (i : Item). i.page ≡ None → IsLoose References (at.item i.id) filled.chains) kept.items)
    (parents : All (λ (i : Item). parent_of (inserted (item_id kept.ids.item) row title after kept.items) i.id
    ≡ parent_of kept.items i.id) kept.items)
    (own_parent : parent_of (inserted (item_id kept.ids.item) row title after kept.items) (item_id kept.ids.item)
    ≡ row.parent)
    (of_page : (page : PageId) → references (inserted (item_id kept.ids.item) row title after kept.items) page
    ≡ (if is_page page row.page then references kept.items page ++ item_id kept.ids.item ∷ []
    else references kept.items page))
    (comes : InsertsItem (slotted_new at (item_id kept.ids.item) row) title (option_map at.item after) slot old new)
  where
    abbrev id : ItemId
    id = item_id kept.ids.item

    abbrev next : Item
    next = new_item id row title

    abbrev bt : Layout
    bt = with_item_at id slot comes.text at

    abbrev made : Row
    made = slotted_new at id row

    abbrev put : Option Slot
    put = option_map at.item after

    abbrev chains : ChainMap
    chains = with_item_slot made put slot filled.chains

    -- the items that are there, of which the parent has a child more
    abbrev grow : Item → Item
    grow i = record i { children = if i.id.0 == parent.0 then put_behind after id i.children else i.children }

    abbrev all : List Item
    all = map grow kept.items ++ next ∷ []

    abbrev with_all : List Item → Kept
    with_all items = record kept { ids = record kept.ids { item = kept.ids.item + 1 }; items = items }

    abbrev now : Kept
    now = with_all all

    abbrev IsThere : ItemId → Type 0
    IsThere item = has_item kept.items item ≡ true

    -- ---- where all stands

    all_is : inserted id row title after kept.items ≡ all
    all_is =
        before.all_is at kept targets row title after slot old new rows parent parent_is parent_there page_there
        after_there filled of_page comes

    apart : All (λ (i : Item). (i.id.0 == id.0) ≡ false) kept.items
    apart =
        before.apart at kept targets row title after slot old new rows parent parent_is parent_there page_there
        after_there filled of_page comes

    other : (item : ItemId) → IsThere item → (item.0 == id.0) ≡ false
    other =
        before.other at kept targets row title after slot old new rows parent parent_is parent_there page_there
        after_there filled of_page comes

    each_there : AllByRecursion (λ (i : Item). IsThere i.id) kept.items
    each_there =
        before.each_there at kept targets row title after slot old new rows parent parent_is parent_there page_there
        after_there filled of_page comes

    here : bt.item id ≡ slot
    here =
        before.here at kept targets row title after slot old new rows parent parent_is parent_there page_there
        after_there filled of_page comes

    item_same : (item : ItemId) → (item.0 == id.0) ≡ false → bt.item item ≡ at.item item
    item_same =
        before.item_same at kept targets row title after slot old new rows parent parent_is parent_there page_there
        after_there filled of_page comes

    title_same : (item : ItemId) → (item.0 == id.0) ≡ false → bt.item_title item ≡ at.item_title item
    title_same =
        before.title_same at kept targets row title after slot old new rows parent parent_is parent_there page_there
        after_there filled of_page comes

    title_here : bt.item_title id ≡ comes.text
    title_here =
        before.title_here at kept targets row title after slot old new rows parent parent_is parent_there page_there
        after_there filled of_page comes

    or_none_same : (o : Option ItemId) → IfSome o IsThere → slot_or_none bt.item o ≡ slot_or_none at.item o
    or_none_same =
        before.or_none_same at kept targets row title after slot old new rows parent parent_is parent_there page_there
        after_there filled of_page comes

    all_of : (P : Item → Type 0) → All (λ (i : Item). P (grow i)) kept.items → P next → All P all
    all_of =
        before.all_of at kept targets row title after slot old new rows parent parent_is parent_there page_there
        after_there filled of_page comes

    named : NamesChains bt now targets chains
    named =
        before.named at kept targets row title after slot old new rows parent parent_is parent_there page_there
        after_there filled of_page comes

    still_apart : AreApart OriginPages chains
    still_apart =
        before.still_apart at kept targets row title after slot old new rows parent parent_is parent_there page_there
        after_there filled of_page comes

    parents_now : (k : ℕ) (d : Item) → k < length kept.items
        → parent_of all (slice_index_or kept.items k d).id ≡ parent_of kept.items (slice_index_or kept.items k d).id
    parents_now k d within =
        ap (λ items. parent_of items (slice_index_or kept.items k d).id) (sym all_is) ∙ parents k d within

    own_parent_now : parent_of all id ≡ Some parent
    own_parent_now = ap (λ items. parent_of items id) (sym all_is) ∙ own_parent ∙ parent_is

    -- ---- rows and texts

    still : (n : ℕ) → 1 ≤ slot_times at kept n → record_at n new ≡ record_at n old
    still = same_before at kept (slot.0 ∷ comes.text) old new filled.rows filled.texts comes.fresh comes.others

    abbrev of_item : Item → Slot → Slot → Slot → Record
    of_item i at_slot above text =
        record {
          slot = at_slot;
          row = rows_of.Item i.kind none none i.id above none none none none (slot_or_none at.page i.page) none none
              text (length i.title) i.added i.modified;
        }

    parent_known : (o : Option Item) → ((i : Item) → o ≡ Some i → IsThere i.id)
        → IfSome (option_map (λ (i : Item). i.id) o) IsThere
    parent_known None known = tt
    parent_known (Some i) known = known i refl

    above_same : (item : ItemId)
        → slot_or_none bt.item (parent_of kept.items item) ≡ slot_or_none at.item (parent_of kept.items item)
    above_same item =
        or_none_same (parent_of kept.items item)
        (parent_known (find (has_child item) kept.items)
        (λ i found. found_holds (λ (j : Item). IsThere j.id) (has_child item) kept.items i each_there found))

    held : HoldsRows bt now new
    held =
        let before : HoldsRows at kept new = rows_beside at kept old new still filled.rows in
        record {
          origins = before.origins;
          places = before.places;
          visits = before.visits;
          items =
              all_of (λ (i : Item). HoldsRow (item_record bt all i) new)
              (λ k d within.
              let i : Item = slice_index_or kept.items k d in
              subst (λ r. HoldsRow r new)
              (sym (λ j. of_item i (item_same i.id (apart k d within) j)
              ((ap (slot_or_none bt.item) (parents_now k d within) ∙ above_same i.id) j)
              (first_in (title_same i.id (apart k d within) j))))
              (before.items k d within))
              (subst (λ r. HoldsRow r new)
              (sym (λ j. of_item next (here j)
              ((ap (slot_or_none bt.item) own_parent_now ∙ item_same parent (other parent parent_there)
              ∙ sym (ap (slot_or_none at.item) parent_is)) j)
              (first_in (title_here j))))
              (record_held (of_item next slot (slot_or_none at.item row.parent) (first_in comes.text)) new comes.row));
        }

    texts : HoldsTexts bt now new
    texts =
        let before : HoldsTexts at kept new = texts_beside at kept old new still filled.texts in
        record {
          urls = before.urls;
          titles = before.titles;
          item_titles =
              all_of (λ (i : Item). Hold (bt.item_title i.id) i.title new)
              (λ k d within.
              let i : Item = slice_index_or kept.items k d in
              subst (λ ns. Hold ns i.title new) (sym (title_same i.id (apart k d within)))
              (before.item_titles k d within))
              (subst (λ ns. Hold ns title new) (sym title_here) comes.held);
        }

    -- ---- each slot has one

    few : (n : ℕ) → times n (slot.0 ∷ comes.text) ≤ 1
    few n = elim (cases_eq slot.0 n) [
      | inl is ↦
          omega (
            arith,
            count-cons (λ (m : ℕ). m) n slot.0 comes.text,
            tick_same slot.0 n is,
            none_times n comes.text (ap (λ k. is_among k comes.text) (sym is) ∙ comes.apart),
          )
      | inr beside ↦
          omega (
            arith,
            count-cons (λ (m : ℕ). m) n slot.0 comes.text,
            tick_other slot.0 n beside,
            held_few comes.text title new comes.held n,
          )
    ]

    more : (n : ℕ) → slot_times bt now n ≡ slot_times at kept n + times n (slot.0 ∷ comes.text)
    more n =
        omega (
          arith,
          kinds_times at kept n,
          kinds_times bt now n,
          count-append (λ (i : Item). (bt.item i.id).0) n (map grow kept.items) (next ∷ []),
          sum_by-map (λ (i : Item). tick (eqb (bt.item i.id).0 n)) grow kept.items,
          sum_by-agree (λ (i : Item). tick (eqb (bt.item i.id).0 n)) (λ (i : Item). tick (eqb (at.item i.id).0 n))
              kept.items
              (λ k d within.
              ap (λ (s : Slot). tick (eqb s.0 n)) (item_same (slice_index_or kept.items k d).id (apart k d within))),
          count-cons (λ (i : Item). (bt.item i.id).0) n next [],
          ap (λ (s : Slot). tick (eqb s.0 n)) here,
          sum_by-append (λ (i : Item). times n (bt.item_title i.id)) (map grow kept.items) (next ∷ []),
          sum_by-map (λ (i : Item). times n (bt.item_title i.id)) grow kept.items,
          sum_by-agree (λ (i : Item). times n (bt.item_title i.id)) (λ (i : Item). times n (at.item_title i.id))
              kept.items
              (λ k d within. ap (times n) (title_same (slice_index_or kept.items k d).id (apart k d within))),
          sum_by-cons (λ (i : Item). times n (bt.item_title i.id)) next [],
          ap (times n) title_here,
          count-cons (λ (m : ℕ). m) n slot.0 comes.text,
        )

    -- ---- slots that stand alone

    alone : HasAlone bt now new
    alone =
        record {
          visits = λ k d within none.
              comes.alone filled.chains filled.are Targets (at.visit (slice_index_or kept.visits k d).id) refl
              (λ is. absurd (true≢false (sym is))) (λ is. absurd (true≢false (sym is)))
              (filled.alone.visits k d within none);
          roots =
              all_of (λ (i : Item). parent_of all i.id ≡ None → IsAlone Children (bt.item i.id) new)
              (λ k d within none.
              let root = sym (parents_now k d within) ∙ none in
              subst (λ s. IsAlone Children s new)
              (sym (item_same (slice_index_or kept.items k d).id (apart k d within)))
              (comes.alone filled.chains filled.are Children (at.item (slice_index_or kept.items k d).id) refl
              (λ _. lone_roots k d within root) (λ is. absurd (true≢false (sym is)))
              (filled.alone.roots k d within root)))
              (λ none. absurd (true≢false (sym (ap is_some (sym none ∙ own_parent_now)))));
          others =
              all_of (λ (i : Item). i.page ≡ None → IsAlone References (bt.item i.id) new)
              (λ k d within none.
              subst (λ s. IsAlone References s new)
              (sym (item_same (slice_index_or kept.items k d).id (apart k d within)))
              (comes.alone filled.chains filled.are References (at.item (slice_index_or kept.items k d).id) refl
              (λ is. absurd (true≢false (sym is))) (λ _. lone_others k d within none)
              (filled.alone.others k d within none)))
              (λ none. subst (λ s. IsAlone References s new) (sym here)
              (comes.own (ap (λ o. (slot_or_none at.page o).0) none)));
        }

    pub item_comes : IsFilled (with_item_at (item_id kept.ids.item) slot comes.text at)
        (with_item row title after kept) targets new
    item_comes =
        subst (λ items. IsFilled bt (with_all items) targets new) (sym all_is)
        (record {
          chains = chains;
          are = comes.chains filled.chains filled.are children_apart references_apart;
          named = named;
          apart = still_apart;
          rows = held;
          texts = texts;
          slots =
              once_more at kept (slot.0 ∷ comes.text) old new filled.rows filled.texts comes.fresh comes.others bt now
              filled.slots few more;
          alone = alone;
        })
