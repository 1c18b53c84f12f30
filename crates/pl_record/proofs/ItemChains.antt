-- No item stands among the children of two others, nor in the chains of two pages; and one that is
-- no child stands in no chain of children, and one that has no page in no chain of a page's items.
use Rattle.std.proofs.Common.{◌≡◌, ◌≢◌, ◌∙◌, ◌==◌, List, Option, Some, None, ap, eq-eqb, eqb-true, find}
use Rattle.std.proofs.Common.{length, refl, sym, true}
use Rattle.std.specs.List.{All, AllByRecursion, list_any}
use Rattle.std.specs.Option.{option_map}
use Rattle.std.proofs.lemmas.Bool.{true≢false}
use Rattle.std.proofs.lemmas.List.Elements.{All-from_recursion, recursion_from_All}
use Rattle.pl_base.specs.declared.id.ItemId.{ItemId}
use Rattle.pl_base.specs.declared.id.PageId.{PageId}
use Rattle.pl_base.specs.declared.id.Slot.{Slot}
use Rattle.pl_base.specs.declared.id.VisitId.{VisitId}
use Rattle.pl_base.specs.Good.{child_ids}
use Rattle.pl_base.specs.Rows.{Kept, KeptPage}
use Rattle.pl_base.specs.Store.{Item, Visit}
use Rattle.pl_base.specs.Tree.{has_item, is_page, item_at, parent_of, references}
use Rattle.pl_base.proofs.IdsLaws.{same_page, same_slot}
use Rattle.pl_base.proofs.ItemLookUps.{same_item}
use Rattle.pl_base.proofs.ListLaws.{list_any-map, to_map, weaker}
use Rattle.pl_base.proofs.LookUps.{found_any, found_holds, found_passes}
use Rattle.pl_base.proofs.OneParent.{IsParent, is_among, once}
use Rattle.pl_base.proofs.ReferencesRun.{IsItemOf, having, items_found, items_stand}
use Rattle.pl_base.proofs.Truths.{no_test}
use Rattle.pl_record.specs.declared.rows.Item.{Item as Row}
use Rattle.pl_record.specs.ChainMap.{AreApart, IsLoose}
use Rattle.pl_record.specs.Chains.{item_slots}
use Rattle.pl_record.specs.Form.{AreRows}
use Rattle.pl_record.proofs.NamedSlots.{found_all, found_of, item_row_is, one_row, some_slot}
use Rattle.pl_record.specs.Records.{HoldsRow, HoldsRows, Layout, item_record, page_record, slot_or_none}
use Rattle.pl_record.proofs.LaidChains.{chains_of}
use Rattle.pl_record.proofs.VisitChains.{owner_of}
use Rattle.pl_base.proofs.OneParent.{parents_found}
use Rattle.pl_rail.specs.declared.owner.Owner.TheVariants.{At, Header}
use Rattle.pl_rail.specs.Rails.{is_in, none}
use Rattle.pl_sheets.specs.Sheets.{Pages}
use Rattle.pl_slot.specs.declared.links.Rail.TheVariants.{Children, References}
use Rattle.pl_slot.specs.Arena.{first_in}

-- an item with the slots of its parent and its page, and the first slot of its title
abbrev pub slotted_item : Layout → List Item → Item → Row
slotted_item at items i =
    record {
      id = i.id;
      kind = i.kind;
      parent = slot_or_none at.item (parent_of items i.id);
      page = slot_or_none at.page i.page;
      title = record { slot = first_in (at.item_title i.id); length = length i.title };
      added = i.added;
      modified = i.modified;
    }

-- ---- what is in a chain

-- what is in the slots of items is the slot of one
pub item_of : (at : Layout) (P : ItemId → Type 0) (ids : List ItemId) (slot : Slot) → AllByRecursion P ids
    → is_in slot (item_slots at ids) ≡ true
    → (c : ItemId) × P c × (at.item c ≡ slot) × (is_among c ids ≡ true)
item_of at P ids slot all among =
    let has_slot = λ (c : ItemId). (at.item c).0 == slot.0 in
    let there : list_any has_slot ids ≡ true = sym (list_any-map (λ (s : Slot). s.0 == slot.0) at.item ids) ∙ among in
    let found = found_of has_slot ids there in (
      found.0,
      found_holds P has_slot ids found.0 all found.1,
      same_slot (at.item found.0) slot
          (eqb-true (at.item found.0).0 slot.0 (found_passes has_slot ids found.0 found.1)),
      found_any has_slot (λ (d : ItemId). d.0 == found.0.0) ids found.0 found.1
          (eq-eqb found.0.0 found.0.0 refl),
    )

-- the slot of an item's page, where it has this one
page_slot : (at : Layout) (page : PageId) (own : Option PageId) → is_page page own ≡ true
    → slot_or_none at.page own ≡ at.page page
page_slot at page None is = absurd (true≢false (sym is))
page_slot at page (Some other) is = ap at.page (same_page other page is)

module _ (at : Layout) (kept : Kept) (targets : VisitId → List Visit) (pages : Pages) (rows : AreRows kept targets)
    (held : HoldsRows at kept pages) where
  row_of : (i : Item) → item_at kept.items i.id ≡ Some i → HoldsRow (item_record at kept.items i) pages
  row_of i found = item_row_is at kept pages held i.id i found

  -- two items in one slot have one parent and one page
  same_owners : (i j : Item) → item_at kept.items i.id ≡ Some i → item_at kept.items j.id ≡ Some j
      → at.item i.id ≡ at.item j.id
      → (slot_or_none at.item (parent_of kept.items i.id) ≡ slot_or_none at.item (parent_of kept.items j.id))
      × (slot_or_none at.page i.page ≡ slot_or_none at.page j.page)
  same_owners i j first second same =
      let row : (item_record at kept.items i).row ≡ (item_record at kept.items j).row =
      one_row (item_record at kept.items i) (item_record at kept.items j) pages (row_of i first) (row_of j second)
      same in
      (cc, cc)

  -- ---- children

  -- a child of an item, and that its row names the item, which is there
  record InChildren (slot owner : Slot) : Type 0 where
    item : Item
    found : item_at kept.items item.id ≡ Some item
    here : at.item item.id ≡ slot
    parent : slot_or_none at.item (parent_of kept.items item.id) ≡ owner
    some : owner ≢ none

  in_children : (owner slot : Slot) → is_in slot (chains_of at kept targets Children (At owner)) ≡ true
      → InChildren slot owner
  in_children owner slot among =
      let o =
      owner_of (λ (i : Item). item_slots at i.children)
      (find (λ (i : Item). (at.item i.id).0 == owner.0) kept.items) slot among in
      let p : Item = o.0 in
      let c = item_of at (λ (d : ItemId). has_item kept.items d ≡ true) p.children slot (children_there p o.1) o.2 in
      let i = found_of (λ (j : Item). j.id.0 == c.0.0) kept.items c.1 in
      let same : i.0.id ≡ c.0 =
      same_item i.0.id c.0 (found_passes (λ (j : Item). j.id.0 == c.0.0) kept.items i.0 i.1) in
      let own : at.item p.id ≡ owner =
      same_slot (at.item p.id) owner
      (eqb-true (at.item p.id).0 owner.0
      (found_passes (λ (j : Item). (at.item j.id).0 == owner.0) kept.items p o.1)) in
      record {
        item = i.0;
        found = ap (item_at kept.items) same ∙ i.1;
        here = ap at.item same ∙ c.2;
        parent =
            ap (λ (d : ItemId). slot_or_none at.item (parent_of kept.items d)) same
            ∙ ap (λ (q : Option Item). slot_or_none at.item (option_map (λ (j : Item). j.id) q))
            (found_holds (IsParent kept.items) (λ (j : Item). (at.item j.id).0 == owner.0) kept.items p
            (parents_found kept.items (once (child_ids kept.items) rows.once)) o.1 c.0 c.3)
            ∙ own;
        some = λ zero.
            some_slot (item_record at kept.items p) pages
            (found_all (λ (j : Item). HoldsRow (item_record at kept.items j) pages)
            (λ (j : Item). (at.item j.id).0 == owner.0) kept.items p held.items o.1) (own ∙ zero);
      }
    where
      children_there : (p : Item) → find (λ (i : Item). (at.item i.id).0 == owner.0) kept.items ≡ Some p
          → AllByRecursion (λ (d : ItemId). has_item kept.items d ≡ true) p.children
      children_there p found =
          recursion_from_All (λ (d : ItemId). has_item kept.items d ≡ true) p.children
          (found_all (λ (j : Item). All (λ d. has_item kept.items d ≡ true) j.children)
          (λ (j : Item). (at.item j.id).0 == owner.0) kept.items p rows.children found)

  pub children_apart : AreApart Children (chains_of at kept targets)
  children_apart (At one) (At other) slot first second =
      let i = in_children one slot first in
      let j = in_children other slot second in
      ap At (sym i.parent ∙ (same_owners i.item j.item i.found j.found (i.here ∙ sym j.here)).0 ∙ j.parent)
  children_apart (Header kind) other slot first second = absurd (true≢false (sym first))
  children_apart (At one) (Header kind) slot first second = absurd (true≢false (sym second))

  -- an item that is no child is in no chain of children
  pub parentless_loose
      : All (λ (i : Item). parent_of kept.items i.id ≡ None
      → IsLoose Children (at.item i.id) (chains_of at kept targets)) kept.items
  parentless_loose =
      All-from_recursion
      (λ (i : Item). parent_of kept.items i.id ≡ None → IsLoose Children (at.item i.id) (chains_of at kept targets))
      kept.items
      (weaker (λ (i : Item). item_at kept.items i.id ≡ Some i)
      (λ (i : Item). parent_of kept.items i.id ≡ None → IsLoose Children (at.item i.id) (chains_of at kept targets))
      kept.items loose (items_found kept rows.well))
    where
      loose : (i : Item) → item_at kept.items i.id ≡ Some i → parent_of kept.items i.id ≡ None
          → IsLoose Children (at.item i.id) (chains_of at kept targets)
      loose i found root (Header kind) = refl
      loose i found root (At owner) =
          no_test (is_in (at.item i.id) (chains_of at kept targets Children (At owner))) (λ among.
          let j = in_children owner (at.item i.id) among in
          j.some (sym j.parent ∙ (same_owners j.item i j.found found j.here).0 ∙ ap (slot_or_none at.item) root))

  -- ---- the items of a page

  -- an item of a page's chain, and that its row names the page, which is there
  record InReferences (slot owner : Slot) : Type 0 where
    item : Item
    found : item_at kept.items item.id ≡ Some item
    here : at.item item.id ≡ slot
    page : slot_or_none at.page item.page ≡ owner
    some : owner ≢ none

  in_references : (owner slot : Slot) → is_in slot (chains_of at kept targets References (At owner)) ≡ true
      → InReferences slot owner
  in_references owner slot among =
      let o =
      owner_of (λ (p : KeptPage). item_slots at (references kept.items p.page.id))
      (find (λ (p : KeptPage). (at.page p.page.id).0 == owner.0) kept.pages) slot among in
      let p : KeptPage = o.0 in
      let c = item_of at (OfPage p.page.id) (references kept.items p.page.id) slot (all_of p.page.id) o.2 in
      let own : at.page p.page.id ≡ owner =
      same_slot (at.page p.page.id) owner
      (eqb-true (at.page p.page.id).0 owner.0
      (found_passes (λ (q : KeptPage). (at.page q.page.id).0 == owner.0) kept.pages p o.1)) in
      record {
        item = c.1.0;
        found = c.1.1;
        here = ap at.item c.1.3 ∙ c.2;
        page = page_slot at p.page.id c.1.0.page c.1.2 ∙ own;
        some = λ zero.
            some_slot (page_record at p) pages
            (found_all (λ (q : KeptPage). HoldsRow (page_record at q) pages)
            (λ (q : KeptPage). (at.page q.page.id).0 == owner.0) kept.pages p held.places o.1) (own ∙ zero);
      }
    where
      OfPage : PageId → ItemId → Type 0
      OfPage page c =
          (i : Item) × (item_at kept.items i.id ≡ Some i) × (is_page page i.page ≡ true) × (i.id ≡ c)

      all_of : (page : PageId) → AllByRecursion (OfPage page) (references kept.items page)
      all_of page =
          to_map (OfPage page) (λ (i : Item). i.id) (having kept.items page)
          (weaker (IsItemOf kept page) (λ (i : Item). OfPage page i.id) (having kept.items page)
          (λ i of. (i, of.0, of.1, refl)) (items_stand kept page rows.well))

  pub references_apart : AreApart References (chains_of at kept targets)
  references_apart (At one) (At other) slot first second =
      let i = in_references one slot first in
      let j = in_references other slot second in
      ap At (sym i.page ∙ (same_owners i.item j.item i.found j.found (i.here ∙ sym j.here)).1 ∙ j.page)
  references_apart (Header kind) other slot first second = absurd (true≢false (sym first))
  references_apart (At one) (Header kind) slot first second = absurd (true≢false (sym second))

  -- an item that has no page is in no chain of a page's items
  pub pageless_loose
      : All (λ (i : Item). i.page ≡ None → IsLoose References (at.item i.id) (chains_of at kept targets)) kept.items
  pageless_loose =
      All-from_recursion
      (λ (i : Item). i.page ≡ None → IsLoose References (at.item i.id) (chains_of at kept targets)) kept.items
      (weaker (λ (i : Item). item_at kept.items i.id ≡ Some i)
      (λ (i : Item). i.page ≡ None → IsLoose References (at.item i.id) (chains_of at kept targets)) kept.items loose
      (items_found kept rows.well))
    where
      loose : (i : Item) → item_at kept.items i.id ≡ Some i → i.page ≡ None
          → IsLoose References (at.item i.id) (chains_of at kept targets)
      loose i found own (Header kind) = refl
      loose i found own (At owner) =
          no_test (is_in (at.item i.id) (chains_of at kept targets References (At owner))) (λ among.
          let j = in_references owner (at.item i.id) among in
          j.some (sym j.page ∙ (same_owners j.item i j.found found j.here).1 ∙ ap (slot_or_none at.page) own))
