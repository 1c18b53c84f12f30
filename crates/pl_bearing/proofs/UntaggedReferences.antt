-- A page that loses a tag leaves what the items of all other pages tell.
use Rattle.std.proofs.Common.{◌≡◌, ◌≢◌, ◌==◌, ◌∙◌, ℕ, Bool, true, false, List, [], ◌∷◌}
use Rattle.std.proofs.Common.{Option, Some, None, ap, filter, not, refl, subst, sym}
use Rattle.std.specs.List.{list_any}
use Rattle.std.specs.Option.{option_and_then, option_map}
use Rattle.std.proofs.lemmas.Bool.{both_ways, ne_eqb, not_from_false}
use Rattle.std.proofs.lemmas.List.Elements.{recursion_from_All}
use Rattle.std.proofs.lemmas.Option.{same_Some}
use Rattle.pl_base.specs.declared.id.ItemId.{ItemId}
use Rattle.pl_base.specs.declared.id.PageId.{PageId}
use Rattle.pl_base.specs.Good.{HasGoodItems, IsGoodItem}
use Rattle.pl_base.specs.Rows.{IsWellKept, Kept, store_of}
use Rattle.pl_base.specs.Store.{Item, Store}
use Rattle.pl_base.specs.Tree.{child_items, children_of, has_child, is_page, item_at, leaving, removed}
use Rattle.pl_base.proofs.Among.{In, all_from_in, at_in, from_filter, from_map}
use Rattle.pl_base.proofs.Among.{from_filter_map, from_found, not_empty}
use Rattle.pl_base.proofs.IdsLaws.{same_page}
use Rattle.pl_base.proofs.ItemLookUps.{same_item}
use Rattle.pl_base.proofs.ListLaws.{find-map}
use Rattle.pl_base.proofs.ReferencesRun.{items_found}
use Rattle.pl_base.proofs.Truths.{no_elements}
use Rattle.pl_tree.specs.Tagged.{entry_in, if_none_left, tag_named, untagged_items, without_entry}
use Rattle.pl_tree.proofs.LookedUp.{children_in}
use Rattle.pl_tree.proofs.TagItems.{Bookmark≢Folder}
use Rattle.pl_marks.specs.Alike.{is_one_of}
use Rattle.pl_bearing.specs.References.{AreReferencesAlike}
use Rattle.pl_bearing.proofs.FoundItems.{AreFound, at_its_id, find_among, one_item_at}
use Rattle.pl_bearing.proofs.LeftReferences.{references_left}
use Rattle.pl_bearing.proofs.MappedReferences.{alike_then, other_page}

-- ---- an item less, which has no children

module _ (items : List Item) (id : ItemId) (leaf : (i : Item) → In i items → i.id.0 ≡ id.0 → i.children ≡ []) where
  abbrev stays : Item → Bool
  stays i = not (i.id.0 == id.0)

  no_child : (c : ItemId) (i : Item) → In i items → i.id.0 ≡ id.0 → has_child c i ≡ false
  no_child c i h same = ap (list_any (λ (d : ItemId). d.0 == c.0)) (leaf i h same)

  -- where the item has one of these pages or none
  leaf_alike : (ids : List PageId)
      → ((i : Item) → In i items → i.id.0 ≡ id.0 → (page : PageId) → is_one_of ids page ≡ false
      → is_page page i.page ≡ false)
      → AreReferencesAlike ids items (removed id items)
  leaf_alike ids apart page other =
      references_left items id stays (λ (c : ItemId). c.0 ≢ id.0) (λ c out. out)
      (λ c i h out has same. both_ways (has_child c i) (no_child c i h same) has)
      (λ i h out. not_from_false (i.id.0 == id.0) (ne_eqb i.id.0 id.0 out)) page
      (λ i h has same. both_ways (is_page page i.page) (apart i h same page other) has)

-- the others are still found by their ids
found_left : (items : List Item) (id : ItemId) → AreFound items → AreFound (removed id items)
found_left items id found =
    all_from_in (λ (j : Item). item_at (removed id items) j.id ≡ Some j) (removed id items) here
  where
    stays : Item → Bool
    stays i = not (i.id.0 == id.0)

    own : (i : Item) → In i items → stays i ≡ true → item_at (removed id items) i.id ≡ Some (leaving id i)
    own i h stay =
        find-map (λ (k : Item). k.id.0 == i.id.0) (leaving id) (filter stays items)
        ∙ ap (option_map (leaving id))
        (find_among stays (λ (k : Item). k.id.0 == i.id.0) items
        (all_from_in (λ (k : Item). (k.id.0 == i.id.0) ≡ true → stays k ≡ true) items
        (λ k g is. ap (λ (c : ItemId). not (c.0 == id.0)) (same_item k.id i.id is) ∙ stay))
        ∙ at_its_id items i found h)

    here : (j : Item) → In j (removed id items) → item_at (removed id items) j.id ≡ Some j
    here j h =
        let r = from_map (leaving id) (filter stays items) j h in
        let s = from_filter stays items r.0 r.1 in
        subst (λ (k : Item). item_at (removed id items) k.id ≡ Some k) (sym r.2) (own r.0 s.0 s.1)

-- ---- what good items are

-- one with a page has no children
page_alone : (store : Store) (i : Item) (page : PageId) → IsGoodItem store i → is_page page i.page ≡ true
    → i.children ≡ []
page_alone store i page good is = choose i.page refl is
  where
    choose : (o : Option PageId) → i.page ≡ o → is_page page o ≡ true → i.children ≡ []
    choose None at is = absurd (both_ways false refl is)
    choose (Some other) at is =
        no_elements i.children (λ some. Bookmark≢Folder (sym (good.bookmark.0 (rw at refl)) ∙ good.children some))

-- so one with children has no page
parent_pageless : (store : Store) (i : Item) (page : PageId) → IsGoodItem store i → i.children ≢ []
    → is_page page i.page ≡ false
parent_pageless store i page good some = choose (is_page page i.page) refl
  where
    choose : (b : Bool) → is_page page i.page ≡ b → b ≡ false
    choose true is = absurd (some (page_alone store i page good is))
    choose false is = refl

-- ---- a page loses a tag

module _ (store : Store) (page : PageId) (ids : List PageId) (good : HasGoodItems store)
    (found : AreFound store.items) (one : is_one_of ids page ≡ true) where
  abbrev items : List Item
  items = store.items

  each_good : (i : Item) → In i items → IsGoodItem store i
  each_good i h = at_in (IsGoodItem store) items i (recursion_from_All (IsGoodItem store) items good.items) h

  module _ (tag entry : Item) (is_entry : entry_in items page tag ≡ Some entry) where
    abbrev mid : List Item
    mid = removed entry.id items

    within : In entry (child_items items tag.id) × (is_page page entry.page ≡ true)
    within = from_found (λ (i : Item). is_page page i.page) (child_items items tag.id) entry is_entry

    up_to : (c : ItemId) × In c (children_of items tag.id) × (item_at items c ≡ Some entry)
    up_to = from_filter_map (item_at items) (children_of items tag.id) entry within.0

    there : In entry items
    there = (from_found (λ (i : Item). i.id.0 == (up_to.0).0) items entry up_to.2).0

    -- the entry is the only item with its id
    it_is : (i : Item) → In i items → i.id.0 ≡ entry.id.0 → i ≡ entry
    it_is i h same =
        same_Some i entry
        (sym (one_item_at items entry.id i found h same) ∙ at_its_id items entry found there)

    has_page : (i : Item) → In i items → i.id.0 ≡ entry.id.0 → is_page page i.page ≡ true
    has_page i h same = ap (λ (j : Item). is_page page j.page) (it_is i h same) ∙ within.1

    entry_alike : AreReferencesAlike ids items mid
    entry_alike =
        leaf_alike items entry.id (λ i h same. page_alone store i page (each_good i h) (has_page i h same)) ids
        (λ i h same other none. choose i.page (has_page i h same) other none)
      where
        choose : (o : Option PageId) → is_page page o ≡ true → (other : PageId) → is_one_of ids other ≡ false
            → is_page other o ≡ false
        choose None is other none = refl
        choose (Some p) is other none =
            other_page ids other (Some p) none (ap (is_one_of ids) (same_page p page is) ∙ one)

    -- the folder is an item that had children, and has none
    folder_alike : children_of mid tag.id ≡ [] → AreReferencesAlike ids mid (removed tag.id mid)
    folder_alike none =
        leaf_alike mid tag.id
        (λ j h same.
        sym (ap children_in (one_item_at mid tag.id j (found_left items entry.id found) h same)) ∙ none) ids
        (λ j h same other apart.
        let stays : Item → Bool = λ k. not (k.id.0 == entry.id.0) in
        let r = from_map (leaving entry.id) (filter stays items) j h in
        let i : Item = r.0 in
        let here : In i items = (from_filter stays items i r.1).0 in
        let all : children_of items tag.id ≡ i.children =
        ap children_in (one_item_at items tag.id i found here (sym (ap (λ (k : Item). k.id.0) r.2) ∙ same)) in
        ap (λ (k : Item). is_page other k.page) r.2
        ∙ parent_pageless store i other (each_good i here)
        (not_empty i.children up_to.0 (subst (In up_to.0) all up_to.1)))

    both_alike : (left : List ItemId) → children_of mid tag.id ≡ left
        → AreReferencesAlike ids items (if_none_left left (removed tag.id mid) mid)
    both_alike [] is = alike_then ids items mid (removed tag.id mid) entry_alike (folder_alike is)
    both_alike (c ∷ cs) is = entry_alike

  by_alike : (tag : Option Item) → AreReferencesAlike ids items
      (without_entry tag (option_and_then (entry_in items page) tag) items)
  by_alike None = λ other apart. refl
  by_alike (Some tag) = choose (entry_in items page tag) refl
    where
      choose : (e : Option Item) → entry_in items page tag ≡ e
          → AreReferencesAlike ids items (without_entry (Some tag) e items)
      choose None is = λ other apart. refl
      choose (Some entry) is = both_alike tag entry is (children_of (removed entry.id items) tag.id) refl

  -- of good items that are found by their ids
  items_untagged_alike : (name : List ℕ) → AreReferencesAlike ids items (untagged_items page name items)
  items_untagged_alike name = by_alike (tag_named name items)

pub untagged_alike : (kept : Kept) (page : PageId) (name : List ℕ) (ids : List PageId) → IsWellKept kept
    → HasGoodItems (store_of kept) → is_one_of ids page ≡ true
    → AreReferencesAlike ids kept.items (untagged_items page name kept.items)
untagged_alike kept page name ids h good one =
    items_untagged_alike (store_of kept) page ids good (items_found kept h) one name
