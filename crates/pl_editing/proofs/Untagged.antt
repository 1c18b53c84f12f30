-- What holds of the rows once a page lost a tag, but of that page.
use Rattle.std.proofs.Common.{◌≡◌, ◌∙◌, ◌==◌, ◌&&◌, ℕ, Bool, true, false, IsTrue, List, [], ◌∷◌}
use Rattle.std.proofs.Common.{Option, Some, None, ap, arith, bytes_eq, filter, map, refl, subst, sym}
use Rattle.std.specs.Prelude.{not}
use Rattle.std.specs.List.{AllByRecursion}
use Rattle.std.specs.Option.{IsSome, option_and_then}
use Rattle.std.proofs.lemmas.Bool.{eqb-true, or_parts}
use Rattle.std.proofs.lemmas.List.Elements.{All-from_recursion, recursion_from_All}
use Rattle.pl_base.specs.declared.id.ItemId.{ItemId}
use Rattle.pl_base.specs.declared.id.PageId.{PageId}
use Rattle.pl_base.specs.declared.item.ItemKind.TheVariants.{Folder}
use Rattle.pl_base.specs.Fold.{folded}
use Rattle.pl_base.specs.Good.{HasGoodItems, IsGoodItem, IsTagFolder}
use Rattle.pl_base.specs.Rows.{IsWellKept, Kept, has_page, store_of, with_items}
use Rattle.pl_base.specs.Store.{Item, Store}
use Rattle.pl_base.specs.Tags.{tags_of, tags_root}
use Rattle.pl_base.specs.Tree.{child_items, children_of, is_page, item_at, leaving, removed}
use Rattle.pl_base.proofs.ListLaws.{all-filter, list_any-map, weaker}
use Rattle.pl_base.proofs.LookUps.{Apart, apart_increasing, found_holds, found_one, found_passes}
use Rattle.pl_tree.specs.Tagged.{entry_in, tag_named, untagged_items, without_entry, without_unused}
use Rattle.pl_tree.proofs.TagItems.{Bookmark≢Folder}
use Rattle.pl_base.specs.Rows.{IsSound}
use Rattle.pl_history.specs.Settled.{AreSettledBut}
use Rattle.pl_done.proofs.ChildItems.{children_hold, children_too}
use Rattle.pl_history.proofs.Dropped.{any_left, not_both}
use Rattle.pl_history.proofs.GoodRows.{items_of}
use Rattle.pl_history.proofs.ItemMarks.{has_reference}
use Rattle.pl_editing.proofs.ItemsGone.{settled_with}
use Rattle.pl_history.proofs.RightAfter.{other_way}

-- ---- an item that goes

-- each item with the id has this page
abbrev HavePage : ItemId → Option PageId → List Item → Type 0
HavePage id page items = AllByRecursion (λ (i : Item). (i.id.0 == id.0) ≡ true → i.page ≡ page) items

have_own : (items : List Item) (c : ItemId) (i : Item) → Apart (λ (j : Item). j.id.0) items → item_at items c ≡ Some i
    → HavePage i.id i.page items
have_own items c i apart at =
    let is : i.id.0 ≡ c.0 = eqb-true i.id.0 c.0 (found_passes (λ (j : Item). j.id.0 == c.0) items i at) in
    weaker (λ (j : Item). (j.id.0 == c.0) ≡ true → j ≡ i) (λ (j : Item). (j.id.0 == i.id.0) ≡ true → j.page ≡ i.page)
    items
    (λ j one same. ap (λ (k : Item). k.page) (one (ap (λ (n : ℕ). j.id.0 == n) (sym is) ∙ same)))
    (found_one (λ (j : Item). j.id.0) c.0 items i apart at)

have_still : (id gone : ItemId) (page : Option PageId) (items : List Item) → HavePage id page items
    → HavePage id page (removed gone items)
have_still id gone page items all =
    let P : Item → Type 0 = λ (i : Item). (i.id.0 == id.0) ≡ true → i.page ≡ page in
    mapped (filter (λ (i : Item). not (i.id.0 == gone.0)) items)
    (all-filter P (λ (i : Item). not (i.id.0 == gone.0)) items all)
  where
    mapped : (js : List Item) → HavePage id page js → HavePage id page (map (leaving gone) js)
    mapped [] each = tt
    mapped (j ∷ js) each = (each.0, mapped js each.1)

-- a page that the item has not is among the others or not as before
reference_removed : (items : List Item) (gone : ItemId) (of : Option PageId) (page : PageId) → HavePage gone of items
    → is_page page of ≡ false → has_reference (removed gone items) page ≡ has_reference items page
reference_removed items gone of page have other =
    let is : Item → Bool = λ (i : Item). i.id.0 == gone.0 in
    let has : Item → Bool = λ (i : Item). is_page page i.page in
    list_any-map has (leaving gone) (filter (λ (i : Item). not (is i)) items)
    ∙ any_left is has items
    (weaker (λ (j : Item). is j ≡ true → j.page ≡ of) (λ (j : Item). (is j && has j) ≡ false) items
    (λ j one. not_both (is j) (has j) (λ same. ap (is_page page) (one same) ∙ other)) have)

-- ---- a tag folder and an entry

other_page : (page id : PageId) (of : Option PageId) → is_page page of ≡ true → (id.0 == page.0) ≡ false
    → is_page id of ≡ false
other_page page id None is other = absurd (cc)
other_page page id (Some p) is other =
    ap (λ (n : ℕ). n == id.0) (eqb-true p.0 page.0 is) ∙ other_way id page other

folder_page : (store : Store) (t : Item) → IsGoodItem store t → t.kind ≡ Folder → t.page ≡ None
folder_page store t good kind = none t.page (λ some. Bookmark≢Folder (sym (good.bookmark.0 some) ∙ kind))
  where
    none : (of : Option PageId) → (IsSome of → ⊥) → of ≡ None
    none None apart = refl
    none (Some id) apart = absurd (apart refl)

module _ (store : Store) (page id : PageId) (name : List ℕ) (apart : Apart (λ (i : Item). i.id.0) store.items)
    (good : HasGoodItems store) (other : (id.0 == page.0) ≡ false) where
  unused : (items : List Item) (tag : ItemId) → HavePage tag None items
      → has_reference (without_unused tag items) id ≡ has_reference items id
  unused items tag have = choose (children_of items tag) refl
    where
      choose : (left : List ItemId) → children_of items tag ≡ left
          → has_reference (without_unused tag items) id ≡ has_reference items id
      choose [] is = rw is (reference_removed items tag None id have refl)
      choose (c ∷ cs) is = rw is refl

  by_entry : (t : Item) (entry : Option Item) → entry_in store.items page t ≡ entry → HavePage t.id None store.items
      → has_reference (without_entry (Some t) entry store.items) id ≡ has_reference store.items id
  by_entry t None is have = refl
  by_entry t (Some e) is have =
      let items : List Item = removed e.id store.items in
      let test : Item → Bool = λ (i : Item). is_page page i.page in
      unused items t.id (have_still t.id e.id None store.items have)
      ∙ reference_removed store.items e.id e.page id
      (found_holds (λ (i : Item). HavePage i.id i.page store.items) test (child_items store.items t.id) e
      (children_hold (λ (i : Item). HavePage i.id i.page store.items) store.items t.id
      (λ c i at. have_own store.items c i apart at)) is)
      (other_page page id e.page (found_passes test (child_items store.items t.id) e is) other)

  folder_have : (t : Item) → tag_named name store.items ≡ Some t → HavePage t.id None store.items
  folder_have t is =
      let test : Item → Bool = λ (i : Item). bytes_eq (folded i.title) (folded name) in
      let holds : (P : Item → Type 0) → AllByRecursion P (tags_of store) → P t =
      λ P all. found_holds P test (tags_of store) t all is in
      subst (λ (of : Option PageId). HavePage t.id of store.items)
      (folder_page store t
      (holds (IsGoodItem store)
      (children_too (IsGoodItem store) store.items tags_root
      (recursion_from_All (IsGoodItem store) store.items good.items)))
      (holds (IsTagFolder store) (recursion_from_All (IsTagFolder store) (tags_of store) good.tags.folders)).kind)
      (holds (λ (i : Item). HavePage i.id i.page store.items)
      (children_hold (λ (i : Item). HavePage i.id i.page store.items) store.items tags_root
      (λ c i at. have_own store.items c i apart at)))

  reference_untagged : has_reference (untagged_items page name store.items) id ≡ has_reference store.items id
  reference_untagged = by_tag (tag_named name store.items) refl
    where
      by_tag : (tag : Option Item) → tag_named name store.items ≡ tag
          → has_reference (without_entry tag (option_and_then (entry_in store.items page) tag) store.items) id
          ≡ has_reference store.items id
      by_tag None is = refl
      by_tag (Some t) is = by_entry t (entry_in store.items page t) refl (folder_have t is)

-- ---- the rows

pub untagged_settled : (old new : Kept) (page : PageId) (name : List ℕ) → IsWellKept old → IsSound old
    → has_page old page ≡ true → new ≡ with_items (untagged_items page name old.items) old
    → HasGoodItems (store_of new) → AreSettledBut (page ∷ []) new
untagged_settled old new page name h sound there is good =
    subst (AreSettledBut (page ∷ [])) (sym is)
    (settled_with old (untagged_items page name old.items) (page ∷ []) h sound
    (All-from_recursion (λ (id : PageId). IsTrue (has_page old id)) (page ∷ []) (there, tt))
    (λ i j d before within. absurd (omega arith))
    (λ id other.
    reference_untagged (store_of old) page id name
    (apart_increasing (λ (i : Item). i.id.0) old.items h.item_ids.ascending)
    (items_of (store_of old) sound.good) (or_parts (id.0 == page.0) false other).0)
    (subst (λ (k : Kept). HasGoodItems (store_of k)) is good))
