-- What the tag folders and the items in them are.
use Rattle.std.proofs.Common.{◌≡◌, ◌≢◌, ◌==◌, ◌||◌, ◌⊎◌, ◌∙◌, inl, inr, true, false, List, []}
use Rattle.std.proofs.Common.{Option, Some, None, ap, arith, sym, subst, refl}
use Rattle.std.specs.Option.{option_and_then}
use Rattle.std.proofs.lemmas.Bool.{both_ways, eqb-true, or_cases}
use Rattle.std.proofs.lemmas.List.Elements.{recursion_from_All}
use Rattle.pl_base.specs.declared.id.ItemId.{ItemId}
use Rattle.pl_base.specs.declared.item.ItemKind.TheVariants.{Bookmark, Folder}
use Rattle.pl_base.specs.Good.{HasGoodItems, HasTags, IsTagFolder, child_ids}
use Rattle.pl_base.specs.Store.{Item, Store}
use Rattle.pl_base.specs.Tags.{is_tags_root, tags_of, tags_root}
use Rattle.pl_base.specs.Tree.{child_items, children_of, item_at, parent_of}
use Rattle.pl_base.proofs.Among.{In, at_in, in_filter_map, not_empty}
use Rattle.pl_base.proofs.ItemLookUps.{same_item_number}
use Rattle.pl_tree.specs.Refused.{is_entry, is_tag}
use Rattle.pl_base.proofs.KeyCounts.{Ascends}
use Rattle.pl_tree.proofs.Causes.{MayChange, Takes}
use Rattle.pl_tree.proofs.KeptItems.{good_item}
use Rattle.pl_tree.proofs.KeptTags.{is_of_tags}
use Rattle.pl_tree.proofs.LookedUp.{at_its_id, children_in, found_at, has_parent, in_child_ids}
use Rattle.pl_tree.proofs.LookedUp.{item_key, parent_is}
use Rattle.pl_tree.proofs.TreeLaws.{child_once}

-- a child that was looked up
pub among_children : (items : List Item) (p i : Item) → Ascends item_key items → In p items → In i items
    → In i.id p.children → In i (child_items items p.id)
among_children items p i up h g c =
    let found : children_of items p.id ≡ p.children = ap children_in (at_its_id items p up h) in
    in_filter_map (item_at items) (children_of items p.id) i.id i (subst (In i.id) (sym found) c)
    (at_its_id items i up g)

-- the item is a child of the tags root
pub record IsTag (items : List Item) (id : ItemId) : Type 0 where
  pub root : Item
  pub there : In root items
  pub is : root.id ≡ tags_root
  pub child : In id root.children

pub a_tag : (items : List Item) (id : ItemId) → is_tag items id ≡ true → IsTag items id
a_tag items id is = choose (parent_of items id) refl is
  where
    choose : (o : Option ItemId) → parent_of items id ≡ o → is_tags_root o ≡ true → IsTag items id
    choose None found is = absurd (both_ways false refl is)
    choose (Some p) found is =
        let r = has_parent items id p found in
        let same : p ≡ tags_root = same_item_number p tags_root (eqb-true p.0 tags_root.0 is) in
        record { root = r.0; there = r.1; is = r.2 ∙ same; child = r.3 }

-- the item is a child of a tag folder
pub record IsEntry (items : List Item) (id : ItemId) : Type 0 where
  pub folder : Item
  pub there : In folder items
  pub tag : is_tag items folder.id ≡ true
  pub child : In id folder.children

pub an_entry : (items : List Item) (id : ItemId) → is_entry items id ≡ true → IsEntry items id
an_entry items id is = choose (parent_of items id) refl is
  where
    choose : (o : Option ItemId) → parent_of items id ≡ o
        → is_tags_root (option_and_then (parent_of items) o) ≡ true → IsEntry items id
    choose None found is = absurd (both_ways false refl is)
    choose (Some p) found is =
        let r = has_parent items id p found in
        record { folder = r.0; there = r.1; tag = ap (is_tag items) r.2 ∙ is; child = r.3 }

-- the tags root, a tag folder or an item in one
pub of_tags : (items : List Item) (id : ItemId) → is_of_tags items id ≡ true
    → (id.0 ≡ 4) ⊎ ((is_tag items id ≡ true) ⊎ (is_entry items id ≡ true))
of_tags items id is =
    elim (or_cases ((id.0 == tags_root.0) || is_tag items id) (is_entry items id) is)
    as (λ _. (id.0 ≡ 4) ⊎ ((is_tag items id ≡ true) ⊎ (is_entry items id ≡ true))) [
      | inl front ↦
          elim (or_cases (id.0 == tags_root.0) (is_tag items id) front)
          as (λ _. (id.0 ≡ 4) ⊎ ((is_tag items id ≡ true) ⊎ (is_entry items id ≡ true))) [
            | inl root ↦ inl (eqb-true id.0 4 root)
            | inr tag ↦ inr (inl tag)
          ]
      | inr entry ↦ inr (inr entry)
    ]

-- all but the root are children
pub child_of_tags : (items : List Item) (id : ItemId) → is_of_tags items id ≡ true
    → (id.0 ≡ 4) ⊎ In id (child_ids items)
child_of_tags items id is =
    elim (of_tags items id is) as (λ _. (id.0 ≡ 4) ⊎ In id (child_ids items)) [
      | inl root ↦ inl root
      | inr (inl tag) ↦ let t = a_tag items id tag in inr (in_child_ids items t.root id t.there t.child)
      | inr (inr entry) ↦ let e = an_entry items id entry in inr (in_child_ids items e.folder id e.there e.child)
    ]

-- an item that may change is none of them
pub change_apart : (items : List Item) (item x : ItemId) → MayChange items item → is_of_tags items x ≡ true
    → x.0 ≢ item.0
change_apart items item x may is same =
    let one : x ≡ item = same_item_number x item same in
    elim (of_tags items x is) as (λ _. ⊥) [
      | inl root ↦ omega (arith, may.no_root)
      | inr (inl tag) ↦ both_ways (is_tag items item) may.no_tag (ap (is_tag items) (sym one) ∙ tag)
      | inr (inr entry) ↦ both_ways (is_entry items item) may.no_entry (ap (is_entry items) (sym one) ∙ entry)
    ]

-- what is in a tag folder is a bookmark
pub entry_kind : (store : Store) (i : Item) → Ascends item_key store.items → HasTags store → In i store.items
    → is_entry store.items i.id ≡ true → i.kind ≡ Bookmark
entry_kind store i up tags h is =
    let e = an_entry store.items i.id is in
    let t = a_tag store.items e.folder.id e.tag in
    let folder : In e.folder (tags_of store) =
    subst (λ (id : ItemId). In e.folder (child_items store.items id)) t.is
    (among_children store.items t.root e.folder up t.there e.there t.child)
    in
    let f : IsTagFolder store e.folder =
    at_in (IsTagFolder store) (tags_of store) e.folder
    (recursion_from_All (IsTagFolder store) (tags_of store) tags.folders) folder
    in
    (at_in (λ (j : Item). (j.kind ≡ Bookmark) × (j.title ≡ [])) (child_items store.items e.folder.id) i
    (recursion_from_All (λ (j : Item). (j.kind ≡ Bookmark) × (j.title ≡ [])) (child_items store.items e.folder.id)
    f.entries) (among_children store.items e.folder i up e.there h e.child)).0

pub Bookmark≢Folder : Bookmark ≢ Folder
Bookmark≢Folder same = absurd (cc)

-- a folder that takes items is none of them
pub takes_apart : (store : Store) (parent x : ItemId) → Ascends item_key store.items → HasTags store
    → Takes store.items parent → is_of_tags store.items x ≡ true → x.0 ≢ parent.0
takes_apart store parent x up tags t is same =
    let items : List Item = store.items in
    let one : x ≡ parent = same_item_number x parent same in
    elim (of_tags items x is) as (λ _. ⊥) [
      | inl root ↦ t.not_tags (sym same ∙ root)
      | inr (inl tag) ↦ both_ways (is_tag items parent) t.no_tag (ap (is_tag items) (sym one) ∙ tag)
      | inr (inr entry) ↦
          let found = found_at items parent t.folder t.there in
          let kind = entry_kind store t.folder up tags found.0 (ap (is_entry items) (found.1 ∙ sym one) ∙ entry) in
          Bookmark≢Folder (sym kind ∙ t.kind)
    ]

-- none of them has as a child an item that may change
pub no_child_of_tags : (store : Store) (item : ItemId) (i : Item) → Ascends item_key store.items → HasGoodItems store
    → MayChange store.items item → In i store.items → is_of_tags store.items i.id ≡ true → In item i.children → ⊥
no_child_of_tags store item i up good may h is c =
    let items : List Item = store.items in
    let once = child_once items good.tree in
    let above : parent_of items item ≡ Some i.id = parent_is items i item once h c in
    elim (of_tags items i.id is) as (λ _. ⊥) [
      | inl root ↦
          both_ways (is_tag items item) may.no_tag
          (ap is_tags_root (above ∙ ap (λ (p : ItemId). Some p) (same_item_number i.id tags_root root)))
      | inr (inl tag) ↦
          both_ways (is_entry items item) may.no_entry
          (ap (λ (o : Option ItemId). is_tags_root (option_and_then (parent_of items) o)) above ∙ tag)
      | inr (inr entry) ↦
          Bookmark≢Folder (sym (entry_kind store i up good.tags h entry)
          ∙ (good_item store i good.items h).children (not_empty i.children item c))
    ]
