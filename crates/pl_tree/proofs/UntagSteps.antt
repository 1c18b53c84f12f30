-- What an entry that goes needs of the rows, and what it leaves.
use Rattle.std.proofs.Common.{◌≡◌, ◌∙◌, true, false, List, [], ◌∷◌, ℕ, Option, Some, None, ap, find, if◌then◌else◌}
use Rattle.std.proofs.Common.{is_some, refl, subst, sym}
use Rattle.std.specs.Prelude.{bytes_eq}
use Rattle.std.specs.Option.{is_none, option_and_then}
use Rattle.pl_base.specs.declared.id.ItemId.{ItemId}
use Rattle.pl_base.specs.declared.id.PageId.{PageId}
use Rattle.pl_base.specs.declared.refusal.Refusal.{Refusal}
use Rattle.pl_base.specs.declared.refusal.Refusal.TheVariants.{NoTag}
use Rattle.pl_base.specs.Fold.{folded}
use Rattle.pl_base.specs.Good.{HasGoodItems}
use Rattle.pl_base.specs.Rows.{IsWellKept, Kept, store_of, with_items}
use Rattle.pl_base.specs.Store.{Item}
use Rattle.pl_base.specs.Tags.{tags_root}
use Rattle.pl_base.specs.Tree.{child_items, children_of, first_item, has_item, is_page, item_at, removed}
use Rattle.pl_base.proofs.Among.{In, from_found}
use Rattle.pl_tree.specs.Refused.{untag_refusal}
use Rattle.pl_tree.specs.Tagged.{entry_in, if_none_left, tag_entry, tag_named, untagged_items}
use Rattle.pl_tree.specs.Tagged.{without_entry}
use Rattle.pl_base.proofs.KeyCounts.{Ascends}
use Rattle.pl_tree.proofs.EntryRemoved.{entry_child, has_child, mid_child, mid_good, no_children}
use Rattle.pl_tree.proofs.GoodRows.{good_rows}
use Rattle.pl_tree.proofs.GoodTagged.{good_untagged}
use Rattle.pl_tree.proofs.LookedUp.{children_in, found_at, item_key}
use Rattle.pl_tree.proofs.TagRows.{child_at}
use Rattle.pl_tree.proofs.TagSteps.{entry_told, its_id}
use Rattle.pl_tree.proofs.TreeLaws.{ids_ascend}

-- the entry and its folder, by their ids
record IsEntry (page : PageId) (name : List ℕ) (items : List Item) (folder entry : ItemId) : Type 0 where
  pub tag : Item
  pub named : tag_named name items ≡ Some tag
  pub folder_is : folder ≡ tag.id
  pub item : Item
  pub found : entry_in items page tag ≡ Some item
  pub entry_is : entry ≡ item.id

is_entry : (page : PageId) (name : List ℕ) (items : List Item) (folder entry : ItemId)
    → Some folder ≡ its_id (tag_named name items)
    → Some entry ≡ its_id (find (λ (i : Item). is_page page i.page) (child_items items folder))
    → IsEntry page name items folder entry
is_entry page name items folder entry folder_is entry_is = choose (tag_named name items) refl folder_is
  where
    with_tag : (t : Item) → tag_named name items ≡ Some t → folder ≡ t.id → (o : Option Item)
        → entry_in items page t ≡ o → Some entry ≡ its_id o → IsEntry page name items folder entry
    with_tag t named same None found is = absurd (cc)
    with_tag t named same (Some i) found is =
        record { tag = t; named = named; folder_is = same; item = i; found = found; entry_is = cc }

    choose : (o : Option Item) → tag_named name items ≡ o → Some folder ≡ its_id o
        → IsEntry page name items folder entry
    choose None named is = absurd (cc)
    choose (Some t) named is =
        let same : folder ≡ t.id = cc in
        with_tag t named same (entry_in items page t) refl
        (entry_is ∙ ap (λ (id : ItemId). its_id (find (λ (i : Item). is_page page i.page) (child_items items id))) same)

pub untag_refused : (page : PageId) (name : List ℕ) (items : List Item) (folder : ItemId) (refusal : Refusal)
    → Some folder ≡ its_id (tag_named name items)
    → None ≡ its_id (find (λ (i : Item). is_page page i.page) (child_items items folder)) → NoTag ≡ refusal
    → untag_refusal page name items ≡ Some refusal
untag_refused page name items folder refusal folder_is none same =
    choose (tag_entry page name items) (none ∙ entry_told items page name folder folder_is)
    ∙ ap (λ (r : Refusal). Some r) same
  where
    choose : (o : Option Item) → None ≡ its_id o → (if is_none o then Some NoTag else None) ≡ Some NoTag
    choose None none = refl
    choose (Some i) none = absurd (cc)

module _ (kept : Kept) (page : PageId) (name : List ℕ) (folder entry : ItemId) (h : IsWellKept kept)
    (good : HasGoodItems (store_of kept)) (folder_is : Some folder ≡ its_id (tag_named name kept.items))
    (entry_is : Some entry ≡ its_id (find (λ (i : Item). is_page page i.page) (child_items kept.items folder))) where
  e : IsEntry page name kept.items folder entry
  e = is_entry page name kept.items folder entry folder_is entry_is

  up : Ascends item_key kept.items
  up = ids_ascend kept.items h.item_ids.ascending

  tagged : In e.tag (child_items kept.items tags_root)
  tagged =
      (from_found (λ (t : Item). bytes_eq (folded t.title) (folded name)) (child_items kept.items tags_root) e.tag
      e.named).0

  entered : In e.item (child_items kept.items e.tag.id)
  entered = (from_found (λ (i : Item). is_page page i.page) (child_items kept.items e.tag.id) e.item e.found).0

  pub entry_there : has_item kept.items entry ≡ true
  entry_there =
      ap (has_item kept.items) e.entry_is
      ∙ has_child (store_of kept) up good e.tag e.item tagged entered (store_of kept) e.tag.id e.item.id
      (good_rows (store_of kept) good) (entry_child (store_of kept) up good e.tag e.item tagged entered)

  pub entry_leaf : children_of kept.items entry ≡ []
  entry_leaf =
      let at : item_at kept.items e.item.id ≡ Some e.item = (child_at kept.items e.tag.id e.item entered).1 in
      ap (children_of kept.items) e.entry_is ∙ ap children_in at
      ∙ no_children (store_of kept) up good e.tag e.item tagged entered e.item
      (found_at kept.items e.item.id e.item at).0 refl

  pub folder_left : (now : Kept) → now ≡ with_items (removed entry kept.items) kept
      → has_item now.items folder ≡ true
  folder_left now is =
      ap (λ (k : Kept). has_item k.items folder) is
      ∙ ap (λ (id : ItemId). has_item (removed id kept.items) folder) e.entry_is
      ∙ ap (has_item (removed e.item.id kept.items)) e.folder_is
      ∙ has_child (store_of kept) up good e.tag e.item tagged entered
      (record (store_of kept) { items = removed e.item.id kept.items }) tags_root e.tag.id
      (mid_good (store_of kept) up good e.tag e.item tagged entered)
      (mid_child (store_of kept) up good e.tag e.item tagged entered)

  unused : untagged_items page name kept.items
      ≡ if_none_left (children_of (removed entry kept.items) folder) (removed folder (removed entry kept.items))
      (removed entry kept.items)
  unused =
      ap (λ (o : Option Item). without_entry o (option_and_then (entry_in kept.items page) o) kept.items) e.named
      ∙ ap (λ (o : Option Item). without_entry (Some e.tag) o kept.items) e.found
      ∙ ap (λ (id : ItemId).
      if_none_left (children_of (removed id kept.items) e.tag.id) (removed e.tag.id (removed id kept.items))
      (removed id kept.items)) (sym e.entry_is)
      ∙ ap (λ (id : ItemId).
      if_none_left (children_of (removed entry kept.items) id) (removed id (removed entry kept.items))
      (removed entry kept.items)) (sym e.folder_is)

  -- other entries are left
  pub still_used : (now : Kept) → now ≡ with_items (removed entry kept.items) kept
      → is_some (first_item (children_of now.items folder)) ≡ true
      → now ≡ with_items (untagged_items page name kept.items) kept
  still_used now is some =
      is ∙ ap (λ (items : List Item). with_items items kept)
      (choose (children_of (removed entry kept.items) folder)
      (ap (λ (k : Kept). is_some (first_item (children_of k.items folder))) (sym is) ∙ some) ∙ sym unused)
    where
      choose : (ids : List ItemId) → is_some (first_item ids) ≡ true
          → removed entry kept.items
          ≡ if_none_left ids (removed folder (removed entry kept.items)) (removed entry kept.items)
      choose [] some = absurd (cc)
      choose (c ∷ cs) some = refl

  -- none is left
  pub unused_gone : (now last : Kept) → now ≡ with_items (removed entry kept.items) kept
      → is_some (first_item (children_of now.items folder)) ≡ false
      → last ≡ with_items (removed folder now.items) now
      → last ≡ with_items (untagged_items page name kept.items) kept
  unused_gone now last is none last_is =
      last_is ∙ ap (λ (k : Kept). with_items (removed folder k.items) k) is
      ∙ ap (λ (items : List Item). with_items items kept)
      (choose (children_of (removed entry kept.items) folder)
      (ap (λ (k : Kept). is_some (first_item (children_of k.items folder))) (sym is) ∙ none) ∙ sym unused)
    where
      choose : (ids : List ItemId) → is_some (first_item ids) ≡ false
          → removed folder (removed entry kept.items)
          ≡ if_none_left ids (removed folder (removed entry kept.items)) (removed entry kept.items)
      choose [] none = refl
      choose (c ∷ cs) none = absurd (cc)

  pub untagged_good : (now : Kept) → now ≡ with_items (untagged_items page name kept.items) kept
      → HasGoodItems (store_of now)
  untagged_good now is =
      let there : tag_entry page name kept.items ≡ Some e.item =
      ap (option_and_then (entry_in kept.items page)) e.named ∙ e.found in
      subst (λ (k : Kept). HasGoodItems (store_of k)) (sym is)
      (good_untagged kept page name h good
      (ap (λ (o : Option Item). let r : Option Refusal = if is_none o then Some NoTag else None in r) there))
