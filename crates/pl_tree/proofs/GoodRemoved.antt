-- A removal keeps the items those of a good store.
use Rattle.std.proofs.Common.{◌≡◌, ◌≢◌, ◌∙◌, inl, inr, Bool, true, false, List}
use Rattle.std.proofs.Common.{ap, sym, refl}
use Rattle.std.proofs.lemmas.Bool.{both_ways, false_from_ne_true}
use Rattle.pl_base.specs.declared.id.ItemId.{ItemId}
use Rattle.pl_base.specs.Good.{HasGoodItems, HasTags}
use Rattle.pl_base.specs.Store.{Item, Store}
use Rattle.pl_base.specs.Tags.{tags_root}
use Rattle.pl_base.specs.Tree.{lies_in}
use Rattle.pl_base.proofs.ItemLookUps.{same_item_number}
use Rattle.pl_tree.specs.Changes.{with_removed}
use Rattle.pl_tree.specs.Refused.{is_entry, is_tag}
use Rattle.pl_base.proofs.KeyCounts.{Ascends}
use Rattle.pl_tree.proofs.Causes.{MayChange}
use Rattle.pl_tree.proofs.GoodRows.{HasGoodRows, good_rows, with_tags}
use Rattle.pl_tree.proofs.Insides.{LiesLaws, parent_inside}
use Rattle.pl_tree.proofs.KeptTags.{is_of_tags, kept_tags}
use Rattle.pl_tree.proofs.LookedUp.{id_key, item_key}
use Rattle.pl_tree.proofs.LookedUp.{parent_is}
use Rattle.pl_tree.proofs.RootItems.{IsNoRoot, no_root_above}
use Rattle.pl_tree.proofs.RemovedRows.{found_as_before, removed_rows, top_outside}
use Rattle.pl_tree.proofs.TagItems.{a_tag, an_entry, change_apart, no_child_of_tags, of_tags}
use Rattle.pl_tree.proofs.TreeLaws.{child_once}

module _ (old : Store) (item : ItemId) (up : Ascends item_key old.items) (good : HasGoodItems old)
    (may : MayChange old.items item) (lies : LiesLaws old.items item (lies_in old.items item)) where
  abbrev items : List Item
  items = old.items

  abbrev inside : ItemId → Bool
  inside id = lies_in items item id

  abbrev rows : HasGoodRows old
  rows = good_rows old good

  abbrev no_root : IsNoRoot item
  no_root = no_root_above item may.no_root

  abbrev store : Store
  store = record old { items = with_removed item items }

  root_outside : (x : ItemId) → x.0 ≡ 4 → inside x ≡ false
  root_outside x e =
      ap inside (same_item_number x tags_root e)
      ∙ top_outside old item up rows inside may.there no_root lies 4 (inr (inr (inl refl)))

  tag_outside : (x : ItemId) → is_tag items x ≡ true → x.0 ≢ item.0 → inside x ≡ false
  tag_outside x tag other =
      let t = a_tag items x tag in
      false_from_ne_true (inside x) (λ within.
      both_ways (inside t.root.id) (root_outside t.root.id (ap id_key t.is))
      (parent_inside items item x t.root.id lies within other
      (parent_is items t.root x (child_once items good.tree) t.there t.child)))

  entry_outside : (x : ItemId) → is_entry items x ≡ true → x.0 ≢ item.0 → inside x ≡ false
  entry_outside x entry other =
      let e = an_entry items x entry in
      let tag_not_item : e.folder.id.0 ≢ item.0 = λ same.
      both_ways (is_tag items item) may.no_tag
      (ap (is_tag items) (sym (same_item_number e.folder.id item same)) ∙ e.tag)
      in
      false_from_ne_true (inside x) (λ within.
      both_ways (inside e.folder.id) (tag_outside e.folder.id e.tag tag_not_item)
      (parent_inside items item x e.folder.id lies within other
      (parent_is items e.folder x (child_once items good.tree) e.there e.child)))

  tags_outside : (x : ItemId) → is_of_tags items x ≡ true → inside x ≡ false
  tags_outside x is =
      let other = change_apart items item x may is in
      elim (of_tags items x is) as (λ _. inside x ≡ false) [
        | inl root ↦ root_outside x root
        | inr (inl tag) ↦ tag_outside x tag other
        | inr (inr entry) ↦ entry_outside x entry other
      ]

  tags : HasTags store
  tags =
      kept_tags old store (child_once items good.tree) (λ x is.
      found_as_before old item up rows inside may.there no_root lies x (tags_outside x is) (λ i h e.
      no_child_of_tags old item i up good may h (ap (is_of_tags items) e ∙ is)))
      good.tags

  pub removed_good : HasGoodItems store
  removed_good =
      with_tags store (removed_rows old item up rows inside may.there no_root lies) tags
