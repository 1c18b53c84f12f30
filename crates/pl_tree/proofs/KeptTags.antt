-- The tags stay where the tags root, the tag folders and what is in them are found as before.
use Rattle.std.proofs.Common.{◌≡◌, ◌≢◌, ◌==◌, ◌||◌, ◌∙◌, Bool, true, List, [], Option}
use Rattle.std.proofs.Common.{ap, sym, subst, refl}
use Rattle.std.specs.List.{All, AllPairs, filter_map}
use Rattle.std.specs.Option.{option_and_then}
use Rattle.std.proofs.lemmas.Bool.{or_left, or_right}
use Rattle.std.proofs.lemmas.List.Elements.{All-from_recursion, recursion_from_All}
use Rattle.pl_base.specs.declared.id.ItemId.{ItemId}
use Rattle.pl_base.specs.declared.item.ItemKind.TheVariants.{Bookmark}
use Rattle.pl_base.specs.Fold.{folded}
use Rattle.pl_base.specs.Good.{HasTags, IsTagFolder, child_ids}
use Rattle.pl_base.specs.Store.{Item, Store}
use Rattle.pl_base.specs.Tags.{is_tags_root, tags_of, tags_root}
use Rattle.pl_base.specs.Tree.{child_items, children_of, item_at, parent_of}
use Rattle.pl_base.proofs.Among.{In, all_from_in, at_in, from_filter_map}
use Rattle.pl_tree.specs.Refused.{is_entry, is_tag}
use Rattle.pl_base.proofs.KeyCounts.{Once}
use Rattle.pl_tree.proofs.LookedUp.{children_in, filter_map-alike, found_at, id_key, parent_of_child}

-- the item is the tags root, a tag folder or in one
abbrev pub is_of_tags : List Item → ItemId → Bool
is_of_tags items id = (id.0 == tags_root.0) || is_tag items id || is_entry items id

module _ (items : List Item) (once : Once id_key (child_ids items)) where
  pub tag_is : (c : ItemId) → In c (children_of items tags_root) → is_tag items c ≡ true
  tag_is c h = ap is_tags_root (parent_of_child items tags_root c once h)

  pub entry_is : (t c : ItemId) → is_tag items t ≡ true → In c (children_of items t) → is_entry items c ≡ true
  entry_is t c tag h =
      ap (λ (o : Option ItemId). is_tags_root (option_and_then (parent_of items) o))
      (parent_of_child items t c once h) ∙ tag

  pub tag_there : (t : Item) → In t (child_items items tags_root) → is_tag items t.id ≡ true
  tag_there t h =
      let r = from_filter_map (item_at items) (children_of items tags_root) t h in
      let c : ItemId = r.0 in
      ap (is_tag items) (found_at items c t r.2).1 ∙ tag_is c r.1

  pub root_of_tags : is_of_tags items tags_root ≡ true
  root_of_tags = refl

  pub tag_of_tags : (c : ItemId) → is_tag items c ≡ true → is_of_tags items c ≡ true
  tag_of_tags c is =
      or_left ((c.0 == tags_root.0) || is_tag items c) (is_entry items c)
      (or_right (c.0 == tags_root.0) (is_tag items c) is)

  pub entry_of_tags : (c : ItemId) → is_entry items c ≡ true → is_of_tags items c ≡ true
  entry_of_tags c is =
      or_right ((c.0 == tags_root.0) || is_tag items c) (is_entry items c) is

module _ (old new : Store) (once : Once id_key (child_ids old.items))
    (stays : (id : ItemId) → is_of_tags old.items id ≡ true → item_at new.items id ≡ item_at old.items id) where
  same_children : (id : ItemId) → is_of_tags old.items id ≡ true
      → ((c : ItemId) → In c (children_of old.items id) → is_of_tags old.items c ≡ true)
      → child_items new.items id ≡ child_items old.items id
  same_children id is below =
      ap (λ (o : Option Item). filter_map (item_at new.items) (children_in o)) (stays id is)
      ∙ filter_map-alike (item_at new.items) (item_at old.items) (children_of old.items id)
      (λ c h. stays c (below c h))

  same_tags : tags_of new ≡ tags_of old
  same_tags =
      same_children tags_root (root_of_tags old.items once)
      (λ c h. tag_of_tags old.items once c (tag_is old.items once c h))

  same_entries : (t : Item) → In t (tags_of old) → child_items new.items t.id ≡ child_items old.items t.id
  same_entries t h =
      let tag = tag_there old.items once t h in
      same_children t.id (tag_of_tags old.items once t.id tag)
      (λ c g. entry_of_tags old.items once c (entry_is old.items once t.id c tag g))

  pub kept_tags : HasTags old → HasTags new
  kept_tags tags =
      record {
        folders =
            subst (All (IsTagFolder new)) (sym same_tags)
            (All-from_recursion (IsTagFolder new) (tags_of old)
            (all_from_in (IsTagFolder new) (tags_of old) (λ t h.
            let f : IsTagFolder old t =
            at_in (IsTagFolder old) (tags_of old) t (recursion_from_All (IsTagFolder old) (tags_of old) tags.folders) h
            in
            record {
              kind = f.kind;
              name = f.name;
              used = f.used;
              entries =
                  subst (All (λ (i : Item). (i.kind ≡ Bookmark) × (i.title ≡ []))) (sym (same_entries t h)) f.entries;
              pages = subst (AllPairs (λ (i j : Item). i.page ≢ j.page)) (sym (same_entries t h)) f.pages;
            })));
        names =
            subst (AllPairs (λ (a b : Item). folded a.title ≢ folded b.title)) (sym same_tags) tags.names;
      }
