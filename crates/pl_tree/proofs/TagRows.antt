-- The tags by their rows alone, without the children of each row: that a tag folder is not empty is
-- told apart.
use Rattle.std.proofs.Common.{◌≡◌, ◌≢◌, List, [], Some, map, subst, sym}
use Rattle.std.specs.List.{AllPairs}
use Rattle.std.proofs.lemmas.List.Elements.{All-from_recursion, recursion_from_All}
use Rattle.pl_base.specs.declared.id.ItemId.{ItemId}
use Rattle.pl_base.specs.declared.item.ItemKind.TheVariants.{Bookmark, Folder}
use Rattle.pl_base.specs.Fold.{folded}
use Rattle.pl_base.specs.Good.{HasTags, IsTagFolder, IsTagName}
use Rattle.pl_base.specs.Store.{Item, Store}
use Rattle.pl_base.specs.Tags.{tags_of, tags_root}
use Rattle.pl_base.specs.Tree.{child_items, children_of, item_at}
use Rattle.pl_base.proofs.ItemLaws.{bare}
use Rattle.pl_base.proofs.ListLaws.{AllPairs-from_map, AllPairs-map}
use Rattle.pl_base.proofs.Among.{In, all_from_in, at_in, from_filter_map, from_map, in_map}
use Rattle.pl_tree.proofs.LookedUp.{found_at}

-- the children of an item, without their own
abbrev pub child_rows : List Item → ItemId → List Item
child_rows items id = map bare (child_items items id)

pub record IsTagRow (items : List Item) (tag : Item) : Type 0 where
  pub kind : tag.kind ≡ Folder
  pub name : IsTagName tag.title
  pub entries : (i : Item) → In i (child_rows items tag.id) → (i.kind ≡ Bookmark) × (i.title ≡ [])
  pub pages : AllPairs (λ (i j : Item). i.page ≢ j.page) (child_rows items tag.id)

pub record HasTagRows (items : List Item) : Type 0 where
  pub folders : (t : Item) → In t (child_rows items tags_root) → IsTagRow items t
  pub names : AllPairs (λ (a b : Item). folded a.title ≢ folded b.title) (child_rows items tags_root)

-- no tag folder is empty
abbrev pub AreUsed : List Item → Type 0
AreUsed items = (t : Item) → In t (child_items items tags_root) → t.children ≢ []

pub tag_folder : (store : Store) (t : Item) → HasTags store → In t (tags_of store) → IsTagFolder store t
tag_folder store t tags h =
    at_in (IsTagFolder store) (tags_of store) t (recursion_from_All (IsTagFolder store) (tags_of store) tags.folders) h

pub are_used : (store : Store) → HasTags store → AreUsed store.items
are_used store tags t h = (tag_folder store t tags h).used

pub tag_rows : (store : Store) → HasTags store → HasTagRows store.items
tag_rows store tags =
    record {
      folders =
          λ t h.
          let r = from_map bare (tags_of store) t h in
          subst (IsTagRow store.items) (sym r.2) (row r.0 (tag_folder store r.0 tags r.1));
      names =
          AllPairs-map (λ (a b : Item). folded a.title ≢ folded b.title) bare (tags_of store) tags.names;
    }
  where
    row : (t : Item) → IsTagFolder store t → IsTagRow store.items (bare t)
    row t f =
        let within : List Item = child_items store.items t.id in
        record {
          kind = f.kind;
          name = f.name;
          entries =
              λ i h.
              let r = from_map bare within i h in
              subst (λ (j : Item). (j.kind ≡ Bookmark) × (j.title ≡ [])) (sym r.2)
              (at_in (λ (j : Item). (j.kind ≡ Bookmark) × (j.title ≡ [])) within r.0
              (recursion_from_All (λ (j : Item). (j.kind ≡ Bookmark) × (j.title ≡ [])) within f.entries) r.1);
          pages = AllPairs-map (λ (i j : Item). i.page ≢ j.page) bare within f.pages;
        }

pub has_tags : (store : Store) → HasTagRows store.items → AreUsed store.items → HasTags store
has_tags store rows used =
    record {
      folders =
          All-from_recursion (IsTagFolder store) (tags_of store)
          (all_from_in (IsTagFolder store) (tags_of store) (λ t h.
          folder t (used t h) (rows.folders (bare t) (in_map bare (tags_of store) t h))));
      names =
          AllPairs-from_map (λ (a b : Item). folded a.title ≢ folded b.title) bare (tags_of store) rows.names;
    }
  where
    folder : (t : Item) → t.children ≢ [] → IsTagRow store.items (bare t) → IsTagFolder store t
    folder t some r =
        let within : List Item = child_items store.items t.id in
        record {
          kind = r.kind;
          name = r.name;
          used = some;
          entries =
              All-from_recursion (λ (j : Item). (j.kind ≡ Bookmark) × (j.title ≡ [])) within
              (all_from_in (λ (j : Item). (j.kind ≡ Bookmark) × (j.title ≡ [])) within
              (λ i h. r.entries (bare i) (in_map bare within i h)));
          pages = AllPairs-from_map (λ (i j : Item). i.page ≢ j.page) bare within r.pages;
        }

-- a child, as it was looked up
pub child_at : (items : List Item) (p : ItemId) (i : Item) → In i (child_items items p)
    → In i.id (children_of items p) × (item_at items i.id ≡ Some i)
child_at items p i h =
    let r = from_filter_map (item_at items) (children_of items p) i h in
    let c : ItemId = r.0 in
    let same : c ≡ i.id = sym (found_at items c i r.2).1 in (
      subst (λ (d : ItemId). In d (children_of items p)) same r.1,
      subst (λ (d : ItemId). item_at items d ≡ Some i) same r.2,
    )

-- a row stands for a child
pub row_child : (items : List Item) (p : ItemId) (i : Item) → In i (child_rows items p) → In i.id (children_of items p)
row_child items p i h =
    let r = from_map bare (child_items items p) i h in
    subst (λ (k : Item). In k.id (children_of items p)) (sym r.2) (child_at items p r.0 r.1).0
