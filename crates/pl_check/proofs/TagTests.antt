-- The tests of tags pass exactly where a store's tags are good.
use Rattle.std.proofs.Common.{◌≡◌, ◌≢◌, ◌∙◌, ◌==◌, ℕ, All, Bool, true, false, List}
use Rattle.std.proofs.Common.{[], ◌∷◌, Option, Some, None, ap, arith, find, get_or, if◌then◌else◌, length, map, refl}
use Rattle.std.proofs.Common.{sym}
use Rattle.std.specs.List.{AllPairs, cons_option, filter_map}
use Rattle.std.specs.Option.{IfSome, IsSome}
use Rattle.std.proofs.lemmas.Bool.{and_from, and_parts, eq-eqb, false≢true}
use Rattle.std.proofs.lemmas.List.Elements.{All-cons, All-head, All-nil, All-tail}
use Rattle.std.proofs.lemmas.List.Sums.{AllPass-from_list_all, list_all-from_AllPass}
use Rattle.pl_base.specs.declared.id.ItemId.{ItemId}
use Rattle.pl_base.specs.declared.id.PageId.{PageId}
use Rattle.pl_base.specs.declared.item.ItemKind.TheVariants.{Bookmark}
use Rattle.pl_base.specs.Fold.{folded}
use Rattle.pl_base.specs.Good.{HasTags, IsGoodItem, IsTagFolder}
use Rattle.pl_base.specs.Store.{Item, Store, item_id}
use Rattle.pl_base.specs.Tags.{tags_of, tags_root}
use Rattle.pl_base.specs.Tree.{child_items, children_of, item_at}
use Rattle.pl_check.specs.Items.{is_bookmark, item_ids}
use Rattle.pl_check.specs.Tags.{AreDistinct, HaveGoodTags, IsGoodTag, is_tag_entry, number_of}
use Rattle.pl_base.proofs.IdsLaws.{same_page}
use Rattle.pl_base.proofs.ListLaws.{AllPairs-from_map, AllPairs-map}
use Rattle.pl_base.proofs.LookUps.{found_passes}
use Rattle.pl_base.proofs.Truths.{no_length}
use Rattle.pl_check.proofs.ItemTests.{bookmark_kind}
use Rattle.pl_check.proofs.RootTests.{id_is}

-- ---- children are items

-- what holds of all holds of the one that is found
held : {X : Type 0} (P : X → Type 0) (p : X → Bool) (xs : List X) → All P xs → IfSome (find p xs) P
held P p [] all = tt
held P p (x ∷ xs) all = choose (p x) (All-head P x xs all) (held P p xs (All-tail P x xs all))
  where
    choose : (b : Bool) → P x → IfSome (find p xs) P → IfSome (if b then Some x else find p xs) P
    choose true here rest = here
    choose false here rest = rest

found_hold : (P : Item → Type 0) (items : List Item) (ids : List ItemId) → All P items
    → All P (filter_map (item_at items) ids)
found_hold P items [] all = All-nil P
found_hold P items (id ∷ ids) all =
    choose (item_at items id) (held P (λ (i : Item). i.id.0 == id.0) items all) (found_hold P items ids all)
  where
    choose : (o : Option Item) → IfSome o P → All P (filter_map (item_at items) ids)
        → All P (cons_option o (filter_map (item_at items) ids))
    choose None here rest = rest
    choose (Some i) here rest = All-cons P i (filter_map (item_at items) ids) here rest

-- what was found is found by its own id
found_itself : (items : List Item) (ids : List ItemId)
    → All (λ (i : Item). item_at items i.id ≡ Some i) (filter_map (item_at items) ids)
found_itself items [] = All-nil _
found_itself items (id ∷ ids) = choose (item_at items id) refl (found_itself items ids)
  where
    choose : (o : Option Item) → item_at items id ≡ o
        → All (λ (i : Item). item_at items i.id ≡ Some i) (filter_map (item_at items) ids)
        → All (λ (i : Item). item_at items i.id ≡ Some i) (cons_option o (filter_map (item_at items) ids))
    choose None at rest = rest
    choose (Some i) at rest =
        let own : i.id ≡ id = id_is i.id id.0 (found_passes (λ (j : Item). j.id.0 == id.0) items i at) in
        All-cons (λ (j : Item). item_at items j.id ≡ Some j) i (filter_map (item_at items) ids)
        (ap (item_at items) own ∙ at) rest

-- tags with distinct names have distinct ids
pub distinct_ids : (items : List Item) → HaveGoodTags items
    → AreDistinct (item_ids (child_items items tags_root))
distinct_ids items h =
    let tags = child_items items tags_root in
    let own = found_itself items (children_of items tags_root) in
    AllPairs-map (λ (x y : ℕ). x ≢ y) (λ (i : Item). i.id.0) tags
    (λ i j d before within same.
    let ids : (get_or tags i d).id ≡ (get_or tags j d).id = ap item_id same in
    let found : Some (get_or tags i d) ≡ Some (get_or tags j d) =
    sym (own i d (omega arith)) ∙ ap (item_at items) ids ∙ own j d within in
    let alike : get_or tags i d ≡ get_or tags j d = cc in
    AllPairs-from_map (λ (x y : List ℕ). x ≢ y) (λ (t : Item). folded t.title) tags h.names i j d before within
    (ap (λ (t : Item). folded t.title) alike))

-- ---- entries

entry-to : (i : Item) → is_tag_entry i ≡ true → (i.kind ≡ Bookmark) × (i.title ≡ [])
entry-to i h =
    let parts = and_parts (is_bookmark i.kind) (length i.title == 0) h in
    (bookmark_kind i.kind parts.0, no_length i.title parts.1)

entry-from : (i : Item) → (i.kind ≡ Bookmark) × (i.title ≡ []) → is_tag_entry i ≡ true
entry-from i h =
    and_from (is_bookmark i.kind) (length i.title == 0) (ap is_bookmark h.0)
    (ap (λ (title : List ℕ). length title == 0) h.1)

same_number : (a b : Option PageId) → IsSome a → IsSome b → number_of a ≡ number_of b → a ≡ b
same_number None b some_a some_b same = absurd (false≢true some_a)
same_number (Some a) None some_a some_b same = absurd (false≢true some_b)
same_number (Some a) (Some b) some_a some_b same = ap Some (same_page a b (eq-eqb a.0 b.0 same))

-- items that have pages have distinct ones where the numbers are distinct
pages-to : (items : List Item) → AreDistinct (map (λ (i : Item). number_of i.page) items)
    → AllPairs (λ (i j : Item). i.page ≢ j.page) items
pages-to items h i j d before within same =
    AllPairs-from_map (λ (x y : ℕ). x ≢ y) (λ (i : Item). number_of i.page) items h i j d before within
    (ap number_of same)

pages-from : (items : List Item) → All (λ (i : Item). IsSome i.page) items
    → AllPairs (λ (i j : Item). i.page ≢ j.page) items → AreDistinct (map (λ (i : Item). number_of i.page) items)
pages-from items have h =
    AllPairs-map (λ (x y : ℕ). x ≢ y) (λ (i : Item). number_of i.page) items
    (λ i j d before within same. h i j d before within
    (same_number (get_or items i d).page (get_or items j d).page (have i d (omega arith)) (have j d within) same))

-- ---- tags

tag-to : (store : Store) (tag : Item) → IsGoodTag store.items tag → IsTagFolder store tag
tag-to store tag h =
    record {
      kind = h.tag_folder.kind;
      name = h.tag_folder.name;
      used = h.tag_folder.used;
      entries =
          λ k d within. entry-to (get_or (child_items store.items tag.id) k d)
          (AllPass-from_list_all is_tag_entry (child_items store.items tag.id) h.entries.each k d within);
      pages = pages-to (child_items store.items tag.id) h.entries.pages;
    }

tag-from : (store : Store) (tag : Item) → All (IsGoodItem store) store.items → IsTagFolder store tag
    → IsGoodTag store.items tag
tag-from store tag items h =
    let good = found_hold (IsGoodItem store) store.items (children_of store.items tag.id) items in
    record {
      tag_folder = record { kind = h.kind; name = h.name; used = h.used };
      entries =
          record {
            each =
                list_all-from_AllPass is_tag_entry (child_items store.items tag.id)
                (λ k d within. entry-from (get_or (child_items store.items tag.id) k d) (h.entries k d within));
            pages =
                pages-from (child_items store.items tag.id)
                (λ k d within. (good k d within).bookmark.1 (h.entries k d within).0) h.pages;
          };
    }

pub tags-to : (store : Store) → HaveGoodTags store.items → HasTags store
tags-to store h =
    record {
      folders = λ k d within. tag-to store (get_or (tags_of store) k d) (h.folders k d within);
      names = AllPairs-from_map (λ (x y : List ℕ). x ≢ y) (λ (t : Item). folded t.title) (tags_of store) h.names;
    }

pub tags-from : (store : Store) → All (IsGoodItem store) store.items → HasTags store → HaveGoodTags store.items
tags-from store items h =
    record {
      folders = λ k d within. tag-from store (get_or (tags_of store) k d) items (h.folders k d within);
      names = AllPairs-map (λ (x y : List ℕ). x ≢ y) (λ (t : Item). folded t.title) (tags_of store) h.names;
    }
