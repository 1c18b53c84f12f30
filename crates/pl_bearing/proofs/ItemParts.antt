-- What the view of a page has from the items, by what those that have it tell.
use Rattle.std.proofs.Common.{◌≡◌, ◌∙◌, ◌&&◌, ◌||◌, not, Bool, true, false, ℕ, List, [], ◌∷◌}
use Rattle.std.proofs.Common.{Option, Some, None, ap, filter, if◌then◌else◌, map, refl, sym, unwrap_or}
use Rattle.std.specs.List.{list_any}
use Rattle.std.specs.Option.{is_none, option_and_then, option_map}
use Rattle.pl_base.specs.declared.id.ItemId.{ItemId}
use Rattle.pl_base.specs.declared.id.PageId.{PageId}
use Rattle.pl_base.specs.declared.item.ItemKind.TheVariants.{Bookmark}
use Rattle.pl_base.specs.Good.{IsGood}
use Rattle.pl_base.specs.Marks.{is_referenced}
use Rattle.pl_base.specs.Store.{Item, Store}
use Rattle.pl_base.specs.Tags.{is_bookmarked, is_tag_entry, is_tags_root}
use Rattle.pl_base.specs.Tree.{is_page, item_title, parent_of}
use Rattle.pl_base.specs.View.{bookmarks_of, fresher_of, freshest, is_fresher, mark_title}
use Rattle.pl_base.proofs.ListLaws.{filter-map, list_any-map, map-map}
use Rattle.pl_base.proofs.ReferencesRun.{having}
use Rattle.pl_marks.specs.TagFolders.{tag_folder, tag_title, where_tag}
use Rattle.pl_marks.proofs.PageTags.{any_filter, outside_is}
use Rattle.pl_bearing.specs.References.{Reference, reference, references_of}
use Rattle.pl_bearing.proofs.FoundItems.{AreFound}
use Rattle.pl_bearing.proofs.TagParts.{above, are_found}

-- ---- whether some item has the page

-- there is one
abbrev pub is_any : List Reference → Bool
is_any [] = false
is_any (r ∷ rs) = true

any_passes : (f : Item → Reference) (test : Item → Bool) (items : List Item)
    → list_any test items ≡ is_any (map f (filter test items))
any_passes f test [] = refl
any_passes f test (i ∷ items) = choose (test i) (any_passes f test items)
  where
    choose : (b : Bool) → list_any test items ≡ is_any (map f (filter test items))
        → (b || list_any test items) ≡ is_any (map f (if b then i ∷ filter test items else filter test items))
    choose true rest = refl
    choose false rest = rest

pub referenced_is : (store : Store) (page : PageId) → is_referenced store page ≡ is_any (references_of store.items page)
referenced_is store page =
    any_passes (reference store.items) (λ (i : Item). is_page page i.page) store.items

-- ---- whether it is bookmarked

-- the item gives its page no tag
abbrev pub is_untagged : Reference → Bool
is_untagged r = is_none r.tag

untagged_is : (store : Store) (id : ItemId) → AreFound store.items
    → is_none (tag_title store.items id) ≡ not (is_tag_entry store id)
untagged_is store id found = choose (parent_of items id) refl ∙ outside_is store id
  where
    items : List Item
    items = store.items

    at_root : (f : ItemId) → parent_of items id ≡ Some f → (b : Bool)
        → is_none (option_and_then (item_title items) (if b then Some f else None))
        ≡ is_none (if b then Some f else None)
    at_root f within true =
        let q = above items id f found within in
        ap (λ (o : Option Item). is_none (option_map (λ (j : Item). j.title) o)) q.1
    at_root f within false = refl

    choose : (o : Option ItemId) → parent_of items id ≡ o
        → is_none (tag_title items id) ≡ is_none (tag_folder items id)
    choose None within =
        ap (λ (o : Option ItemId). is_none (option_and_then (item_title items) (where_tag items o))) within
        ∙ sym (ap (λ (o : Option ItemId). is_none (where_tag items o)) within)
    choose (Some f) within =
        ap (λ (o : Option ItemId). is_none (option_and_then (item_title items) (where_tag items o))) within
        ∙ at_root f within (is_tags_root (parent_of items f))
        ∙ sym (ap (λ (o : Option ItemId). is_none (where_tag items o)) within)

pub bookmarked_is : (store : Store) (page : PageId) → IsGood store
    → is_bookmarked store page ≡ list_any is_untagged (references_of store.items page)
bookmarked_is store page good =
    any_filter (λ (i : Item). is_page page i.page) (λ (i : Item). not (is_tag_entry store i.id))
    (λ (i : Item). is_none (tag_title store.items i.id)) store.items
    (λ i. untagged_is store i.id (are_found store good))
    ∙ sym (list_any-map is_untagged (reference store.items) (having store.items page))

-- ---- the title of its freshest bookmark

-- an item with the id, the title and the date that are told
abbrev plain : Reference → Item
plain r =
    record {
      id = r.item;
      kind = Bookmark;
      title = r.title;
      page = None;
      added = r.modified;
      modified = r.modified;
      children = [];
    }

-- the title of the freshest item that gives no tag
abbrev pub title_from : List Reference → List ℕ
title_from rs = unwrap_or (option_map (λ (i : Item). i.title) (freshest (map plain (filter is_untagged rs)))) []

filter_both : (p q r : Item → Bool) (items : List Item) → ((i : Item) → r i ≡ q i)
    → filter (λ (i : Item). p i && q i) items ≡ filter r (filter p items)
filter_both p q r [] same = refl
filter_both p q r (i ∷ items) same = choose (p i) (filter_both p q r items same)
  where
    rest : List Item
    rest = filter (λ (j : Item). p j && q j) items

    choose : (b : Bool) → rest ≡ filter r (filter p items)
        → (if b && q i then i ∷ rest else rest) ≡ filter r (if b then i ∷ filter p items else filter p items)
    choose true is =
        ap (λ (js : List Item). if q i then i ∷ js else js) is
        ∙ ap (λ (b : Bool). if b then i ∷ filter r (filter p items) else filter r (filter p items)) (sym (same i))
    choose false is = is

module _ (items : List Item) where
  -- the item as it is told
  abbrev told : Item → Item
  told i = plain (reference items i)

  fresher_told : (i : Item) (o : Option Item) → told (fresher_of i o) ≡ fresher_of (told i) (option_map told o)
  fresher_told i None = refl
  fresher_told i (Some j) = choose (is_fresher i j)
    where
      choose : (b : Bool) → told (if b then i else j) ≡ (if b then told i else told j)
      choose true = refl
      choose false = refl

  freshest_told : (front : List Item) → option_map told (freshest front) ≡ freshest (map told front)
  freshest_told [] = refl
  freshest_told (i ∷ front) =
      ap (λ (j : Item). Some j) (fresher_told i (freshest front))
      ∙ ap (λ (o : Option Item). Some (fresher_of (told i) o)) (freshest_told front)

  title_told : (o : Option Item)
      → option_map (λ (i : Item). i.title) o ≡ option_map (λ (i : Item). i.title) (option_map told o)
  title_told None = refl
  title_told (Some i) = refl

pub mark_title_is : (store : Store) (page : PageId) → IsGood store
    → mark_title store page ≡ title_from (references_of store.items page)
mark_title_is store page good =
    let items : List Item = store.items in
    let outside : Item → Bool = λ (i : Item). is_untagged (reference items i) in
    let bookmarks : bookmarks_of store page ≡ filter outside (having items page) =
    filter_both (λ (i : Item). is_page page i.page) (λ (i : Item). not (is_tag_entry store i.id)) outside items
    (λ i. untagged_is store i.id (are_found store good)) in
    let same : map (told items) (filter outside (having items page))
    ≡ map plain (filter is_untagged (references_of items page)) =
    sym (map-map plain (reference items) (filter outside (having items page)))
    ∙ ap (map plain) (sym (filter-map is_untagged (reference items) (having items page))) in
    ap (λ (is : List Item). unwrap_or (option_map (λ (i : Item). i.title) (freshest is)) []) bookmarks
    ∙ ap (λ (o : Option (List ℕ)). unwrap_or o []) (title_told items (freshest (filter outside (having items page))))
    ∙ ap (λ (o : Option Item). unwrap_or (option_map (λ (i : Item). i.title) o) [])
    (freshest_told items (filter outside (having items page)))
    ∙ ap (λ (is : List Item). unwrap_or (option_map (λ (i : Item). i.title) (freshest is)) []) same
