-- A new item, whatever item gets it as a child, leaves what the items of all other pages tell.
use Rattle.std.proofs.Common.{◌≡◌, ◌≢◌, ◌++◌, ◌==◌, ◌∙◌, Bool, true, false, List, [], ◌∷◌, Some, IfSome, ap, arith}
use Rattle.std.proofs.Common.{map, refl, sym}
use Rattle.std.specs.List.{list_any}
use Rattle.std.specs.Option.{option_map}
use Rattle.std.proofs.lemmas.Bool.{ne_eqb}
use Rattle.pl_base.specs.declared.id.ItemId.{ItemId}
use Rattle.pl_base.specs.declared.id.PageId.{PageId}
use Rattle.pl_base.specs.Rows.{IsWellKept, Kept}
use Rattle.pl_base.specs.Store.{Item, item_id}
use Rattle.pl_base.specs.Tags.{is_tags_root}
use Rattle.pl_base.specs.Tree.{has_child, is_page, item_title, parent_of}
use Rattle.pl_base.proofs.Among.{In}
use Rattle.pl_tree.specs.declared.new_item.NewItem.{NewItem}
use Rattle.pl_tree.specs.declared.place.Place.{Place}
use Rattle.pl_tree.specs.Changes.{item_of, with_child, with_inserted, with_new}
use Rattle.pl_tree.proofs.GoodChanges.{below_next}
use Rattle.pl_marks.specs.Alike.{is_one_of}
use Rattle.pl_marks.specs.TagFolders.{tag_title}
use Rattle.pl_bearing.specs.References.{AreReferencesAlike, reference}
use Rattle.pl_bearing.proofs.FoundItems.{filter_front, find_front, parent_there}
use Rattle.pl_bearing.proofs.MappedReferences.{grown, grown_child, grown_same, other_page, parent_mapped}
use Rattle.pl_bearing.proofs.MappedReferences.{reference_alike, references_mapped, tag_title_alike, title_mapped}

-- the row is the last of them, has this id, and has no child
module _ (items : List Item) (id parent : ItemId) (place : Place) (row : Item) (own : row.id ≡ id)
    (leaf : row.children ≡ []) where
  abbrev grow : Item → Item
  grow = grown parent place id

  abbrev news : List Item
  news = with_child parent place id items ++ row ∷ []

  grow_id : (i : Item) → (grow i).id ≡ i.id
  grow_id i = grown_same parent place id (λ (j : Item). j.id) (λ j. refl) i

  pub parent_stays : (c : ItemId) → c.0 ≢ id.0 → parent_of news c ≡ parent_of items c
  parent_stays c other =
      ap (option_map (λ (i : Item). i.id))
      (find_front (has_child c) (map grow items) (row ∷ []) (ap (list_any (λ (d : ItemId). d.0 == c.0)) leaf, tt))
      ∙ parent_mapped grow c items grow_id
      (grown_child parent place id c (ne_eqb id.0 c.0 (λ same. other (sym same))))

  title_stays : (p : ItemId) → p.0 ≢ id.0 → item_title news p ≡ item_title items p
  title_stays p other =
      ap (option_map (λ (i : Item). i.title))
      (find_front (λ (i : Item). i.id.0 == p.0) (map grow items) (row ∷ [])
      (ne_eqb row.id.0 p.0 (λ same. other (sym same ∙ ap (λ (c : ItemId). c.0) own)), tt))
      ∙ title_mapped grow p items grow_id
      (λ i _. grown_same parent place id (λ (j : Item). j.title) (λ j. refl) i)

  -- no other has its id
  module _ (fresh : (i : Item) → In i items → i.id.0 ≢ id.0) where
    -- each old item gives the tag that it gave
    new_tag_title : (c : ItemId) → c.0 ≢ id.0 → tag_title news c ≡ tag_title items c
    new_tag_title c other =
        tag_title_alike items news c (parent_stays c other)
        (λ p is. ap is_tags_root (parent_stays p (apart p is)))
        (λ p is _. title_stays p (apart p is))
      where
        apart : (p : ItemId) → parent_of items c ≡ Some p → p.0 ≢ id.0
        apart p is same =
            let r = parent_there items c p is in
            fresh r.0 r.1 (ap (λ (d : ItemId). d.0) r.2 ∙ same)

    -- where the new item has one of these pages or none
    row_alike : (ids : List PageId)
        → ((page : PageId) → is_one_of ids page ≡ false → is_page page row.page ≡ false)
        → AreReferencesAlike ids items news
    row_alike ids apart page other =
        let test : Item → Bool = λ (i : Item). is_page page i.page in
        ap (map (reference news)) (filter_front test (map grow items) (row ∷ []) (apart page other, tt))
        ∙ references_mapped (reference news) (reference items) grow test items
        (λ i h. grown_same parent place id test (λ j. refl) i)
        (λ i h has.
        reference_alike items news i (grow i) (grow_id i)
        (grown_same parent place id (λ (j : Item). j.title) (λ j. refl) i)
        (grown_same parent place id (λ (j : Item). j.modified) (λ j. refl) i) (new_tag_title i.id (fresh i h)))

-- a new item at a place of any other
pub new_alike : (ids : List PageId) (items : List Item) (id parent : ItemId) (place : Place) (new : NewItem)
    → ((i : Item) → In i items → i.id.0 ≢ id.0)
    → ((page : PageId) → is_one_of ids page ≡ false → is_page page new.page ≡ false)
    → AreReferencesAlike ids items (with_new id parent place new items)
new_alike ids items id parent place new fresh apart =
    row_alike items id parent place (item_of id new) refl refl fresh ids apart

-- of rows, where it has the next id
pub inserted_alike : (kept : Kept) (parent : ItemId) (place : Place) (new : NewItem) (ids : List PageId)
    → IsWellKept kept → IfSome new.page (λ page. is_one_of ids page ≡ true)
    → AreReferencesAlike ids kept.items (with_inserted parent place new kept).items
inserted_alike kept parent place new ids h within =
    new_alike ids kept.items (item_id kept.ids.item) parent place new
    (λ i g same. let below = below_next kept h i g in omega arith)
    (λ page out. other_page ids page new.page out within)
