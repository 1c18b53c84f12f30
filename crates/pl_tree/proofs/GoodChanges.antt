-- Each change of the tree, where it is not refused, keeps the items those of a good store.
use Rattle.std.proofs.Common.{◌≡◌, ◌+◌, ◌<◌, ◌==◌, ◌∙◌, ℕ, List, Option, Some, None, length, sym}
use Rattle.std.specs.Prelude.{◌↔◌, true, IsTrue}
use Rattle.std.specs.Option.{IfSome, IsSome, option_or}
use Rattle.std.proofs.lemmas.List.Elements.{recursion_from_All}
use Rattle.pl_base.specs.declared.date.Micros.{Micros}
use Rattle.pl_base.specs.declared.id.ItemId.{ItemId}
use Rattle.pl_base.specs.declared.id.PageId.{PageId}
use Rattle.pl_base.specs.declared.item.ItemKind.TheVariants.{Bookmark}
use Rattle.pl_base.specs.declared.item.ItemRow.{ItemRow}
use Rattle.pl_base.specs.Date.{IsDate}
use Rattle.pl_base.specs.Good.{HasGoodItems, IsTitle, IsTree, has_page_at}
use Rattle.pl_base.specs.Rows.{IsWellKept, Kept, KeptPage, has_page, store_of, with_items}
use Rattle.pl_base.specs.Store.{Item, Page, item_id}
use Rattle.pl_base.specs.Tree.{children_of, lies_in, retitled, without_id}
use Rattle.pl_base.proofs.ListLaws.{All-from_map, list_any-map}
use Rattle.pl_base.proofs.Among.{In, at_in}
use Rattle.pl_base.proofs.Truths.{neither}
use Rattle.pl_tree.specs.declared.new_item.NewItem.{NewItem}
use Rattle.pl_tree.specs.declared.place.Place.{Place}
use Rattle.pl_tree.specs.declared.tree_change.TreeChange.TheVariants.{Move, Remove, Retitle}
use Rattle.pl_tree.specs.Changes.{with_inserted, with_moved, with_removed}
use Rattle.pl_tree.specs.Refused.{insert_refusal, inside_refusal, item_refusal, parent_refusal, place_refusal, refusal}
use Rattle.pl_tree.proofs.Allowed.{takes_item}
use Rattle.pl_tree.proofs.AncestorLaws.{lies_in_child, lies_in_parent, lies_in_self}
use Rattle.pl_tree.proofs.Causes.{may_change, not_inside, takes}
use Rattle.pl_tree.proofs.GoodInserted.{inserted_good}
use Rattle.pl_tree.proofs.GoodMoved.{moved_good}
use Rattle.pl_tree.proofs.GoodRemoved.{removed_good}
use Rattle.pl_tree.proofs.GoodRetitled.{retitled_good}
use Rattle.pl_tree.proofs.Insides.{LiesLaws}
use Rattle.pl_tree.proofs.PutPlaces.{row_of_new, with_put}
use Rattle.pl_tree.proofs.TreeLaws.{ids_ascend}

pub page_there : (kept : Kept) (page : Option PageId) → IfSome page (λ id. has_page kept id ≡ true)
    → IfSome page (λ id. IsTrue (has_page_at (store_of kept) id))
page_there kept None there = tt
page_there kept (Some id) there =
    list_any-map (λ (p : Page). p.id.0 == id.0) (λ (p : KeptPage). p.page) kept.pages ∙ there

-- an id of the rows lies below the next one
pub below_next : (kept : Kept) → IsWellKept kept → (i : Item) → In i kept.items → i.id.0 < kept.ids.item
below_next kept h i g =
    at_in (λ (j : Item). j.id.0 < kept.ids.item) kept.items i
    (recursion_from_All (λ (j : Item). j.id.0 < kept.ids.item) kept.items
    (λ k d within. (All-from_map (λ n. (0 < n) × (n < kept.ids.item)) (λ (j : Item). j.id.0) kept.items
    h.item_ids.given k d within).1)) g

pub good_put : (kept : Kept) (parent : ItemId) (place : Place) (row : ItemRow) (title : List ℕ) → IsWellKept kept
    → HasGoodItems (store_of kept) → insert_refusal parent place kept ≡ None → IsTitle title → IsDate row.added
    → IsDate row.modified → (IsSome row.page ↔ (row.kind ≡ Bookmark))
    → IfSome row.page (λ id. has_page kept id ≡ true) → HasGoodItems (store_of (with_put parent place row title kept))
good_put kept parent place row title h good none named added modified bookmark page =
    let first = neither (parent_refusal kept.items parent)
    (place_refusal place (length (children_of kept.items parent))) (sym (takes_item kept parent place none))
    in
    inserted_good (store_of kept) (record kept.ids { item = kept.ids.item + 1 }) (item_id kept.ids.item) parent place
    row title (ids_ascend kept.items h.item_ids.ascending) good (takes kept.items parent first.0)
    (below_next kept h) h.item_ids.next_first named added modified bookmark (page_there kept row.page page)

pub good_inserted : (kept : Kept) (parent : ItemId) (place : Place) (new : NewItem) → IsWellKept kept
    → HasGoodItems (store_of kept) → insert_refusal parent place kept ≡ None → IsTitle new.title → IsDate new.date
    → (IsSome new.page ↔ (new.kind ≡ Bookmark)) → IfSome new.page (λ id. has_page kept id ≡ true)
    → HasGoodItems (store_of (with_inserted parent place new kept))
good_inserted kept parent place new h good none named dated bookmark page =
    good_put kept parent place (row_of_new parent new) new.title h good none named dated dated bookmark page

pub good_retitled : (kept : Kept) (item : ItemId) (title : List ℕ) (date : Micros) → IsWellKept kept
    → HasGoodItems (store_of kept) → IsTitle title → IsDate date → refusal kept.items (Retitle item) ≡ None
    → HasGoodItems (store_of (with_items (retitled item title date kept.items) kept))
good_retitled kept item title date h good named dated none =
    retitled_good (store_of kept) item title date good (may_change kept.items item none) named dated

lies_laws : (items : List Item) (item : ItemId) → IsTree items → LiesLaws items item (lies_in items item)
lies_laws items item tree =
    record {
      itself = lies_in_self items item;
      child = λ c p is within. lies_in_child items item c p tree is within;
      parent = lies_in_parent items item;
    }

pub good_moved : (kept : Kept) (item parent : ItemId) (place : Place) (date : Micros) → IsWellKept kept
    → HasGoodItems (store_of kept) → IsDate date → refusal kept.items (Move item parent place) ≡ None
    → HasGoodItems (store_of (with_items (with_moved item parent place date kept.items) kept))
good_moved kept item parent place date h good dated none =
    let items = kept.items in
    let at_place = place_refusal place (length (without_id item (children_of items parent))) in
    let all = neither (item_refusal items item)
    (option_or (parent_refusal items parent) (option_or (inside_refusal items item parent) at_place)) none
    in
    let rest = neither (parent_refusal items parent) (option_or (inside_refusal items item parent) at_place) all.1 in
    let last = neither (inside_refusal items item parent) at_place rest.1 in
    moved_good (store_of kept) item parent place date (ids_ascend items h.item_ids.ascending) good
    (may_change items item all.0) (takes items parent rest.0) (lies_laws items item good.tree)
    (not_inside items item parent last.0) dated

pub good_removed : (kept : Kept) (item : ItemId) → IsWellKept kept → HasGoodItems (store_of kept)
    → refusal kept.items (Remove item) ≡ None
    → HasGoodItems (store_of (with_items (with_removed item kept.items) kept))
good_removed kept item h good none =
    removed_good (store_of kept) item (ids_ascend kept.items h.item_ids.ascending) good
    (may_change kept.items item none) (lies_laws kept.items item good.tree)
