-- Each change of the tree, where it is not refused, keeps the items of any store those of a good
-- one.
use Rattle.std.proofs.Common.{◌≡◌, ◌<◌, ◌≤◌, ℕ, All, List, Option, Some, None, length, map, refl}
use Rattle.std.specs.Prelude.{◌↔◌, IsTrue, bytes_eq}
use Rattle.std.specs.List.Sorted.{IsStrictlyIncreasing}
use Rattle.std.specs.Option.{IfSome, IsSome, option_and_then, option_or}
use Rattle.std.proofs.lemmas.List.Elements.{recursion_from_All}
use Rattle.pl_base.specs.declared.date.Micros.{Micros}
use Rattle.pl_base.specs.declared.id.Ids.{Ids}
use Rattle.pl_base.specs.declared.id.ItemId.{ItemId}
use Rattle.pl_base.specs.declared.id.PageId.{PageId}
use Rattle.pl_base.specs.declared.item.ItemKind.TheVariants.{Bookmark}
use Rattle.pl_base.specs.Date.{IsDate}
use Rattle.pl_base.specs.Fold.{folded}
use Rattle.pl_base.specs.Good.{HasGoodItems, IsTitle, has_page_at}
use Rattle.pl_base.specs.Store.{Item, Store, item_id}
use Rattle.pl_base.specs.Tags.{tags_root}
use Rattle.pl_base.specs.Tree.{child_items, children_of, is_page, lies_in, retitled, without_id}
use Rattle.pl_base.proofs.Among.{at_in, from_found}
use Rattle.pl_base.proofs.Truths.{neither}
use Rattle.pl_tree.specs.declared.new_item.NewItem.{NewItem}
use Rattle.pl_tree.specs.declared.place.Place.{Place}
use Rattle.pl_tree.specs.declared.tree_change.TreeChange.TheVariants.{Insert, Move, Remove, Retitle}
use Rattle.pl_tree.specs.Changes.{with_moved, with_new, with_removed}
use Rattle.pl_tree.specs.Refused.{inside_refusal, item_refusal, parent_refusal, place_refusal, refusal}
use Rattle.pl_tree.specs.Tagged.{entry_in, tag_named, untagged_items, without_entry}
use Rattle.pl_tree.proofs.AncestorLaws.{lies_in_child, lies_in_parent, lies_in_self}
use Rattle.pl_tree.proofs.Causes.{may_change, not_inside, takes}
use Rattle.pl_tree.proofs.EntryRemoved.{unused_good}
use Rattle.pl_tree.proofs.GoodInserted.{inserted_good}
use Rattle.pl_tree.proofs.GoodMoved.{moved_good}
use Rattle.pl_tree.proofs.GoodRemoved.{removed_good}
use Rattle.pl_tree.proofs.GoodRetitled.{retitled_good}
use Rattle.pl_tree.proofs.Insides.{LiesLaws}
use Rattle.pl_base.proofs.KeyCounts.{Ascends}
use Rattle.pl_tree.proofs.LookedUp.{item_key}
use Rattle.pl_tree.proofs.PutPlaces.{row_of_new}
use Rattle.pl_tree.proofs.TreeLaws.{ids_ascend}
pub use Rattle.pl_tree.proofs.Causes.{if_none}

module _ (old : Store) (good : HasGoodItems old)
    (ascending : IsStrictlyIncreasing (map (λ (i : Item). i.id.0) old.items)) where
  abbrev items : List Item
  items = old.items

  up : Ascends item_key items
  up = ids_ascend items ascending

  lies : (item : ItemId) → LiesLaws items item (lies_in items item)
  lies item =
      record {
        itself = lies_in_self items item;
        child = λ c p is within. lies_in_child items item c p good.tree is within;
        parent = lies_in_parent items item;
      }

  pub item_inserted : (ids : Ids) (next : ℕ) (parent : ItemId) (place : Place) (new : NewItem)
      → All (λ (i : Item). i.id.0 < next) old.items → 7 ≤ next → refusal old.items (Insert parent place) ≡ None
      → IsTitle new.title → IsDate new.date → (IsSome new.page ↔ (new.kind ≡ Bookmark))
      → IfSome new.page (λ page. IsTrue (has_page_at old page))
      → HasGoodItems (record old { ids = ids; items = with_new (item_id next) parent place new old.items })
  item_inserted ids next parent place new below late none named dated bookmark page =
      let free = neither (parent_refusal items parent) (place_refusal place (length (children_of items parent))) none in
      inserted_good old ids (item_id next) parent place (row_of_new parent new) new.title up good
      (takes items parent free.0)
      (λ i h.
      at_in (λ (j : Item). j.id.0 < next) items i (recursion_from_All (λ (j : Item). j.id.0 < next) items below) h)
      late named dated dated bookmark page

  pub item_moved : (item parent : ItemId) (place : Place) (date : Micros) → IsDate date
      → refusal old.items (Move item parent place) ≡ None
      → HasGoodItems (record old { items = with_moved item parent place date old.items })
  item_moved item parent place date dated none =
      let at_place = place_refusal place (length (without_id item (children_of items parent))) in
      let all = neither (item_refusal items item)
      (option_or (parent_refusal items parent) (option_or (inside_refusal items item parent) at_place)) none
      in
      let rest = neither (parent_refusal items parent) (option_or (inside_refusal items item parent) at_place) all.1 in
      let last = neither (inside_refusal items item parent) at_place rest.1 in
      moved_good old item parent place date up good (may_change items item all.0) (takes items parent rest.0)
      (lies item) (not_inside items item parent last.0) dated

  pub item_retitled : (item : ItemId) (title : List ℕ) (date : Micros) → IsTitle title → IsDate date
      → refusal old.items (Retitle item) ≡ None
      → HasGoodItems (record old { items = retitled item title date old.items })
  item_retitled item title date named dated none =
      retitled_good old item title date good (may_change items item none) named dated

  pub item_removed : (item : ItemId) → refusal old.items (Remove item) ≡ None
      → HasGoodItems (record old { items = with_removed item old.items })
  item_removed item none = removed_good old item up good (may_change items item none) (lies item)

  -- a tag that the page has not leaves the items
  pub tag_taken : (page : PageId) (name : List ℕ)
      → HasGoodItems (record old { items = untagged_items page name old.items })
  tag_taken page name = choose (tag_named name items) refl
    where
      found : (tag : Item) → tag_named name items ≡ Some tag → (e : Option Item) → entry_in items page tag ≡ e
          → HasGoodItems (record old { items = without_entry (Some tag) e items })
      found tag is None at = good
      found tag is (Some entry) at =
          unused_good old up good tag entry
          (from_found (λ (t : Item). bytes_eq (folded t.title) (folded name)) (child_items items tags_root) tag is).0
          (from_found (λ (i : Item). is_page page i.page) (child_items items tag.id) entry at).0

      choose : (o : Option Item) → tag_named name items ≡ o
          → HasGoodItems (record old { items = without_entry o (option_and_then (entry_in items page) o) items })
      choose None is = good
      choose (Some tag) is = found tag is (entry_in items page tag) refl
