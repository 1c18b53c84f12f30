-- What a change needs of the rows, where it is not refused.
use Rattle.std.proofs.Common.{◌≡◌, ◌≢◌, ◌≤◌, ◌+◌, ◌∙◌, ◌==◌, ℕ, Bool, true, false, List, Option, Some}
use Rattle.std.proofs.Common.{None, IfSome, ap, arith}
use Rattle.std.proofs.Common.{if◌then◌else◌, length, map, refl, sym}
use Rattle.std.specs.Option.{option_or}
use Rattle.std.proofs.lemmas.Bool.{ne_eqb}
use Rattle.pl_base.specs.declared.id.IdKind.TheVariants.{Item as ItemIds}
use Rattle.pl_base.specs.declared.id.ItemId.{ItemId}
use Rattle.pl_base.specs.declared.item.ItemRow.{ItemRow}
use Rattle.pl_base.specs.declared.refusal.Refusal.{Refusal}
use Rattle.pl_base.specs.declared.refusal.Refusal.TheVariants.{NoIds}
use Rattle.pl_base.specs.Good.{IsTree, end_of_ids}
use Rattle.pl_base.specs.Live.{chunks, live_slots, slot_limit}
use Rattle.pl_base.specs.Rows.{Kept, live_with_item, store_of}
use Rattle.pl_base.specs.Store.{Item, item_id}
use Rattle.pl_base.specs.Tree.{IsFolder, adopting, children_of, has_item, leaving, lies_in, moved, parent_of}
use Rattle.pl_base.specs.Tree.{put_behind, without_id}
use Rattle.pl_base.proofs.ItemLaws.{count_inserted, slots_inserted}
use Rattle.pl_base.proofs.Truths.{neither}
use Rattle.pl_tree.specs.declared.place.Place.{Place}
use Rattle.pl_tree.specs.declared.tree_change.TreeChange.TheVariants.{Insert, Move}
use Rattle.pl_tree.specs.Places.{before}
use Rattle.pl_tree.specs.Refused.{insert_refusal, inside_refusal, item_refusal, parent_refusal, place_refusal, refusal}
use Rattle.pl_tree.proofs.Causes.{may_change, not_inside, takes}
use Rattle.pl_tree.proofs.ChildLists.{from_without}
use Rattle.pl_tree.proofs.LookedUp.{folder_at, parent_of_child}
use Rattle.pl_tree.proofs.MappedItems.{has_map}
use Rattle.pl_tree.proofs.PutPlaces.{before_in}
use Rattle.pl_tree.proofs.RefusalSteps.{next_cause}
use Rattle.pl_tree.proofs.TreeLaws.{child_once}

-- ---- a new item

-- neither the parent nor the place is refused
pub takes_item : (kept : Kept) (parent : ItemId) (place : Place) → insert_refusal parent place kept ≡ None
    → None ≡ refusal kept.items (Insert parent place)
takes_item kept parent place none =
    sym (neither (refusal kept.items (Insert parent place))
    (if kept.ids.item == end_of_ids then Some (NoIds ItemIds) else None) none).0

pub insert_allowed : (kept : Kept) (parent : ItemId) (place : Place) → None ≡ refusal kept.items (Insert parent place)
    → (kept.ids.item ≡ end_of_ids → ⊥) → insert_refusal parent place kept ≡ None
insert_allowed kept parent place none some =
    sym (next_cause None (refusal kept.items (Insert parent place))
    (if kept.ids.item == end_of_ids then Some (NoIds ItemIds) else None) none
    (sym (ap (λ (b : Bool). let o : Option Refusal = if b then Some (NoIds ItemIds) else None in o)
    (ne_eqb kept.ids.item end_of_ids some))))

taking_folder : (items : List Item) (parent : ItemId) → parent_refusal items parent ≡ None → IsFolder items parent
taking_folder items parent none =
    let t = takes items parent none in
    folder_at items parent t.folder t.there t.kind

pub parent_there : (items : List Item) (parent : ItemId) (place : Place)
    → None ≡ refusal items (Insert parent place) → IsFolder items parent
parent_there items parent place none =
    taking_folder items parent
    (neither (parent_refusal items parent) (place_refusal place (length (children_of items parent))) (sym none)).0

pub after_there : (items : List Item) (parent : ItemId) (place : Place) (after : Option ItemId) → IsTree items
    → after ≡ before place (children_of items parent) → IfSome after (λ id. parent_of items id ≡ Some parent)
after_there items parent place None tree is = tt
after_there items parent place (Some id) tree is =
    parent_of_child items parent id (child_once items tree)
    (before_in place (children_of items parent) id (sym is))

pub live_inserted : (kept : Kept) (row : ItemRow) (title : List ℕ) (after : Option ItemId)
    → live_slots (store_of kept) + 1 + chunks title ≤ slot_limit → live_with_item row title after kept ≤ slot_limit
live_inserted kept row title after live =
    omega (
      arith,
      slots_inserted (item_id kept.ids.item) row title after kept.items,
      count_inserted (item_id kept.ids.item) row title after kept.items,
    )

-- ---- a move

pub move_parent_there : (items : List Item) (item parent : ItemId) (place : Place)
    → None ≡ refusal items (Move item parent place)
    → IsFolder items parent × (lies_in items item parent ≡ false)
move_parent_there items item parent place none =
    let at_place = place_refusal place (length (without_id item (children_of items parent))) in
    let all = neither (item_refusal items item)
    (option_or (parent_refusal items parent) (option_or (inside_refusal items item parent) at_place)) (sym none)
    in
    let parts = neither (parent_refusal items parent) (option_or (inside_refusal items item parent) at_place) all.1 in (
      taking_folder items parent parts.0,
      not_inside items item parent (neither (inside_refusal items item parent) at_place parts.1).0,
    )

pub move_item_there : (items : List Item) (item parent : ItemId) (place : Place)
    → None ≡ refusal items (Move item parent place) → has_item items item ≡ true
move_item_there items item parent place none =
    let at_place = place_refusal place (length (without_id item (children_of items parent))) in
    (may_change items item
    (neither (item_refusal items item)
    (option_or (parent_refusal items parent) (option_or (inside_refusal items item parent) at_place))
    (sym none)).0).there

pub move_after_there : (items : List Item) (item parent : ItemId) (place : Place) (after : Option ItemId)
    → IsTree items → after ≡ before place (without_id item (children_of items parent))
    → IfSome after (λ id. (id ≢ item) × (parent_of items id ≡ Some parent))
move_after_there items item parent place None tree is = tt
move_after_there items item parent place (Some id) tree is =
    let within = from_without item (children_of items parent) id
    (before_in place (without_id item (children_of items parent)) id (sym is)) in (
      λ same. within.1 (ap (λ (c : ItemId). c.0) same),
      parent_of_child items parent id (child_once items tree) within.0,
    )

-- the same items are there
pub has_moved : (item parent : ItemId) (after : Option ItemId) (items : List Item) → has_item items item ≡ true
    → has_item (moved item parent after items) item ≡ true
has_moved item parent after items there =
    has_map (adopting parent after item) (λ i. adopting_id i) (map (leaving item) items) item
    ∙ has_map (leaving item) (λ i. refl) items item ∙ there
  where
    adopting_id : (i : Item) → (adopting parent after item i).id ≡ i.id
    adopting_id i = choose (i.id.0 == parent.0)
      where
        choose : (b : Bool)
            → (if b then record i { children = put_behind after item i.children } else i).id ≡ i.id
        choose true = refl
        choose false = refl
