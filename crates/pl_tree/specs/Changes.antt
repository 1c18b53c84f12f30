-- The changes of the bookmark tree, on the lists of child ids.
use Rattle.std.specs.Prelude.{ℕ, ◌+◌, ◌&&◌, not, Bool, List, [], ◌∷◌, ◌++◌}
use Rattle.std.specs.Prelude.{drop, length, map, take}
use Rattle.std.specs.List.{filter, list_any}
use Rattle.pl_base.specs.declared.date.Micros.{Micros}
use Rattle.pl_base.specs.declared.id.ItemId.{ItemId}
use Rattle.pl_base.specs.declared.id.PageId.{PageId}
use Rattle.pl_base.specs.declared.item.ItemRow.{ItemRow}
use Rattle.pl_base.specs.Rows.{Kept}
use Rattle.pl_base.specs.Store.{Item, item_id}
use Rattle.pl_base.specs.Tree.{is_page, leaving, lies_in, new_item, redated, with_changed}
use Rattle.pl_tree.specs.declared.place.Place.{Place}
use Rattle.pl_tree.specs.declared.place.Place.TheVariants.{End, Number}
use Rattle.pl_tree.specs.declared.new_item.NewItem.{NewItem}

-- ---- places

-- the position that a place names in a list of so many ids
abbrev pub position : Place → ℕ → ℕ
position End count = count
position (Number n) count = n

-- ids with one more, at a position
abbrev pub put_at : ℕ → ItemId → List ItemId → List ItemId
put_at n id ids = take n ids ++ id ∷ drop n ids

-- ids with one more, at a place
abbrev pub put : Place → ItemId → List ItemId → List ItemId
put place id ids = put_at (position place (length ids)) id ids

-- the items where this folder has one more child, at a place
abbrev pub with_child : ItemId → Place → ItemId → List Item → List Item
with_child parent place id items =
    with_changed parent (λ i. record i { children = put place id i.children }) items

-- ---- a new item

-- the item by this id
abbrev pub item_of : ItemId → NewItem → Item
item_of id new =
    record {
      id = id;
      kind = new.kind;
      title = new.title;
      page = new.page;
      added = new.date;
      modified = new.date;
      children = [];
    }

-- the items with the new one, at a place of this folder
abbrev pub with_new : ItemId → ItemId → Place → NewItem → List Item → List Item
with_new id parent place new items = with_child parent place id items ++ item_of id new ∷ []

-- the rows with the new item, which has the next id
abbrev pub with_inserted : ItemId → Place → NewItem → Kept → Kept
with_inserted parent place new kept =
    record kept {
      ids = record kept.ids { item = kept.ids.item + 1 };
      items = with_new (item_id kept.ids.item) parent place new kept.items;
    }

-- the rows with the item of a row at the end of this folder; it has the next id
abbrev pub with_appended : ItemId → ItemRow → List ℕ → Kept → Kept
with_appended parent row title kept =
    record kept {
      ids = record kept.ids { item = kept.ids.item + 1 };
      items = with_child parent End (item_id kept.ids.item) kept.items
          ++ new_item (item_id kept.ids.item) row title ∷ [];
    }

-- ---- a move

-- the items without this one among the children of any
abbrev pub taken_out : ItemId → List Item → List Item
taken_out id items = map (leaving id) items

-- the items where this one, taken out first, is at a place of that folder, and was modified
abbrev pub with_moved : ItemId → ItemId → Place → Micros → List Item → List Item
with_moved id parent place date items =
    redated id date (with_child parent place id (taken_out id items))

-- ---- a removal

-- the items without this one and all below it
abbrev pub with_removed : ItemId → List Item → List Item
with_removed id items =
    taken_out id (filter (λ (i : Item). not (lies_in items id i.id)) items)

-- the page is one of this item or of one below it
abbrev pub loses_item : List Item → ItemId → PageId → Bool
loses_item items id page =
    list_any (λ (i : Item). lies_in items id i.id && is_page page i.page) items
