-- Why a change of the bookmark tree is refused.
use Rattle.std.specs.Prelude.{◌==◌, ◌||◌, ◌+◌, not, ℕ, Bool, true, false, List, length, nat_le}
use Rattle.std.specs.Prelude.{nat_lt, Option, Some, None, if◌then◌else◌}
use Rattle.std.specs.Option.{is_none, is_some, option_and_then, option_or}
use Rattle.pl_base.specs.declared.id.IdKind.TheVariants.{Item as ItemIds}
use Rattle.pl_base.specs.declared.id.ItemId.{ItemId}
use Rattle.pl_base.specs.declared.id.PageId.{PageId}
use Rattle.pl_base.specs.declared.item.ItemKind.{ItemKind}
use Rattle.pl_base.specs.declared.item.ItemKind.TheVariants.{Bookmark, Folder, Separator}
use Rattle.pl_base.specs.declared.refusal.Refusal.{Refusal}
use Rattle.pl_base.specs.declared.refusal.Refusal.TheVariants.{NoItem, NotAFolder, Fixed}
use Rattle.pl_base.specs.declared.refusal.Refusal.TheVariants.{BadPlace, Inside, NoIds}
use Rattle.pl_base.specs.declared.refusal.Refusal.TheVariants.{DupTag, NoTag}
use Rattle.pl_base.specs.Good.{end_of_ids}
use Rattle.pl_base.specs.Rows.{Kept}
use Rattle.pl_base.specs.Store.{Item, item_id}
use Rattle.pl_base.specs.Tags.{is_tags_root, tags_root}
use Rattle.pl_base.specs.Tree.{children_of, has_item, item_at, lies_in, parent_of, without_id}
use Rattle.pl_tree.specs.declared.place.Place.{Place}
use Rattle.pl_tree.specs.declared.place.Place.TheVariants.{End, Number}
use Rattle.pl_tree.specs.declared.tree_change.TreeChange.{TreeChange}
use Rattle.pl_tree.specs.declared.tree_change.TreeChange.TheVariants.{Insert, Move, Retitle}
use Rattle.pl_tree.specs.declared.tree_change.TreeChange.TheVariants.{Remove}
use Rattle.pl_tree.specs.Tagged.{new_items, tag_entry}

-- ---- what stays as it is

-- the last of the roots, which have the first ids
abbrev pub last_root : ItemId
last_root = item_id 6

-- the item is a root
abbrev pub is_root : ItemId → Bool
is_root id = nat_le id.0 last_root.0

-- the item is a tag folder: a child of the tags root
abbrev pub is_tag : List Item → ItemId → Bool
is_tag items id = is_tags_root (parent_of items id)

-- the item is in a tag folder
abbrev pub is_entry : List Item → ItemId → Bool
is_entry items id =
    is_tags_root (option_and_then (parent_of items) (parent_of items id))

-- the item is a root, a tag folder or in one
abbrev pub is_fixed : List Item → ItemId → Bool
is_fixed items id = is_root id || is_tag items id || is_entry items id

-- the folder is the root over all, the tags root or a tag folder
abbrev pub is_closed : List Item → ItemId → Bool
is_closed items id = (id.0 == 1) || (id.0 == tags_root.0) || is_tag items id

-- ---- refusals

-- a kind that may have children
abbrev pub is_folder_kind : ItemKind → Bool
is_folder_kind Folder = true
is_folder_kind Bookmark = false
is_folder_kind Separator = false

-- of an item that is to be there, where it is
abbrev of_folder : ItemId → Option Item → Option Refusal
of_folder id None = Some (NoItem id)
of_folder id (Some i) = if is_folder_kind i.kind then None else Some (NotAFolder id)

-- the item is to be there, and a folder
abbrev pub folder_refusal : List Item → ItemId → Option Refusal
folder_refusal items id = of_folder id (item_at items id)

-- the folder is to take items
abbrev pub parent_refusal : List Item → ItemId → Option Refusal
parent_refusal items id =
    option_or (folder_refusal items id) (if is_closed items id then Some (Fixed id) else None)

-- the item is to be there, and may change
abbrev pub item_refusal : List Item → ItemId → Option Refusal
item_refusal items id =
    if not (has_item items id) then Some (NoItem id) else
    if is_fixed items id then Some (Fixed id) else None

-- a place is to lie within a list of so many ids
abbrev pub place_refusal : Place → ℕ → Option Refusal
place_refusal End count = None
place_refusal (Number n) count = if nat_lt count n then Some (BadPlace n count) else None

-- the parent is not to be the item or to lie below it
abbrev pub inside_refusal : List Item → ItemId → ItemId → Option Refusal
inside_refusal items item parent = if lies_in items item parent then Some (Inside item) else None

-- the first cause to refuse a change. A move counts positions in the list without the item
abbrev pub refusal : List Item → TreeChange → Option Refusal
refusal items (Insert parent place) =
    option_or (parent_refusal items parent)
    (place_refusal place (length (children_of items parent)))
refusal items (Move item parent place) =
    option_or (item_refusal items item)
    (option_or (parent_refusal items parent)
    (option_or (inside_refusal items item parent)
    (place_refusal place (length (without_id item (children_of items parent))))))
refusal items (Retitle item) = item_refusal items item
refusal items (Remove item) = item_refusal items item

-- a new item wants an id besides
abbrev pub insert_refusal : ItemId → Place → Kept → Option Refusal
insert_refusal parent place kept =
    option_or (refusal kept.items (Insert parent place))
    (if kept.ids.item == end_of_ids then Some (NoIds ItemIds) else None)

-- a tag is refused that the page has, and then where the ids do not suffice
abbrev pub tag_refusal : PageId → List ℕ → Kept → Option Refusal
tag_refusal page name kept =
    if is_some (tag_entry page name kept.items) then Some DupTag else
    if nat_lt end_of_ids (kept.ids.item + new_items name kept.items) then Some (NoIds ItemIds)
    else None

-- a tag that the page has not cannot be taken away
abbrev pub untag_refusal : PageId → List ℕ → List Item → Option Refusal
untag_refusal page name items =
    if is_none (tag_entry page name items) then Some NoTag else None
