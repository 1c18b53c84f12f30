-- The bookmark tree: items by ascending id, each with the ids of its children in order.
use Rattle.std.specs.Prelude.{ℕ, zero, suc, ◌≡◌, ◌==◌, not, Bool, false, List, [], ◌∷◌, ◌++◌}
use Rattle.std.specs.Prelude.{length, map, Option, Some, None, IsSomeAnd, if◌then◌else◌}
use Rattle.std.specs.List.{filter, filter_map, find, list_any}
use Rattle.std.specs.Option.{option_and_then, option_map, option_or}
use Rattle.pl_base.specs.declared.date.Micros.{Micros}
use Rattle.pl_base.specs.declared.id.ItemId.{ItemId}
use Rattle.pl_base.specs.declared.id.PageId.{PageId}
use Rattle.pl_base.specs.declared.item.ItemKind.TheVariants.{Folder}
use Rattle.pl_base.specs.declared.item.ItemRow.{ItemRow}
use Rattle.pl_base.specs.Store.{Item}

-- ---- looking up

-- the item with this id
abbrev pub item_at : List Item → ItemId → Option Item
item_at items id = find (λ (i : Item). i.id.0 == id.0) items

-- an item has this id
abbrev pub has_item : List Item → ItemId → Bool
has_item items id = list_any (λ (i : Item). i.id.0 == id.0) items

-- an item has this id, and is a folder
abbrev pub IsFolder : List Item → ItemId → Type 0
IsFolder items id = IsSomeAnd (item_at items id) (λ (i : Item). i.kind ≡ Folder)

-- the title of the item with this id
abbrev pub item_title : List Item → ItemId → Option (List ℕ)
item_title items id = option_map (λ (i : Item). i.title) (item_at items id)

-- the ids of an item's children, if there is one
abbrev children_in : Option Item → List ItemId
children_in None = []
children_in (Some i) = i.children

-- the ids of the children of an item, and none where there is no such item
abbrev pub children_of : List Item → ItemId → List ItemId
children_of items id = children_in (item_at items id)

-- the children of an item
abbrev pub child_items : List Item → ItemId → List Item
child_items items id = filter_map (item_at items) (children_of items id)

-- an item has this child
abbrev pub has_child : ItemId → Item → Bool
has_child id i = list_any (λ (c : ItemId). c.0 == id.0) i.children

-- the item that has it as a child
abbrev pub parent_of : List Item → ItemId → Option ItemId
parent_of items id = option_map (λ (i : Item). i.id) (find (has_child id) items)

-- the first of some ids
abbrev pub first_item : List ItemId → Option ItemId
first_item [] = None
first_item (id ∷ ids) = Some id

-- the last of some ids
abbrev pub last_item : List ItemId → Option ItemId
last_item [] = None
last_item (id ∷ ids) = option_or (last_item ids) (Some id)

-- the id that stands behind this one
abbrev pub item_behind : ItemId → List ItemId → Option ItemId
item_behind id [] = None
item_behind id (c ∷ cs) = if c.0 == id.0 then first_item cs else item_behind id cs

-- the child of the same item that stands behind it
abbrev pub sibling_behind : List Item → ItemId → Option ItemId
sibling_behind items id =
    option_and_then (λ parent. item_behind id (children_of items parent)) (parent_of items id)

-- the page is there, and is this one
abbrev pub is_page : PageId → Option PageId → Bool
is_page page None = false
is_page page (Some other) = other.0 == page.0

-- the ids of the items that have the page
abbrev pub references : List Item → PageId → List ItemId
references items page =
    map (λ (i : Item). i.id) (filter (λ (i : Item). is_page page i.page) items)

-- the next of the items that have the same page
abbrev pub reference_behind : List Item → ItemId → Option ItemId
reference_behind items id =
    option_and_then (λ (i : Item).
    option_and_then (λ page. item_behind id (references items page)) i.page) (item_at items id)

-- an item and what it lies in: itself, its parent, the parent of that and so on, at most so many
abbrev pub ancestors : ℕ → List Item → Option ItemId → List ItemId
ancestors zero items at = []
ancestors (suc n) items None = []
ancestors (suc n) items (Some id) = id ∷ ancestors n items (parent_of items id)

-- the item is `top` or lies below it: no item of a tree has more ancestors than there are items
abbrev pub lies_in : List Item → ItemId → ItemId → Bool
lies_in items top id =
    list_any (λ (a : ItemId). a.0 == top.0) (ancestors (length items) items (Some id))

-- an item without its id, its title and its children
abbrev pub item_row : List Item → Item → ItemRow
item_row items i =
    record {
      kind = i.kind;
      parent = parent_of items i.id;
      page = i.page;
      added = i.added;
      modified = i.modified;
    }

-- ---- changes

-- ids with one more, behind this one or first
abbrev pub put_behind : Option ItemId → ItemId → List ItemId → List ItemId
put_behind None id ids = id ∷ ids
put_behind (Some after) id [] = id ∷ []
put_behind (Some after) id (c ∷ cs) =
    if c.0 == after.0 then c ∷ id ∷ cs else c ∷ put_behind (Some after) id cs

-- ids but for this one
abbrev pub without_id : ItemId → List ItemId → List ItemId
without_id id ids = filter (λ c. not (c.0 == id.0)) ids

-- an item that has one more child, if it is this one
abbrev pub adopting : ItemId → Option ItemId → ItemId → Item → Item
adopting parent after id i =
    if i.id.0 == parent.0 then record i { children = put_behind after id i.children } else i

-- the items where this one has one more child
abbrev pub adopted : Option ItemId → Option ItemId → ItemId → List Item → List Item
adopted None after id items = items
adopted (Some parent) after id items = map (adopting parent after id) items

-- an item that has this child no more
abbrev pub leaving : ItemId → Item → Item
leaving id i = record i { children = without_id id i.children }

-- an item of the row
abbrev pub new_item : ItemId → ItemRow → List ℕ → Item
new_item id row title =
    record {
      id = id;
      kind = row.kind;
      title = title;
      page = row.page;
      added = row.added;
      modified = row.modified;
      children = [];
    }

-- the items with a new one, a child of the row's parent
abbrev pub inserted : ItemId → ItemRow → List ℕ → Option ItemId → List Item → List Item
inserted id row title after items = adopted row.parent after id items ++ new_item id row title ∷ []

-- the items where this one is a child of that one
abbrev pub moved : ItemId → ItemId → Option ItemId → List Item → List Item
moved id parent after items = adopted (Some parent) after id (map (leaving id) items)

-- the items with this one changed
abbrev pub with_changed : ItemId → (Item → Item) → List Item → List Item
with_changed id change items =
    map (λ (i : Item). if i.id.0 == id.0 then change i else i) items

-- the items where this one has another title and modified date
abbrev pub retitled : ItemId → List ℕ → Micros → List Item → List Item
retitled id title modified items =
    with_changed id (λ i. record i { title = title; modified = modified }) items

-- the items where this one has another modified date
abbrev pub redated : ItemId → Micros → List Item → List Item
redated id modified items = with_changed id (λ i. record i { modified = modified }) items

-- the items without this one
abbrev pub removed : ItemId → List Item → List Item
removed id items = map (leaving id) (filter (λ (i : Item). not (i.id.0 == id.0)) items)
