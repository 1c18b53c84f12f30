-- What an import of bookmarks makes of a store: the nodes of each root's list in their order, each
-- at the end of its folder, and behind a bookmark its tags.
use Rattle.std.specs.Prelude.{ℕ, ◌+◌, ◌-◌, List, [], ◌∷◌, ◌++◌, length, take}
use Rattle.std.specs.Prelude.{Option, Some, None, if◌then◌else◌}
use Rattle.std.specs.List.{sum_by}
use Rattle.std.specs.Option.{is_some}
use Rattle.pl_base.specs.declared.date.Micros.{Micros}
use Rattle.pl_base.specs.declared.id.ItemId.{ItemId}
use Rattle.pl_base.specs.declared.id.PageId.{PageId}
use Rattle.pl_base.specs.declared.item.ItemRow.{ItemRow}
use Rattle.pl_base.specs.Store.{Item, Store, item_id}
use Rattle.pl_base.specs.Tags.{tags_root}
use Rattle.pl_base.specs.Title.{cut_title}
use Rattle.pl_base.specs.Tree.{child_items, new_item}
use Rattle.pl_base.specs.Visiting.{page_for, with_page_for}
use Rattle.pl_nbread.specs.declared.tree.Node.{Node}
use Rattle.pl_nbread.specs.declared.tree.Tree.{Tree}
use Rattle.pl_nbread.specs.WellFormed.{is_folder}
use Rattle.pl_tree.specs.declared.place.Place.TheVariants.{End}
use Rattle.pl_tree.specs.Changes.{with_child}
use Rattle.pl_tree.specs.Tagged.{new_items, tag_entry, tagged_items}

-- no import has more rows
abbrev pub most_rows : ℕ
most_rows = 50_000

-- how many bookmarks, folders and separators a tree has
abbrev pub row_count : Tree → ℕ
row_count tree = length tree.menu + length tree.toolbar + length tree.unfiled + length tree.mobile

-- ---- the item of a node

-- the store with a page for the address of a node, if it has one
abbrev pub with_page_of : Option (List ℕ) → Store → Store
with_page_of None store = store
with_page_of (Some url) store = with_page_for store url

-- that page
abbrev pub page_of : Option (List ℕ) → Store → Option PageId
page_of None store = None
page_of (Some url) store = Some (page_for store url).id

-- the row of a node's item
abbrev pub node_row : ItemId → Option PageId → Node → ItemRow
node_row parent page node =
    record {
      kind = node.kind;
      parent = Some parent;
      page = page;
      added = node.added;
      modified = node.modified;
    }

-- the store with the item of a row at the end of a folder; it has the next id
abbrev pub with_row : ItemId → ItemRow → List ℕ → Store → Store
with_row parent row title store =
    record store {
      ids = record store.ids { item = store.ids.item + 1 };
      items =
          with_child parent End (item_id store.ids.item) store.items
          ++ new_item (item_id store.ids.item) row title ∷ [];
    }

-- the store with a page for a node, and with its item at the end of a folder, its title cut
abbrev pub with_item_of : ItemId → Node → Store → Store
with_item_of parent node store =
    with_row parent (node_row parent (page_of node.url store) node) (cut_title node.title)
    (with_page_of node.url store)

-- ---- its tags

-- the store where a page has a tag
abbrev pub tagged_store : PageId → List ℕ → Micros → Store → Store
tagged_store page name date store =
    record store {
      ids = record store.ids { item = store.ids.item + new_items name store.items };
      items = tagged_items store.ids.item page name date store.items;
    }

-- the same; a tag that the page has is passed over
abbrev pub with_tag : PageId → Micros → List ℕ → Store → Store
with_tag page date name store =
    if is_some (tag_entry page name store.items) then store
    else tagged_store page name date store

-- the store where a page has each of these tags
abbrev pub with_tags : PageId → Micros → List (List ℕ) → Store → Store
with_tags page date [] store = store
with_tags page date (name ∷ names) store =
    with_tags page date names (with_tag page date name store)

-- the store where the page of a bookmark has its tags
abbrev pub with_tags_of : Option PageId → Node → Store → Store
with_tags_of None node store = store
with_tags_of (Some page) node store = with_tags page node.added node.tags store

-- the store with a node at the end of a folder, and its tags behind it
abbrev pub with_node : ItemId → Node → Store → Store
with_node parent node store =
    with_tags_of (page_of node.url store) node (with_item_of parent node store)

-- ---- lists

-- the last of a folder and those within it
abbrev pub innermost : ItemId → List ItemId → ItemId
innermost folder [] = folder
innermost folder (inner ∷ folders) = innermost inner folders

-- the folder of a node, where these folders of a root are open, each within the one before it
abbrev pub folder_of : ItemId → List ItemId → Node → ItemId
folder_of root folders node = innermost root (take node.depth folders)

-- the folders that are open behind a node with this id
abbrev pub folders_behind : List ItemId → Node → ItemId → List ItemId
folders_behind folders node id =
    take node.depth folders ++ (if is_folder node.kind then id ∷ [] else [])

-- the store with the nodes of a list, where these folders of a root are open
abbrev pub with_nodes : ItemId → List Node → List ItemId → Store → Store
with_nodes root [] folders store = store
with_nodes root (node ∷ nodes) folders store =
    with_nodes root nodes (folders_behind folders node (item_id store.ids.item))
    (with_node (folder_of root folders node) node store)

-- the store with the nodes of a root's list, behind what the root has
abbrev pub with_list : ItemId → List Node → Store → Store
with_list root nodes store = with_nodes root nodes [] store

-- the store with a tree: the menu's list, the toolbar's, the unfiled bookmarks and the mobile ones
abbrev pub imported : Tree → Store → Store
imported tree store =
    with_list (item_id 6) tree.mobile
    (with_list (item_id 5) tree.unfiled
    (with_list (item_id 3) tree.toolbar (with_list (item_id 2) tree.menu store)))

-- ---- what is told of it

-- how many entries the tag folders have
abbrev pub entry_count : List Item → ℕ
entry_count items = sum_by (λ (t : Item). length t.children) (child_items items tags_root)

-- how many tags pages got
abbrev pub tags_made : Tree → Store → ℕ
tags_made tree store = entry_count (imported tree store).items - entry_count store.items
