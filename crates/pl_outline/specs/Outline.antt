-- The bookmarks of a store as one tree: what stands in each of its four roots, in preorder.
use Rattle.std.specs.Prelude.{ℕ, zero, suc, ◌+◌, ◌*◌, ◌/◌, List, [], ◌∷◌, length}
use Rattle.std.specs.Prelude.{Option, Some, None}
use Rattle.std.specs.List.{flat_map}
use Rattle.std.specs.Option.{option_and_then}
use Rattle.pl_base.specs.declared.date.Micros.{Micros}
use Rattle.pl_base.specs.declared.id.ItemId.{ItemId}
use Rattle.pl_base.specs.declared.id.PageId.{PageId}
use Rattle.pl_base.specs.declared.item.ItemKind.{ItemKind}
use Rattle.pl_base.specs.declared.item.ItemKind.TheVariants.{Bookmark, Folder, Separator}
use Rattle.pl_base.specs.Store.{Item, Store, item_id, page_url}
use Rattle.pl_base.specs.Tags.{page_tags}
use Rattle.pl_base.specs.Tree.{child_items}
use Rattle.pl_nbread.specs.declared.tree.Node.{Node}
use Rattle.pl_nbread.specs.declared.tree.Tree.{Tree}

-- ---- preorder

-- what is shown of the items below a folder, each before those below it, whose depth is one more;
-- so many generations at most
abbrev pub preorder : {N : Type 0} → (ℕ → Item → N) → ℕ → List Item → ℕ → ItemId → List N
preorder show zero items depth folder = []
preorder show (suc many) items depth folder =
    flat_map (λ (i : Item). show depth i ∷ preorder show many items (depth + 1) i.id)
    (child_items items folder)

-- the same of all that are there: there are no more generations than items
abbrev pub all_below : {N : Type 0} → (ℕ → Item → N) → List Item → ItemId → List N
all_below show items root = preorder show (length items) items 0 root

-- ---- nodes

-- a date in whole seconds
abbrev pub whole_seconds : Micros → Micros
whole_seconds date = record { 0 = date.0 / 1_000_000 * 1_000_000 }

-- the tags of a page, if there is one
abbrev pub tags_at : Store → Option PageId → List (List ℕ)
tags_at store None = []
tags_at store (Some page) = page_tags store page

-- all of an item, with the address and the tags of its page
abbrev pub whole_node : Store → ℕ → Item → Node
whole_node store depth i =
    record {
      depth = depth;
      kind = i.kind;
      url = option_and_then (page_url store) i.page;
      title = i.title;
      added = i.added;
      modified = i.modified;
      tags = tags_at store i.page;
    }

-- a node with dates in whole seconds
abbrev pub in_seconds : Node → Node
in_seconds node =
    record node { added = whole_seconds node.added; modified = whole_seconds node.modified }

-- a separator, of which nothing is kept but its place
abbrev pub separator_node : ℕ → Node
separator_node depth =
    record {
      depth = depth;
      kind = Separator;
      url = None;
      title = [];
      added = record { 0 = 0 };
      modified = record { 0 = 0 };
      tags = [];
    }

abbrev kept_by : ItemKind → Node → Node
kept_by Bookmark node = in_seconds node
kept_by Folder node = in_seconds node
kept_by Separator node = separator_node node.depth

-- what a bookmark file keeps of a node
abbrev pub kept : Node → Node
kept node = kept_by node.kind node

-- what a bookmark file keeps of an item
abbrev pub node_of : Store → ℕ → Item → Node
node_of store depth i = kept (whole_node store depth i)

-- ---- the tree

-- the nodes of what stands in a root
abbrev pub listed : Store → ItemId → List Node
listed store root = all_below (node_of store) store.items root

-- the tree of what stands in the four roots, each item shown so
abbrev pub shown_tree : (Store → ℕ → Item → Node) → Store → Tree
shown_tree show store =
    record {
      menu = all_below (show store) store.items (item_id 2);
      toolbar = all_below (show store) store.items (item_id 3);
      unfiled = all_below (show store) store.items (item_id 5);
      mobile = all_below (show store) store.items (item_id 6);
      skipped = 0;
    }

-- the bookmarks of a store, as a bookmark file keeps them
abbrev pub bookmarks : Store → Tree
bookmarks store = shown_tree node_of store

-- the whole tree of a store: all of each item
abbrev pub whole : Store → Tree
whole store = shown_tree whole_node store
