-- Nodes in a row in which siblings stand in order, seen as the items that they make.
use Rattle.std.specs.Prelude.{◌≡◌, ◌≢◌, ◌+◌, ◌-◌, ◌==◌, ℕ, Bool, true, false, List, [], ◌∷◌}
use Rattle.std.specs.Prelude.{length, map, min, nat_lt}
use Rattle.std.specs.Prelude.{Option, Some, None, IfSome, if◌then◌else◌}
use Rattle.std.specs.List.{All, AllPairs, filter, list_any, position_or_len}
use Rattle.std.specs.Option.{option_map}
use Rattle.pl_base.specs.declared.id.ItemId.{ItemId}
use Rattle.pl_base.specs.declared.item.ItemKind.TheVariants.{Folder}
use Rattle.pl_base.specs.Store.{Item}
use Rattle.pl_items.specs.declared.by_id.Child.{Child}
use Rattle.pl_items.specs.declared.node.Node.{Node}

-- the parent is there, and is this item
abbrev pub is_parent : ItemId → Option ItemId → Bool
is_parent id None = false
is_parent id (Some parent) = parent.0 == id.0

-- the children of an item, in the order of the nodes
abbrev pub child_nodes : List Node → ItemId → List ItemId
child_nodes nodes id = map (λ (n : Node). n.id) (filter (λ (n : Node). is_parent id n.parent) nodes)

-- the item of a node
abbrev pub item_of : List Node → Node → Item
item_of nodes n =
    record {
      id = n.id;
      kind = n.kind;
      title = n.title;
      page = n.page;
      added = n.added;
      modified = n.modified;
      children = child_nodes nodes n.id;
    }

-- a node put into its place among nodes by ascending id
abbrev pub in_id_order : Node → List Node → List Node
in_id_order n [] = n ∷ []
in_id_order n (m ∷ ms) = if nat_lt n.id.0 m.id.0 then n ∷ m ∷ ms else m ∷ in_id_order n ms

-- the nodes by ascending id
abbrev pub by_id : List Node → List Node
by_id [] = []
by_id (n ∷ ns) = in_id_order n (by_id ns)

-- the items that nodes make, by ascending id
abbrev pub items_of : List Node → List Item
items_of nodes = map (item_of nodes) (by_id nodes)

-- a node as a child with its parent, if it has one
abbrev pub child_row : Node → Option Child
child_row n = option_map (λ parent. record { parent = parent; id = n.id }) n.parent

-- the ids of those of these children that have this parent
abbrev pub ids_under : List Child → ItemId → List ItemId
ids_under children id =
    map (λ (c : Child). c.id) (filter (λ (c : Child). c.parent.0 == id.0) children)

-- the item of a node, whose children are among these
abbrev pub listed_item : List Child → Node → Item
listed_item children n =
    record {
      id = n.id;
      kind = n.kind;
      title = n.title;
      page = n.page;
      added = n.added;
      modified = n.modified;
      children = map (λ (c : Child). c.id) (filter (λ (c : Child). c.parent.0 == n.id.0) children);
    }

-- nodes with one more, behind the one with this id or first
abbrev pub put_node : Option ItemId → Node → List Node → List Node
put_node None n ns = n ∷ ns
put_node (Some after) n [] = n ∷ []
put_node (Some after) n (m ∷ ms) =
    if m.id.0 == after.0 then m ∷ n ∷ ms else m ∷ put_node (Some after) n ms

-- the place behind the node with this id, or the first
abbrev pub place_behind : Option ItemId → List Node → ℕ
place_behind None ns = 0
place_behind (Some after) ns =
    min (position_or_len (λ (n : Node). n.id.0 == after.0) ns + 1) (length ns)

-- the place at which a node comes to stand that is taken from one place and put before another
abbrev pub place_then : ℕ → ℕ → ℕ
place_then from before = if nat_lt from before then before - 1 else before

-- a node has this id
abbrev pub has_node : List Node → ItemId → Bool
has_node nodes id = list_any (λ (n : Node). n.id.0 == id.0) nodes

-- no two nodes have the same id, and each parent is a node
pub record AreNodes (nodes : List Node) : Type 0 where
  pub distinct : AllPairs (λ (n m : Node). n.id ≢ m.id) nodes
  pub parents : All (λ (n : Node). IfSome n.parent (λ id. has_node nodes id ≡ true)) nodes

-- a folder with no title, and with the first moment of 1970 as its dates
abbrev pub folder_node : ℕ → Option ItemId → Node
folder_node id parent =
    record {
      id = record { 0 = id };
      parent = parent;
      kind = Folder;
      title = [];
      page = None;
      added = record { 0 = 0 };
      modified = record { 0 = 0 };
    }
