-- Items that wait until they are taken out and put into a tree.
use Rattle.std.specs.Prelude.{◌≡◌, ◌==◌, ℕ, Bool, true, false, List, map}
use Rattle.std.specs.Prelude.{Option, Some, None, if◌then◌else◌}
use Rattle.std.specs.List.{find}
use Rattle.std.specs.Option.{option_and_then}
use Rattle.pl_base.specs.declared.id.ItemId.{ItemId}
use Rattle.pl_base.specs.Good.{IsTree}
use Rattle.pl_base.specs.Store.{Item, item_id}
use Rattle.pl_base.specs.Tree.{has_item}
use Rattle.pl_items.specs.declared.by_id.Child.{Child}
use Rattle.pl_items.specs.declared.node.Node.{Node}
use Rattle.pl_items.specs.declared.plant.Waiting.{Waiting}
use Rattle.pl_items.specs.Nodes.{AreNodes, items_of}

-- an item that waits
abbrev pub waiting_row : Item → Waiting
waiting_row i = record { id = i.id; item = Some i }

-- the ids of the items that wait or waited
abbrev pub waiting_ids : List Waiting → List ℕ
waiting_ids rows = map (λ (w : Waiting). w.id.0) rows

-- the item with this id, if it waits
abbrev pub item_waiting : List Waiting → ItemId → Option Item
item_waiting rows id =
    option_and_then (λ (w : Waiting). w.item) (find (λ (w : Waiting). w.id.0 == id.0) rows)

-- the place of an item, where it waits no more if it has this id
abbrev pub emptied : ItemId → Waiting → Waiting
emptied id w = if w.id.0 == id.0 then record w { item = None } else w

-- the places where the item with this id waits no more
abbrev pub taken_out : ItemId → List Waiting → List Waiting
taken_out id rows = map (emptied id) rows

-- the node of an item, the child of this one
abbrev pub node_of : Option ItemId → Item → Node
node_of parent i =
    record {
      id = i.id;
      parent = parent;
      kind = i.kind;
      title = i.title;
      page = i.page;
      added = i.added;
      modified = i.modified;
    }

-- the children of an item, with it as their parent
abbrev pub children_rows : Item → List Child
children_rows i = map (λ c. record { parent = i.id; id = c }) i.children

-- the items are one tree with root 1, and these are its nodes
pub record IsPlanted (items : List Item) (nodes : List Node) : Type 0 where
  pub nodes_are : AreNodes nodes
  pub items_are : items_of nodes ≡ items
  pub tree : IsTree items

-- whether the items are one tree with root 1, of which these are the nodes
abbrev pub Plants : List Item → List Node → Bool → Type 0
Plants items nodes true = IsPlanted items nodes
Plants items nodes false = IsTree items → has_item items (item_id 1) ≡ false
