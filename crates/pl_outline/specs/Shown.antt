-- What is shown of an item.
use Rattle.std.specs.Prelude.{ℕ}
use Rattle.pl_base.specs.Store.{Item, Store}
use Rattle.pl_nbread.specs.declared.tree.Node.{Node}
use Rattle.pl_outline.specs.declared.node.Shown as declared
use Rattle.pl_outline.specs.declared.node.Shown.TheVariants.{Kept, Whole}
use Rattle.pl_outline.specs.Outline.{node_of, whole_node}

-- the node of an item that is shown so
abbrev pub node_as : declared.Shown → Store → ℕ → Item → Node
node_as Kept = node_of
node_as Whole = whole_node
