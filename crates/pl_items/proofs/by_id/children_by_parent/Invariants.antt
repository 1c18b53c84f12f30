use Rattle.std.proofs.Common.{◌≡◌, take}
use Rattle.std.specs.List.{filter_map}
use Rattle.pl_items.specs.Nodes.{child_row}
use Rattle.pl_items.proofs.by_id.children_by_parent.Given as goal

abbrev pub invariant-loop-node : goal.invariant-loop-node
invariant-loop-node l = l.children.items ≡ filter_map child_row (take l.node-index l.nodes)
