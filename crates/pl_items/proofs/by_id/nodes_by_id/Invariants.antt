use Rattle.std.proofs.Common.{◌≡◌, map, take}
use Rattle.pl_items.proofs.by_id.nodes_by_id.Given as goal

abbrev pub invariant-loop-node : goal.invariant-loop-node
invariant-loop-node l = map (λ n. n.now) l.sorted.items ≡ take l.node-index l.nodes
