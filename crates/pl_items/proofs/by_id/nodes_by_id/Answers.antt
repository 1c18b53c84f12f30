use Rattle.std.proofs.Common.{◌≡◌, ◌∙◌, List, map, rules, subst}
use Rattle.std.specs.List.Sorted.{IsPermutation}
use Rattle.std.proofs.lemmas.List.{take_all}
use Rattle.std.proofs.lemmas.List.Sorted.{IsPermutation-map, IsNonDecreasingBy-from_sort_by_key}
use Rattle.pl_items.specs.declared.node.Node.{Node}
use Rattle.pl_items.proofs.Ascending.{non_decreasing-map}
use Rattle.pl_items.proofs.NodeOrder.{node_key, sorted_is}
use Rattle.pl_items.proofs.by_id.nodes_by_id.Goals as goal

pub returns : goal.returns
returns c =
    let whole : map (λ n. n.now) c.loop-node.sorted.items ≡ c.args.nodes.now =
    c.loop-node.invariant ∙ take_all c.loop-node.node-index c.args.nodes.now c.loop-node-test.false
    in
    sorted_is c.args.nodes.now (map (λ n. n.now) c.sort_unstable_by_key.new.self.items) c.requires.distinct
    (subst (λ (l : List Node). IsPermutation l (map (λ n. n.now) c.sort_unstable_by_key.new.self.items)) whole
    (IsPermutation-map (λ n. n.now) _ _ c.sort_unstable_by_key.ensures.permutation))
    (non_decreasing-map node_key (λ n. n.now) c.sort_unstable_by_key.new.self.items
    (IsNonDecreasingBy-from_sort_by_key (λ n. n.now.id.0) _ c.sort_unstable_by_key.ensures.sorted
    (λ a r q k. search rules)))
