-- One node more, and all of them.
use Rattle.std.proofs.Common.{◌≡◌, ◌+◌, ℕ, List, IsTrue, arith, drop}
use Rattle.pl_nbread.specs.declared.tree.Node.{Node}
use Rattle.pl_nbread.specs.WellFormed.{is_formed}
use Rattle.pl_graft.specs.Import.{with_list}
use Rattle.pl_graft.specs.Tally.{node_weight, weight}
use Rattle.pl_graft.proofs.ListSteps.{each_formed, ends, goes_on, weight_left}
use Rattle.pl_graft.proofs.NodeLaws.{formed}
use Rattle.pl_graft.proofs.cost.Tally.take_list.Goals as goal

pub take_node-requires : goal.take_node-requires
take_node-requires c =
    let left : weight (drop c.loop-node.node-index c.args.nodes.now)
    ≡ node_weight c.node-item.result + weight (drop (c.loop-node.node-index + 1) c.args.nodes.now) =
    weight_left c.args.nodes.now c.loop-node.node-index c.node-item.result c.loop-node-test.true c.node-item.is in
    record {
      formed = each_formed c.args.nodes.now c.loop-node.node-index c.node-item.result c.requires.formed
          c.loop-node-test.true c.node-item.is;
      room = omega (arith, left, c.loop-node.invariant.few, c.requires.room);
    }

pub loop-node-preserved : goal.loop-node-preserved
loop-node-preserved c =
    let i : ℕ = c.loop-node.node-index in
    let nodes : List Node = c.args.nodes.now in
    let node : Node = c.node-item.result in
    let left : weight (drop i nodes) ≡ node_weight node + weight (drop (i + 1) nodes) =
    weight_left nodes i node c.loop-node-test.true c.node-item.is in
    let is_so : IsTrue (is_formed node) =
    each_formed nodes i node c.requires.formed c.loop-node-test.true c.node-item.is in
    record {
      few = omega (arith, left, c.loop-node.invariant.few, c.in_ok-take_node.ensures.few);
      tally = λ store root t takes.
          goes_on c.loop-node.self c.take_node.new.self root nodes i node (with_list root nodes store)
          c.loop-node-test.true c.node-item.is (formed node is_so) c.in_ok-take_node.ensures.title
          (c.loop-node.invariant.tally store root t takes) c.in_ok-take_node.ensures.tally;
    }

pub returns-clause-tally : goal.returns-clause-tally
returns-clause-tally c =
    λ store root t takes.
    ends c.loop-node.self root c.args.nodes.now c.loop-node.node-index (with_list root c.args.nodes.now store)
    c.loop-node-test.false (c.loop-node.invariant.tally store root t takes)
