-- The tally of the store with the nodes so far, behind which the rest of the list makes the whole.
use Rattle.std.proofs.Common.{◌≤◌, ◌+◌, drop}
use Rattle.pl_base.specs.declared.id.ItemId.{ItemId}
use Rattle.pl_base.specs.Store.{Store}
use Rattle.pl_graft.specs.Import.{with_list}
use Rattle.pl_graft.specs.Ready.{Takes}
use Rattle.pl_graft.specs.Tally.{IsTallyOf, size, weight}
use Rattle.pl_graft.proofs.ListSteps.{IsCounting}
use Rattle.pl_graft.proofs.cost.Tally.take_list.Given as goal

abbrev pub invariant-loop-node : goal.invariant-loop-node
invariant-loop-node l =
    record {
      few : size l.self + weight (drop l.node-index l.nodes) ≤ size l.initial.self + weight l.nodes;
      tally : (store : Store) (root : ItemId) → IsTallyOf l.initial.self store → Takes store root
          → IsCounting l.self root (drop l.node-index l.nodes) (with_list root l.nodes store);
    }
