use Rattle.std.proofs.Common.{length}
use Rattle.pl_backup.proofs.RootSteps.{Builds}
use Rattle.pl_backup.proofs.roots.tree_of.Given as goal
use Rattle.serde_json.specs.View.{items_view}

abbrev pub invariant-loop-value : goal.invariant-loop-value
invariant-loop-value l = Builds (items_view l.values) (items_view l.left) l.roots

abbrev pub decreases-loop-value : goal.decreases-loop-value
decreases-loop-value l = length l.left
