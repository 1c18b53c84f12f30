use Rattle.std.proofs.Common.{length}
use Rattle.pl_backup.specs.Weights.{items_weight}
use Rattle.pl_backup.proofs.ReadingSteps.{Reads}
use Rattle.pl_backup.proofs.found.Found.+push_values.Given as goal
use Rattle.serde_json.specs.View.{items_view}

abbrev pub decreases-push_values : goal.decreases-push_values
decreases-push_values l = items_weight (items_view l.values.now)

abbrev pub invariant-loop-value : goal.invariant-loop-value
invariant-loop-value l = Reads l.depth (items_view l.values) l.fn.self (items_view l.left) l.self

abbrev pub decreases-loop-value : goal.decreases-loop-value
decreases-loop-value l = length l.left
