use Rattle.std.proofs.Common.{◌≤◌}
use Rattle.trials_slots.proofs.changes.count_read.Given as goal

-- as many values as were tried
abbrev pub invariant-loop-value : goal.invariant-loop-value
invariant-loop-value g l = l.count ≤ l.value
