use Rattle.std.proofs.Common.{◌≤◌}
use Rattle.trials_arenas.proofs.reading.count_live.Given as goal

-- as many as were read
abbrev pub invariant-loop-slot : goal.invariant-loop-slot
invariant-loop-slot l = l.count ≤ l.slot
