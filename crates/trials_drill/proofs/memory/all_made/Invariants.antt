use Rattle.std.proofs.Common.{◌≤◌, ◌+◌}
use Rattle.trials_drill.proofs.memory.all_made.Given as goal

-- the drill's day lies no further behind its first than there were lines
abbrev pub invariant-loop-number : goal.invariant-loop-number
invariant-loop-number l = record { days : 60 ≤ l.made.drill.day; dates : l.made.drill.day ≤ 19_000 + l.number }
