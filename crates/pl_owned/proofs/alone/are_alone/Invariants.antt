use Rattle.std.proofs.Common.{◌≤◌, ◌+◌, ◌*◌, take}
use Rattle.std.specs.List.{All}
use Rattle.pl_record.specs.Chains.{IsAlone}
use Rattle.pl_owned.proofs.alone.are_alone.Given as goal

abbrev pub invariant-loop-slot : goal.invariant-loop-slot
invariant-loop-slot g l =
    record {
      alone : All (λ s. IsAlone l.rail s l.arena) (take l.slot-index l.slots);
      few : l.steps ≤ l.initial.steps + 2 * l.slot-index;
    }
