use Rattle.std.proofs.Common.{◌-◌, ◌≤◌}
use Rattle.pl_slot.specs.Taking.{IsLinked}
use Rattle.pl_slot.proofs.taking.link.Given as goal

abbrev pub invariant-loop-slot : goal.invariant-loop-slot
invariant-loop-slot l =
    record {
      from : l.first ≤ l.slot;
      linked : IsLinked (l.slot - l.first) l.first l.fn.sheets l.sheets;
    }
