use Rattle.std.proofs.Common.{◌≡◌, ◌++◌, take}
use Rattle.pl_load.specs.Reads.{numbers}
use Rattle.pl_load.proofs.met.push_numbers.Given as goal

abbrev pub invariant-loop-slot : goal.invariant-loop-slot
invariant-loop-slot l = l.met.items ≡ l.fn.met.items ++ numbers (take l.slot-index l.slots)
