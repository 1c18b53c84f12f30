use Rattle.std.proofs.Common.{take}
use Rattle.std.specs.List.{AllZip}
use Rattle.pl_reading.specs.Live.{HoldsVisit}
use Rattle.pl_reading.proofs.rows.read_visits.Given as goal

abbrev pub invariant-loop-slot : goal.invariant-loop-slot
invariant-loop-slot g l = AllZip (HoldsVisit l.arena) (take l.slot-index l.slots) l.visits.items
