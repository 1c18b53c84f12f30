use Rattle.std.proofs.Common.{take}
use Rattle.std.specs.List.{AllZip}
use Rattle.pl_reading.specs.Live.{HoldsPlace}
use Rattle.pl_reading.proofs.rows.read_places.Given as goal

abbrev pub invariant-loop-slot : goal.invariant-loop-slot
invariant-loop-slot g l = AllZip (HoldsPlace l.arena) (take l.slot-index l.slots) l.places.items
