use Rattle.slots_main.specs.Places.{ArePlaces}
use Rattle.slots_main.proofs.changes.change_ten.Given as goal

abbrev pub invariant-loop-part : goal.invariant-loop-part
invariant-loop-part l = ArePlaces l.count l.arena
