use Rattle.slots_main.specs.Places.{ArePlaces}
use Rattle.slots_main.proofs.places.are_places.Given as goal

abbrev pub invariant-loop-number : goal.invariant-loop-number
invariant-loop-number g l = ArePlaces l.number l.arena
