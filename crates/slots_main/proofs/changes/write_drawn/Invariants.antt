use Rattle.slots_main.specs.Places.{ArePlaces}
use Rattle.slots_main.proofs.changes.write_drawn.Given as goal

abbrev pub invariant-loop-turn : goal.invariant-loop-turn
invariant-loop-turn l = ArePlaces l.count l.arena
