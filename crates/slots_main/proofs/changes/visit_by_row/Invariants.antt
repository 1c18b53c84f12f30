use Rattle.slots_main.specs.Places.{ArePlaces}
use Rattle.slots_main.proofs.changes.visit_by_row.Given as goal

abbrev pub invariant-loop-turn : goal.invariant-loop-turn
invariant-loop-turn g l = ArePlaces l.count l.arena
