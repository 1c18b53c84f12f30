use Rattle.pl_record.proofs.TargetsDropped.{Drops, left_in}
use Rattle.pl_record.proofs.visit_slots.freeing.drop_targets.Given as goal

abbrev pub invariant-loop-target : goal.invariant-loop-target
invariant-loop-target g l = record { drops : Drops l.fn.slot l.initial.arena l.arena }

abbrev pub decreases-loop-target : goal.decreases-loop-target
decreases-loop-target g l = left_in l.fn.slot l.arena
