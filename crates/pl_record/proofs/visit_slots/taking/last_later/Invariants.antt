use Rattle.std.proofs.Common.{List}
use Rattle.pl_base.specs.declared.id.Slot.{Slot}
use Rattle.pl_record.proofs.VisitPlace.{PlaceWalk, slots_left}
use Rattle.pl_record.proofs.visit_slots.taking.last_later.Given as goal
use Rattle.pl_rail.specs.declared.owner.Owner.TheVariants.{At}
use Rattle.pl_rail.specs.Rails.{Lists}
use Rattle.pl_slot.specs.declared.links.Rail.TheVariants.{PageVisits}
use Rattle.pl_slot.specs.Arena.{live_count}

abbrev pub invariant-loop-behind : goal.invariant-loop-behind
invariant-loop-behind g l =
    (visits : List Slot) → Lists PageVisits (At l.fn.page) visits l.arena
    → PlaceWalk l.arena l.date l.after visits l.behind

abbrev pub decreases-loop-behind : goal.decreases-loop-behind
decreases-loop-behind g l = slots_left l.arena (live_count l.arena) l.behind
