use Rattle.std.proofs.Common.{◌-◌, length}
use Rattle.pl_rail.proofs.Walks.{Walks}
use Rattle.pl_rail.proofs.listing.listed.Given as goal
use Rattle.pl_slot.specs.Arena.{live_count}

abbrev pub invariant-loop-next : goal.invariant-loop-next
invariant-loop-next g l =
    Walks l.fn.rail l.fn.owner l.slots.items l.last l.next l.initial.steps l.steps l.arena

abbrev pub decreases-loop-next : goal.decreases-loop-next
decreases-loop-next g l = live_count l.arena - length l.slots.items
