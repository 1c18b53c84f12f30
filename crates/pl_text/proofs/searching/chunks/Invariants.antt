use Rattle.std.proofs.Common.{map}
use Rattle.pl_base.specs.declared.id.Slot.{Slot}
use Rattle.pl_text.proofs.Following.{Follows}
use Rattle.pl_text.proofs.searching.chunks.Given as goal

abbrev pub invariant-loop-left : goal.invariant-loop-left
invariant-loop-left g l =
    Follows l.fn.slot l.next l.length l.left l.initial.steps l.steps (map (λ (s : Slot). s.0) l.chunks.items) l.arena

abbrev pub decreases-loop-left : goal.decreases-loop-left
decreases-loop-left g l = l.left
