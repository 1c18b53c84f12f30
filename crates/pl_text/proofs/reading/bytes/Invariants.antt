use Rattle.std.proofs.Common.{◌-◌, length}
use Rattle.pl_text.proofs.ReadTexts.{Reads}
use Rattle.pl_text.proofs.reading.bytes.Given as goal

abbrev pub invariant-loop-next : goal.invariant-loop-next
invariant-loop-next g l = Reads l.fn.slot l.next l.length l.initial.steps l.steps l.bytes.items l.arena

abbrev pub decreases-loop-next : goal.decreases-loop-next
decreases-loop-next g l = l.length - length l.bytes.items
