use Rattle.std.proofs.Common.{◌≡◌, ◌++◌, map, take}
use Rattle.pl_base.specs.declared.id.Slot.{Slot}
use Rattle.pl_reading.proofs.texts.push_all.Given as goal

abbrev pub invariant-loop-part : goal.invariant-loop-part
invariant-loop-part l =
    l.slots.items ≡ l.fn.slots.items ++ map (λ (s : Slot). s.0) (take l.part-index l.parts)
