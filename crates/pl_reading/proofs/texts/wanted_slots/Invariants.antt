use Rattle.std.proofs.Common.{◌≡◌, take}
use Rattle.pl_reading.specs.Texts.{wanted}
use Rattle.pl_reading.proofs.texts.wanted_slots.Given as goal

abbrev pub invariant-loop-text : goal.invariant-loop-text
invariant-loop-text l = l.wanted ≡ wanted (take l.text-index l.texts)
