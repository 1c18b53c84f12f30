use Rattle.std.proofs.Common.{◌≡◌, take}
use Rattle.std.specs.List.{All, flat_map}
use Rattle.pl_reading.specs.Texts.{IsHeld, text_parts}
use Rattle.pl_reading.proofs.texts.text_slots.Given as goal

abbrev pub invariant-loop-text : goal.invariant-loop-text
invariant-loop-text g l =
    record {
      held : All (IsHeld l.arena) (take l.text-index l.texts);
      slots : l.slots.items ≡ flat_map (text_parts l.arena) (take l.text-index l.texts);
    }
