use Rattle.std.proofs.Common.{◌≡◌, Some, map, take}
use Rattle.pl_record.specs.Rows.{item_in}
use Rattle.pl_reading.proofs.items.item_ids.Given as goal

abbrev pub invariant-loop-slot : goal.invariant-loop-slot
invariant-loop-slot g l = map (item_in l.arena) (take l.slot-index l.slots) ≡ map Some l.ids.items
