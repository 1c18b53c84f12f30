use Rattle.std.proofs.Common.{◌≡◌, map}
use Rattle.pl_items.specs.TakenOut.{waiting_row}
use Rattle.pl_items.proofs.plant.waiting_rows.Given as goal

abbrev pub invariant-loop-item : goal.invariant-loop-item
invariant-loop-item l = l.rows.items ≡ map waiting_row l.yielded
