use Rattle.std.proofs.Common.{map, take}
use Rattle.std.specs.List.{AllZip, zip}
use Rattle.std.specs.Vec.{vec_items}
use Rattle.pl_reading.specs.Read.{IsItemOf}
use Rattle.pl_reading.proofs.items.stored_items.Given as goal

abbrev pub invariant-loop-index : goal.invariant-loop-index
invariant-loop-index g l =
    AllZip (IsItemOf l.arena) (take l.index (zip l.items (map vec_items l.children))) l.stored.items
