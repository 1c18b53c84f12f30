use Rattle.std.proofs.Common.{eqb, take}
use Rattle.std.specs.List.{IsDistinct}
use Rattle.pl_owned.specs.Marked.{AreMarked}
use Rattle.pl_owned.proofs.live.marks.Given as goal

abbrev pub invariant-loop-slot : goal.invariant-loop-slot
invariant-loop-slot l =
    record {
      marked : AreMarked (take l.slot-index l.slots) l.count l.marks.items;
      once : IsDistinct eqb (take l.slot-index l.slots);
    }
