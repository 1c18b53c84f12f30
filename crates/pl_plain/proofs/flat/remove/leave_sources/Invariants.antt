use Rattle.std.proofs.Common.{◌≡◌, ◌++◌, drop, map, take}
use Rattle.pl_plain.specs.FlatRows.{left_by}
use Rattle.pl_plain.proofs.flat.remove.leave_sources.Given as goal

abbrev pub invariant-loop-visit : goal.invariant-loop-visit
invariant-loop-visit l =
    l.visit-items
    ≡ map (left_by l.id) (take l.visit-index l.initial.visit-items)
    ++ drop l.visit-index l.initial.visit-items
