use Rattle.std.proofs.Common.{◌≡◌, map, take}
use Rattle.pl_dated.specs.declared.first.FoundVisit.{FoundVisit}
use Rattle.pl_dated.specs.Latest.{seen}
use Rattle.pl_dated.specs.Listed.{row_of_seen}
use Rattle.pl_dated.proofs.answered.result_rows.Given as goal

abbrev pub invariant-loop-visit : goal.invariant-loop-visit
invariant-loop-visit l = l.rows.items ≡ map (λ (f : FoundVisit). row_of_seen (seen f)) (take l.visit-index l.found)
