use Rattle.std.proofs.Common.{take}
use Rattle.pl_indexed.specs.Answer.{taken}
use Rattle.pl_indexed.specs.Found.{AreFound}
use Rattle.pl_indexed.proofs.ways.pages_among.Given as goal

-- of the pages in front those are found that the query takes
abbrev pub invariant-loop-view : goal.invariant-loop-view
invariant-loop-view l =
    AreFound l.asked.query.now.sort (taken l.asked.query.now (take l.view-index l.known.views.items))
    l.found.items
