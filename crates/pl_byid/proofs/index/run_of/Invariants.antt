use Rattle.pl_byid.specs.Runs.{IsRight}
use Rattle.pl_byid.proofs.index.run_of.Given as goal

abbrev pub invariant-loop-id : goal.invariant-loop-id
invariant-loop-id l = IsRight l.map.entries l.run
