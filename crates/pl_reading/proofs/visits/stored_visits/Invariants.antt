use Rattle.std.proofs.Common.{take}
use Rattle.std.specs.List.{AllZip}
use Rattle.pl_reading.specs.Read.{IsVisitRead}
use Rattle.pl_reading.proofs.visits.stored_visits.Given as goal

abbrev pub invariant-loop-visit : goal.invariant-loop-visit
invariant-loop-visit g l = AllZip (IsVisitRead l.arena) (take l.visit-index l.visits) l.stored.items
