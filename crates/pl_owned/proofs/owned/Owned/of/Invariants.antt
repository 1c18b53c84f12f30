use Rattle.std.proofs.Common.{take}
use Rattle.pl_owned.specs.Owned.{HasOwned}
use Rattle.pl_owned.proofs.owned.Owned.of.Given as goal

abbrev pub invariant-loop-member : goal.invariant-loop-member
invariant-loop-member l = HasOwned (take l.member-index l.members) l.count l.owned
