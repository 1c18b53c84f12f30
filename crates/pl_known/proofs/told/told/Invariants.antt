use Rattle.std.proofs.Common.{take}
use Rattle.pl_known.proofs.told.told.Given as goal

abbrev pub invariant-loop-view : goal.invariant-loop-view
invariant-loop-view g l = g.F.Follow.stands l.follower (take l.view-index l.views)
