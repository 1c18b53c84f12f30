use Rattle.std.proofs.Common.{length}
use Rattle.pl_sheets.proofs.level.Level.+next.Given as goal

abbrev pub decreases-next : goal.decreases-next
decreases-next l = length l.above.now
