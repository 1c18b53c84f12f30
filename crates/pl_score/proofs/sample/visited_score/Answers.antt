use Rattle.std.proofs.Common.{arith}
use Rattle.pl_score.proofs.Rounding.{rounded_up-is}
use Rattle.pl_score.proofs.sample.visited_score.Goals as goal

pub returns : goal.returns
returns c = grind (arith, rounded_up-is)
