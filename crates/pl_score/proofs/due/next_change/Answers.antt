use Rattle.std.proofs.Common.{arith}
use Rattle.pl_score.proofs.WeightChanges.{first_change, no_change}
use Rattle.pl_score.proofs.due.next_change.Goals as goal

pub returns-then-change-day : goal.returns-then-change-day
returns-then-change-day c =
    first_change c.args.date c.args.day c.day-visited.result.0 c.loop-age.age-index c.then_some.result
    c.day-visited.ensures c.loop-age-test.true c.loop-age.invariant c.if-change-day.true c.then_some.ensures

pub returns : goal.returns
returns c = no_change c.args.date c.args.day (λ k below. c.loop-age.invariant k (omega arith))
