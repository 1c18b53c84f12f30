use Rattle.pl_base.specs.Date.{day_number}
use Rattle.pl_score.proofs.WeightChanges.{AreOver}
use Rattle.pl_score.proofs.due.next_change.Given as goal

abbrev pub invariant-loop-age : goal.invariant-loop-age
invariant-loop-age l = AreOver (day_number l.fn.date) l.day l.age-index
