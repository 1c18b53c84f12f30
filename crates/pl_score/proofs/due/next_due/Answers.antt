use Rattle.pl_score.proofs.WeightChanges.{first_more}
use Rattle.pl_score.proofs.due.next_due.Goals as goal

pub loop-visit-preserved : goal.loop-visit-preserved
loop-visit-preserved c =
    first_more c.args.sample.now c.loop-visit.visit-index (record { date = record { 0 = 0 }; bonus = 0 }) c.args.day
    c.loop-visit.due c.next_change.result c.earlier-due.result c.loop-visit-test.true c.loop-visit.invariant
    c.next_change.ensures c.earlier-due.ensures
