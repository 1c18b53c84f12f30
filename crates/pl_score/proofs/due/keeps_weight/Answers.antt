use Rattle.std.proofs.Common.{◌+◌, ◌≤◌, arith}
use Rattle.std.proofs.lemmas.Bool.{le-leb, leb-true}
use Rattle.pl_score.proofs.WeightChanges.{keeps_over, over_keeps}
use Rattle.pl_score.proofs.due.keeps_weight.Goals as goal

pub returns : goal.returns
returns c = (
  λ over.
      let low : c.day.result.0 + 91 ≤ c.args.day.0 = leb-true _ _ over in
      keeps_over c.args.date c.args.day (omega (arith, c.day.ensures)),
  λ keeps.
      le-leb (c.day.result.0 + 91) c.args.day.0
      (omega (arith, c.day.ensures, over_keeps c.args.date c.args.day keeps)),
)
