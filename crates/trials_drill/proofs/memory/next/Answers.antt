use Rattle.std.proofs.Common.{◌≤◌, ◌+◌, ap, arith}
use Rattle.std.proofs.lemmas.Result.{IfOk-weaker}
use Rattle.places.proofs.DrillLemmas.{behind_day}
use Rattle.trials_drill.proofs.memory.next.Goals as goal

pub returns-clause-days : goal.returns-clause-days
returns-clause-days c =
    IfOk-weaker c.performed.result _ (λ made. 60 ≤ made.drill.day)
    (λ made is. let low = (behind_day c.args.number c.args.made.drill).0 in
    omega (arith, is, ap (λ d. d.day) c.in_ok-line.ensures.drill, low, c.requires.days))
    c.performed.ensures

pub returns-clause-dates : goal.returns-clause-dates
returns-clause-dates c =
    IfOk-weaker c.performed.result _ (λ made. made.drill.day ≤ 19_000 + (c.args.number + 1))
    (λ made is. let high = (behind_day c.args.number c.args.made.drill).1 in
    omega (arith, is, ap (λ d. d.day) c.in_ok-line.ensures.drill, high, c.requires.dates))
    c.performed.ensures
