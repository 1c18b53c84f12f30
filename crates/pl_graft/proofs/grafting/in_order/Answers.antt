use Rattle.std.proofs.Common.{◌≡◌, rules, subst, sym}
use Rattle.std.specs.List.Sorted.{IsStrictlyIncreasing}
use Rattle.pl_graft.proofs.GainedOrder.{increasing, numbers}
use Rattle.pl_graft.proofs.grafting.in_order.Goals as goal

pub returns-clause-ascending : goal.returns-clause-ascending
returns-clause-ascending c =
    let same : c.in_ok-collect.field-0.items ≡ c.args.pages.now.keys = search rules in
    subst (λ pages. IsStrictlyIncreasing (numbers pages)) (sym same)
    (increasing c.args.pages.now.keys c.iter.ensures.ordered)
