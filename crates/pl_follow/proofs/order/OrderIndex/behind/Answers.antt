use Rattle.std.proofs.Common.{◌∙◌, ap, reverse}
use Rattle.pl_follow.proofs.RankParts.{behind_walk}
use Rattle.pl_follow.proofs.order.OrderIndex.behind.Goals as goal

pub returns-clause-order : goal.returns-clause-order
returns-clause-order c =
    λ views orders.
    ap reverse (c.rev.ensures.source ∙ c.range.ensures.between tt)
    ∙ behind_walk c.args.self.now views orders c.range.ensures.ordered c.args.place
