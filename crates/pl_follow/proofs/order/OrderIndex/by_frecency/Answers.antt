use Rattle.std.proofs.Common.{◌∙◌, ap, reverse}
use Rattle.pl_follow.proofs.RankParts.{whole_walk}
use Rattle.pl_follow.proofs.order.OrderIndex.by_frecency.Goals as goal

pub returns-clause-order : goal.returns-clause-order
returns-clause-order c =
    λ views orders.
    ap reverse (c.rev.ensures.source ∙ c.keys.ensures.rest)
    ∙ whole_walk c.args.self.now views orders c.keys.ensures.ordered
