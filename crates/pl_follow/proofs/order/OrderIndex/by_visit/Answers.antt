use Rattle.std.proofs.Common.{◌∙◌, ap, reverse}
use Rattle.pl_follow.specs.Order.{visit_ranks}
use Rattle.pl_follow.proofs.RankLists.{walked}
use Rattle.pl_follow.proofs.ViewRanks.{visit_cmp, visit_total, visits_above, visits_below}
use Rattle.pl_follow.proofs.order.OrderIndex.by_visit.Goals as goal

pub returns-clause-order : goal.returns-clause-order
returns-clause-order c =
    λ views orders.
    ap reverse (c.rev.ensures.source ∙ c.iter.ensures.rest)
    ∙ walked visit_cmp visit_total c.args.self.now.visits.keys (visit_ranks views) c.iter.ensures.ordered
    (orders.visits ∙ visits_below (visit_ranks views))
    ∙ visits_above (visit_ranks views)
