use Rattle.std.proofs.Common.{◌∙◌}
use Rattle.pl_follow.specs.Order.{visit_ranks}
use Rattle.pl_follow.proofs.ViewRanks.{next_later, visits_below}
use Rattle.pl_follow.proofs.order.OrderIndex.visited_before.Goals as goal

pub returns : goal.returns
returns c =
    λ views orders.
    c.next_below.ensures (visit_ranks views) (orders.visits ∙ visits_below (visit_ranks views))
    ∙ next_later c.args.place (visit_ranks views)
