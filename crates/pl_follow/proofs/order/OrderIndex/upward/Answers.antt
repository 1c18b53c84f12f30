use Rattle.std.proofs.Common.{◌∙◌}
use Rattle.pl_follow.proofs.EntriesFollow.{keys_are}
use Rattle.pl_follow.proofs.order.OrderIndex.upward.Goals as goal

pub returns-clause-order : goal.returns-clause-order
returns-clause-order c =
    λ views orders. c.keys.ensures.rest ∙ keys_are c.args.self.now.frecencies views orders.frecencies
