use Rattle.std.proofs.Common.{rules}
use Rattle.std.proofs.lemmas.Fn.{always_returns_same}
use Rattle.pl_query.specs.Candidates.{goes_before}
use Rattle.pl_query.proofs.CandidateOrder.{in_order, ranks}
use Rattle.pl_query.proofs.ordering.put_in_order.Goals as goal

pub returns : goal.returns
returns c =
    in_order c.args.sort c.args.candidates.now.items c.sort_unstable_by.new.self.items c.requires
    c.sort_unstable_by.ensures.permutation
    (c.sort_unstable_by.ensures.sorted (goes_before c.args.sort) (ranks c.args.sort)
    (always_returns_same _ _ _ (λ a r f called. (search rules, search rules))))
