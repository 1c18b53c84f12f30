use Rattle.std.proofs.Common.{rules}
use Rattle.std.proofs.lemmas.Fn.{always_returns_same}
use Rattle.pl_marked.proofs.FoundOrder.{found_before, found_in_order, found_ranks}
use Rattle.pl_marked.proofs.found.put_in_order.Goals as goal

pub returns-clause-order : goal.returns-clause-order
returns-clause-order c =
    found_in_order c.args.sort c.args.found.now.items c.sort_unstable_by.new.self.items c.requires
    c.sort_unstable_by.ensures.permutation
    (c.sort_unstable_by.ensures.sorted (found_before c.args.sort) (found_ranks c.args.sort)
    (always_returns_same _ _ _ (λ a r f called. (search rules, search rules))))
