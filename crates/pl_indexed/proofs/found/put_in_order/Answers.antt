use Rattle.std.proofs.Common.{rules}
use Rattle.std.proofs.lemmas.Fn.{always_returns_same}
use Rattle.std.proofs.lemmas.List.Sorted.{IsPermutation-trans}
use Rattle.pl_indexed.specs.Found.{place_found}
use Rattle.pl_indexed.proofs.FoundOrder.{in_order}
use Rattle.pl_indexed.proofs.KeyOrder.{before_by, places_rank}
use Rattle.pl_indexed.proofs.found.put_in_order.Goals as goal

pub returns : goal.returns
returns c views are =
    in_order c.args.sort c.args.found.now.items c.sort_unstable_by.new.self.items views c.requires
    (IsPermutation-trans _ _ _ c.sort_by-by_keys.ensures.permutation c.sort_unstable_by.ensures.permutation)
    (c.sort_unstable_by.ensures.sorted (before_by c.args.sort place_found) (places_rank c.args.sort place_found)
    (always_returns_same _ _ _ (λ a r f called. (search rules, search rules))))
    are
