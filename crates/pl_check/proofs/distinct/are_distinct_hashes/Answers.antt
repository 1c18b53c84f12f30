use Rattle.std.proofs.Common.{◌≡◌, ℕ, List, nat_lt, rules, subst, tests}
use Rattle.std.specs.Cmp.{nat_cmp_total}
use Rattle.std.specs.List.{IsAllAdjacentAnswer}
use Rattle.std.proofs.lemmas.List.Sorted.{answers_always}
use Rattle.pl_check.proofs.DistinctLaws.{distinct_sorted, lt_agrees, same_numbers}
use Rattle.pl_check.proofs.distinct.are_distinct_hashes.Goals as goal

pub returns : goal.returns
returns c =
    distinct_sorted nat_cmp_total (λ n. n) same_numbers nat_lt lt_agrees c.args.hashes.items
    c.sort_unstable.new.self.items c.is_sorted_by.result c.sort_unstable.ensures.permutation
    c.sort_unstable.ensures.sorted
    (subst (λ (xs : List ℕ). IsAllAdjacentAnswer (λ x y b. b ≡ nat_lt x y) xs c.is_sorted_by.result)
    c.deref.ensures.value
    (c.is_sorted_by.ensures.cases nat_lt (answers_always _ _ _ (λ f a r g called. search (rules, tests)))))
