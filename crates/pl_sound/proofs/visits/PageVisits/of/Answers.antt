use Rattle.std.proofs.Common.{List, rules, subst}
use Rattle.std.specs.List.Sorted.{IsPermutation}
use Rattle.std.proofs.lemmas.List.Sorted.{IsNonDecreasingBy-from_sort_by_key, answers_always}
use Rattle.pl_stored.specs.declared.stored.StoredVisit.{StoredVisit}
use Rattle.pl_sound.proofs.ByPage.{by_page, later, later_ranks}
use Rattle.pl_sound.proofs.visits.PageVisits.of.Goals as goal

pub invariant_of-result : goal.invariant_of-result
invariant_of-result c =
    IsNonDecreasingBy-from_sort_by_key (λ (v : StoredVisit). v.page.0) _ c.in_ok-sort_by_key.ensures.sorted
    (λ a r q k. search rules)

pub returns : goal.returns
returns c =
    by_page c.args.visits.now c.sort_unstable_by.new.self.items c.sort_by_key.new.self.items c.requires
    (subst (λ (vs : List StoredVisit). IsPermutation vs c.sort_unstable_by.new.self.items) c.in_ok-visits.ensures.items
    c.sort_unstable_by.ensures.permutation)
    (c.sort_unstable_by.ensures.sorted later later_ranks (answers_always _ _ _ (λ f a r g called. search rules)))
    (c.sort_by_key.ensures.stable (λ (v : StoredVisit). v.page.0) (answers_always _ _ _ (λ f a r g h. search rules)))
