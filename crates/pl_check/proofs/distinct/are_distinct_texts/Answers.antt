use Rattle.std.proofs.Common.{Bor, ◌≡◌, ℕ, List, refl, rules, subst, tests}
use Rattle.std.specs.Cmp.Lexicographic.{nat_list_cmp_total, on_texts}
use Rattle.std.specs.List.{IsAllAdjacentAnswer}
use Rattle.std.specs.Ordering.{is_lt}
use Rattle.std.proofs.lemmas.List.Sorted.{answers_always, ranks_by}
use Rattle.pl_check.proofs.DistinctLaws.{distinct_sorted, same_texts, text_order, texts_apart}
use Rattle.pl_check.proofs.distinct.are_distinct_texts.Goals as goal

pub returns : goal.returns
returns c =
    let text = λ (r : Bor (List ℕ)). r.now in
    let below = λ (x y : Bor (List ℕ)). is_lt (text_order x y) in
    texts_apart c.is_sorted_by.result c.args.texts.items
    (distinct_sorted (on_texts text) text same_texts below (λ x y. refl) c.args.texts.items
    c.sort_unstable_by.new.self.items c.is_sorted_by.result c.sort_unstable_by.ensures.permutation
    (c.sort_unstable_by.ensures.sorted below (ranks_by nat_list_cmp_total text)
    (answers_always _ _ _ (λ f a r g called. search (rules, tests))))
    (subst (λ (xs : List (Bor (List ℕ))). IsAllAdjacentAnswer (λ x y b. b ≡ below x y) xs c.is_sorted_by.result)
    c.deref.ensures.value
    (c.is_sorted_by.ensures.cases below (answers_always _ _ _ (λ f a r g called. search (rules, tests))))))
