use Rattle.std.proofs.Common.{◌≡◌, ◌-◌, ◌∙◌, List, ℕ, ap, drop, filter, leb, length, ltb, rules, subst, sym, take, tests}
use Rattle.std.specs.List.Sorted.{IsNonDecreasingBy}
use Rattle.std.proofs.lemmas.List.{take_rest}
use Rattle.std.proofs.lemmas.List.Sorted.{IsNonDecreasingBy-drop, IsPartitionPoint-from_clause, IsPartitionedBy-leb}
use Rattle.std.proofs.lemmas.List.Sorted.{IsPartitionedBy-ltb}
use Rattle.pl_items.proofs.Runs.{run}
use Rattle.pl_stored.specs.declared.stored.StoredVisit.{StoredVisit}
use Rattle.pl_sound.specs.Visits.{of_page}
use Rattle.pl_sound.proofs.visits.PageVisits.of_page.Goals as goal

pub returns : goal.returns
returns c =
    let page : StoredVisit → ℕ = λ v. v.page.0 in
    let start = c.partition_point-start.result in
    let visits : List StoredVisit = c.as_slice-visits.result.now in
    let rises : IsNonDecreasingBy page visits =
    subst (IsNonDecreasingBy page) (sym c.as_slice-visits.ensures.value) c.self.invariant in
    let rest = take (length visits - start) (drop start visits) in
    let is : rest ≡ drop start visits = take_rest visits start in
    run page c.args.page.0 visits rest start c.partition_point-count.result is
    c.partition_point-start.ensures.bound
    c.partition_point-count.ensures.bound
    (IsPartitionPoint-from_clause (λ (v : StoredVisit). ltb v.page.0 c.args.page.0) visits _
    c.partition_point-start.ensures.partitioned (IsPartitionedBy-ltb page visits c.args.page.0 rises)
    (λ a r f k. search (rules, tests)))
    (IsPartitionPoint-from_clause (λ (v : StoredVisit). leb v.page.0 c.args.page.0) rest _
    c.partition_point-count.ensures.partitioned
    (IsPartitionedBy-leb page rest c.args.page.0
    (subst (IsNonDecreasingBy page) (sym is) (IsNonDecreasingBy-drop page start visits rises)))
    (λ a r f k. search (rules, tests)))
    ∙ ap (filter (of_page c.args.page)) (c.as_slice-visits.ensures.value ∙ c.self.view_is)
