use Rattle.std.proofs.Common.{◌≡◌, List, ℕ, rules, subst, sym, tests, leb, ltb, drop, length, take, ◌-◌}
use Rattle.std.specs.List.Sorted.{IsNonDecreasingBy}
use Rattle.std.proofs.lemmas.List.{take_rest}
use Rattle.std.proofs.lemmas.List.Sorted.{IsPartitionPoint-from_clause, IsPartitionedBy-leb, IsPartitionedBy-ltb}
use Rattle.std.proofs.lemmas.List.Sorted.{IsNonDecreasingBy-drop}
use Rattle.pl_items.specs.declared.by_id.Child.{Child}
use Rattle.pl_items.proofs.Runs.{run}
use Rattle.pl_items.proofs.by_id.children_of.Goals as goal

pub returns : goal.returns
returns c =
    let parent : Child → ℕ = λ x. x.parent.0 in
    let start = c.partition_point-start.result in
    let children : List Child = c.args.children.now in
    let rest = take (length children - start) (drop start children) in
    let is : rest ≡ drop start children = take_rest children start in
    run parent c.args.parent.0 children rest start c.partition_point-count.result is
    c.partition_point-start.ensures.bound
    c.partition_point-count.ensures.bound
    (IsPartitionPoint-from_clause (λ (x : Child). ltb x.parent.0 c.args.parent.0) children _
    c.partition_point-start.ensures.partitioned
    (IsPartitionedBy-ltb parent children c.args.parent.0 c.requires)
    (λ a r f k. search (rules, tests)))
    (IsPartitionPoint-from_clause (λ (x : Child). leb x.parent.0 c.args.parent.0) rest _
    c.partition_point-count.ensures.partitioned
    (IsPartitionedBy-leb parent rest c.args.parent.0
    (subst (IsNonDecreasingBy parent) (sym is) (IsNonDecreasingBy-drop parent start children c.requires)))
    (λ a r f k. search (rules, tests)))
