use Rattle.std.proofs.Common.{◌≡◌, ◌∙◌, ◌++◌, ◌∷◌, [], ap, rules, sym, take}
use Rattle.std.proofs.lemmas.List.Elements.{filter_map-append}
use Rattle.std.specs.List.{filter_map}
use Rattle.std.proofs.lemmas.List.{take_all, take_more}
use Rattle.std.proofs.lemmas.List.Sorted.{IsNonDecreasingBy-from_sort_by_key, answers_always}
use Rattle.pl_items.specs.Nodes.{child_row, ids_under}
use Rattle.pl_items.specs.declared.by_id.Child.{Child}
use Rattle.pl_items.proofs.ChildRows.{rows_under, sorted_under}
use Rattle.pl_items.proofs.by_id.children_by_parent.Goals as goal

pub returns-clause-ascending : goal.returns-clause-ascending
returns-clause-ascending c =
    IsNonDecreasingBy-from_sort_by_key (λ (x : Child). x.parent.0) _ c.in_ok-sort_by_key.ensures.sorted
    (λ a r q k. search rules)

pub returns-clause-order : goal.returns-clause-order
returns-clause-order c = λ id.
    let rows : c.loop-node.children.items ≡ filter_map child_row c.args.nodes.now =
    c.loop-node.invariant
    ∙ ap (filter_map child_row) (take_all c.loop-node.node-index c.args.nodes.now c.loop-node-test.false)
    in
    sorted_under c.loop-node.children.items _ id
    (c.sort_by_key.ensures.stable (λ (x : Child). x.parent.0) (answers_always _ _ _ (λ f a r g h. search rules)))
    ∙ ap (λ l. ids_under l id) rows ∙ rows_under c.args.nodes.now id

pub loop-node-preserved : goal.loop-node-preserved
loop-node-preserved c =
    let nodes = c.args.nodes.now in
    let k = c.loop-node.node-index in
    let node = c.node-item.result in
    c.in_ok-push_child.ensures
    ∙ ap (λ l. l ++ filter_map child_row (node ∷ [])) c.loop-node.invariant
    ∙ sym (filter_map-append child_row (take k nodes) (node ∷ []))
    ∙ ap (λ n. filter_map child_row (take k nodes ++ n ∷ [])) c.node-item.is
    ∙ ap (filter_map child_row) (sym (take_more nodes k node c.loop-node-test.true))
