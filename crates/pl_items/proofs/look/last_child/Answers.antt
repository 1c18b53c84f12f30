use Rattle.std.proofs.Common.{◌≡◌, ◌∙◌, ap, find, reverse, rules, sym, tests}
use Rattle.std.specs.Option.{option_and_then, option_copied, option_map}
use Rattle.std.proofs.lemmas.Iterator.Adapters.{YieldsList-from_rev_slice}
use Rattle.std.proofs.lemmas.Iterator.Search.{find_from_yields_List}
use Rattle.pl_base.specs.Tree.{last_item}
use Rattle.pl_items.specs.declared.node.Node.{Node}
use Rattle.pl_items.specs.Nodes.{child_nodes, is_parent}
use Rattle.pl_items.proofs.Appended.{last_child_is}
use Rattle.pl_items.proofs.Lookups.{first_filtered, found_none, found_some}
use Rattle.pl_items.proofs.look.last_child.Goals as goal

pub returns-in_err-node : goal.returns-in_err-node
returns-in_err-node c =
    let found : option_copied c.find.result
    ≡ find (λ (n : Node). is_parent c.in_ok-parent.parent n.parent) (reverse c.args.nodes.now) =
    find_from_yields_List (λ (n : Node). is_parent c.in_ok-parent.parent n.parent) _ _ c.find.result c.find.ensures.ran
    (YieldsList-from_rev_slice c.args.nodes.now cc) (λ x b q k. search (rules, tests)) in
    c.from_residual-in_err-node.ensures
    ∙ ap (option_map (λ (n : Node). n.id)) (sym (found_none c.find.result c.in_err-node.was found))
    ∙ sym (first_filtered (λ (n : Node). is_parent c.in_ok-parent.parent n.parent) (reverse c.args.nodes.now))
    ∙ last_child_is c.in_ok-parent.parent c.args.nodes.now
    ∙ sym (ap (option_and_then (λ p. last_item (child_nodes c.args.nodes.now p))) c.in_ok-parent.was)

pub returns : goal.returns
returns c =
    let found : option_copied c.find.result
    ≡ find (λ (n : Node). is_parent c.in_ok-parent.parent n.parent) (reverse c.args.nodes.now) =
    find_from_yields_List (λ (n : Node). is_parent c.in_ok-parent.parent n.parent) _ _ c.find.result c.find.ensures.ran
    (YieldsList-from_rev_slice c.args.nodes.now cc) (λ x b q k. search (rules, tests)) in
    ap (option_map (λ (n : Node). n.id)) (sym (found_some c.find.result c.in_ok-node.node c.in_ok-node.was found))
    ∙ sym (first_filtered (λ (n : Node). is_parent c.in_ok-parent.parent n.parent) (reverse c.args.nodes.now))
    ∙ last_child_is c.in_ok-parent.parent c.args.nodes.now
    ∙ sym (ap (option_and_then (λ p. last_item (child_nodes c.args.nodes.now p))) c.in_ok-parent.was)
