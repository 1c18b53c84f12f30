use Rattle.std.proofs.Common.{◌+◌, ◌∙◌, ap, sym}
use Rattle.std.specs.List.{position}
use Rattle.pl_base.specs.Tree.{first_item}
use Rattle.pl_items.specs.Nodes.{child_nodes}
use Rattle.pl_items.proofs.IdOrder.{has_id}
use Rattle.pl_items.proofs.Lookups.{next_sibling_is, no_parent, no_sibling, rest_of}
use Rattle.pl_items.proofs.items.Items.next_sibling.Goals as goal

pub returns-in_err-place : goal.returns-in_err-place
returns-in_err-place c =
    rw (← c.self.view_is)
    (c.from_residual.ensures
    ∙ no_sibling c.self.inside.nodes.items c.args.id c.self.invariant
    (ap (position (has_id c.args.id)) (sym c.deref.ensures.value) ∙ sym c.place_of.ensures ∙ c.in_err-place.was))

pub returns-in_err-parent : goal.returns-in_err-parent
returns-in_err-parent c =
    rw (← c.self.view_is)
    (c.from_residual-in_err-parent.ensures
    ∙ no_parent c.self.inside.nodes.items c.args.id c.in_ok-place.place c.index.result.now c.self.invariant
    (ap (position (has_id c.args.id)) (sym c.deref.ensures.value) ∙ sym c.place_of.ensures ∙ c.in_ok-place.was)
    c.index.ensures c.in_err-parent.was)

pub returns : goal.returns
returns c =
    rw (← c.self.view_is)
    (c.first_child.ensures
    ∙ ap (λ nodes. first_item (child_nodes nodes c.in_ok-parent.parent))
    (rest_of (c.in_ok-place.place + 1) c.self.inside.nodes.items c.deref-2.result.now c.deref-2.ensures.value)
    ∙ next_sibling_is c.self.inside.nodes.items c.args.id c.in_ok-parent.parent c.in_ok-place.place c.index.result.now
    c.self.invariant
    (ap (position (has_id c.args.id)) (sym c.deref.ensures.value) ∙ sym c.place_of.ensures ∙ c.in_ok-place.was)
    c.index.ensures c.in_ok-parent.was)
