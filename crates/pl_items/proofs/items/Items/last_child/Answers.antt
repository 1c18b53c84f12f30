use Rattle.std.proofs.Common.{◌∙◌, ap, sym}
use Rattle.pl_base.specs.Tree.{last_item}
use Rattle.pl_items.specs.Nodes.{child_nodes}
use Rattle.pl_items.proofs.Children.{children_is}
use Rattle.pl_items.proofs.items.Items.last_child.Goals as goal

pub returns : goal.returns
returns c =
    rw (← c.self.view_is)
    (c.last_child.ensures
    ∙ ap last_item (ap (λ nodes. child_nodes nodes c.args.id) c.deref.ensures.value
    ∙ sym (children_is c.self.inside.nodes.items c.args.id c.self.invariant)))
