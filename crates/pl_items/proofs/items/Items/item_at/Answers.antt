use Rattle.std.proofs.Common.{Some, None, ◌≡◌, ◌∙◌, ap, find, sym}
use Rattle.pl_items.proofs.IdOrder.{has_id}
use Rattle.pl_items.proofs.Lookups.{found_none, found_some, no_row, row_found}
use Rattle.pl_items.proofs.items.Items.item_at.Goals as goal

pub returns-in_err-node : goal.returns-in_err-node
returns-in_err-node c =
    let found : find (has_id c.args.id) c.self.inside.nodes.items ≡ None =
    ap (find (has_id c.args.id)) (sym c.deref.ensures.value)
    ∙ found_none c.node_at.result c.in_err-node.was c.node_at.ensures in
    rw (← c.self.view_is)
    (c.from_residual.ensures ∙ no_row c.self.inside.nodes.items c.args.id c.self.invariant found)

pub returns : goal.returns
returns c =
    let found : find (has_id c.args.id) c.self.inside.nodes.items ≡ Some c.in_ok-node.node.now =
    ap (find (has_id c.args.id)) (sym c.deref.ensures.value)
    ∙ found_some c.node_at.result c.in_ok-node.node c.in_ok-node.was c.node_at.ensures in
    rw (← c.self.view_is)
    (row_found c.self.inside.nodes.items c.args.id c.in_ok-node.node.now c.self.invariant found)
