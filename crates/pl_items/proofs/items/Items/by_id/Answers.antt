use Rattle.std.proofs.Common.{◌≡◌, ◌∙◌, ap, map}
use Rattle.pl_base.specs.declared.id.ItemId.{ItemId}
use Rattle.pl_items.specs.Nodes.{by_id, child_nodes, ids_under, item_of}
use Rattle.pl_items.proofs.ChildRows.{listed_are}
use Rattle.pl_items.proofs.items.Items.by_id.Goals as goal

pub returns : goal.returns
returns c =
    let nodes = c.self.inside.nodes.items in
    let rows = c.in_ok-children.children.items in
    let whole : (id : ItemId) → ids_under rows id ≡ child_nodes nodes id = λ id.
    c.in_ok-children.ensures.order id ∙ ap (λ ns. child_nodes ns id) c.deref-2.ensures.value
    in
    let sorted = c.in_ok-nodes.ensures ∙ ap by_id c.deref.ensures.value in
    listed_are (λ n. n.now) nodes rows c.in_ok-nodes.nodes.items whole
    ∙ ap (map (item_of nodes)) sorted
    ∙ c.self.view_is
