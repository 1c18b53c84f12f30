use Rattle.std.proofs.Common.{Some, None, ◌≡◌, ◌∙◌, ap, filter, find, map, min, rules, sym, tests}
use Rattle.std.specs.List.{reduce}
use Rattle.std.specs.Option.{option_map}
use Rattle.std.proofs.lemmas.Iterator.{YieldsList-from_map_by, YieldsList-from_slice}
use Rattle.std.proofs.lemmas.Iterator.Consumers.{YieldsList-at, YieldsList-from_filter, min_from_yields_List}
use Rattle.pl_base.specs.declared.id.ItemId.{ItemId}
use Rattle.pl_items.specs.declared.node.Node.{Node}
use Rattle.pl_items.proofs.IdOrder.{has_id}
use Rattle.pl_items.proofs.Lookups.{found_none, found_some}
use Rattle.pl_items.proofs.References.{is_behind, next_reference_is, no_page, no_reference}
use Rattle.pl_items.proofs.items.Items.next_reference.Goals as goal

pub returns-in_err-node_at : goal.returns-in_err-node_at
returns-in_err-node_at c =
    let found : find (has_id c.args.id) c.self.inside.nodes.items ≡ None =
    ap (find (has_id c.args.id)) (sym c.deref.ensures.value)
    ∙ found_none c.node_at.result c.in_err-node_at.was c.node_at.ensures in
    rw (← c.self.view_is)
    (c.from_residual.ensures ∙ no_reference c.args.id c.self.inside.nodes.items c.self.invariant found)

pub returns-in_err-page : goal.returns-in_err-page
returns-in_err-page c =
    let found : find (has_id c.args.id) c.self.inside.nodes.items ≡ Some c.in_ok-node_at.field-0.now =
    ap (find (has_id c.args.id)) (sym c.deref.ensures.value)
    ∙ found_some c.node_at.result c.in_ok-node_at.field-0 c.in_ok-node_at.was c.node_at.ensures in
    rw (← c.self.view_is)
    (c.from_residual-in_err-page.ensures
    ∙ no_page c.args.id c.in_ok-node_at.field-0.now c.self.inside.nodes.items c.self.invariant found
    c.in_err-page.was)

pub returns : goal.returns
returns c =
    let found : find (has_id c.args.id) c.self.inside.nodes.items ≡ Some c.in_ok-node_at.field-0.now =
    ap (find (has_id c.args.id)) (sym c.deref.ensures.value)
    ∙ found_some c.node_at.result c.in_ok-node_at.field-0 c.in_ok-node_at.was c.node_at.ensures in
    let least : option_map (λ (i : ItemId). i.0) c.min.result
    ≡ reduce min
    (map (λ (n : Node). n.id.0) (filter (is_behind c.in_ok-page.page c.args.id) c.self.inside.nodes.items)) =
    min_from_yields_List c.map.result c.min.result c.min.ensures.ran
    (YieldsList-from_map_by _ (λ (i : ItemId). i.0) (λ (n : Node). n.id.0)
    (YieldsList-at c.map.ensures.source
    (YieldsList-from_filter _ (is_behind c.in_ok-page.page c.args.id) (YieldsList-at c.filter.ensures.source
    (YieldsList-from_slice c.self.inside.nodes.items cc)) c.filter.ensures.closure
    (λ x b q k. search (rules, tests)))) c.map.ensures.closure (λ x b q k. search rules)) in
    rw (← c.self.view_is)
    (next_reference_is c.args.id c.in_ok-page.page c.in_ok-node_at.field-0.now c.self.inside.nodes.items c.min.result
    c.self.invariant found c.in_ok-page.was least)
