use Rattle.std.proofs.Common.{◌≡◌, filter, map, min, rules, tests}
use Rattle.std.specs.List.{reduce}
use Rattle.std.specs.Option.{option_map}
use Rattle.std.proofs.lemmas.Iterator.{YieldsList-from_map_by, YieldsList-from_slice}
use Rattle.std.proofs.lemmas.Iterator.Consumers.{YieldsList-at, YieldsList-from_filter, min_from_yields_List}
use Rattle.pl_base.specs.declared.id.ItemId.{ItemId}
use Rattle.pl_items.specs.declared.node.Node.{Node}
use Rattle.pl_items.proofs.References.{first_reference_is, has_page}
use Rattle.pl_items.proofs.items.Items.first_reference.Goals as goal

pub returns : goal.returns
returns c =
    let least : option_map (λ (i : ItemId). i.0) c.min.result
    ≡ reduce min (map (λ (n : Node). n.id.0) (filter (has_page c.args.page) c.self.inside.nodes.items)) =
    min_from_yields_List c.map.result c.min.result c.min.ensures.ran
    (YieldsList-from_map_by _ (λ (i : ItemId). i.0) (λ (n : Node). n.id.0)
    (YieldsList-at c.map.ensures.source
    (YieldsList-from_filter _ (has_page c.args.page) (YieldsList-at c.filter.ensures.source
    (YieldsList-from_slice c.self.inside.nodes.items cc)) c.filter.ensures.closure
    (λ x b q k. search (rules, tests)))) c.map.ensures.closure (λ x b q k. search rules)) in
    rw (← c.self.view_is)
    (first_reference_is c.args.page c.self.inside.nodes.items c.min.result c.self.invariant least)
