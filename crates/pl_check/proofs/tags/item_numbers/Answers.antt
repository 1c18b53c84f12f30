use Rattle.std.proofs.Common.{Bor, ◌∙◌, rules, sym}
use Rattle.std.proofs.lemmas.Iterator.{YieldsList-from_map, YieldsList-from_slice, items_from_collect}
use Rattle.pl_base.specs.Store.{Item}
use Rattle.pl_base.proofs.ListLaws.{map-map}
use Rattle.pl_check.proofs.tags.item_numbers.Goals as goal

pub returns : goal.returns
returns c =
    let numbers =
    items_from_collect c.collect.result c.collect.ensures.ran
    (YieldsList-from_map _ (λ (r : Bor Item). r.now.id.0) (YieldsList-from_slice c.args.items.now cc)
    c.map-numbers.ensures.closure (λ x r q k. search rules)) in
    (rw c.in_ok-collect.was at numbers)
    ∙ sym (map-map (λ (i : Item). i.id.0) (λ (r : Bor Item). r.now) c.args.items.now)
