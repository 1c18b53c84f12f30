-- The next ids are no smaller behind an import, and tell how many pages and items it makes.
use Rattle.std.proofs.Common.{◌∙◌, ap}
use Rattle.pl_base.specs.declared.id.Ids.{Ids}
use Rattle.pl_base.specs.Rows.{store_of}
use Rattle.pl_graft.proofs.TreeSteps.{items_counted, pages_counted}
use Rattle.pl_graft.proofs.cost.needed.Goals as goal

pub overflow_sub-result : goal.overflow_sub-result
overflow_sub-result g c =
    let store = store_of (g.R.Rows.kept c.args.rows.now) in
    (pages_counted c.take_tree.new.self c.args.tree.now store
    (c.in_ok-take_tree.ensures store c.in_ok-tally.ensures.tally)
    c.from.result (c.from.ensures ∙ ap (λ (ids : Ids). ids.page) c.ids-ids.ensures.ids)).0

pub overflow_sub-result-2 : goal.overflow_sub-result-2
overflow_sub-result-2 g c =
    let store = store_of (g.R.Rows.kept c.args.rows.now) in
    (items_counted c.take_tree.new.self c.args.tree.now store
    (c.in_ok-take_tree.ensures store c.in_ok-tally.ensures.tally)
    c.from-2.result (c.from-2.ensures ∙ ap (λ (ids : Ids). ids.item) c.ids-ids.ensures.ids)).0

pub returns-clause-pages : goal.returns-clause-pages
returns-clause-pages g c =
    let store = store_of (g.R.Rows.kept c.args.rows.now) in
    (pages_counted c.take_tree.new.self c.args.tree.now store
    (c.in_ok-take_tree.ensures store c.in_ok-tally.ensures.tally)
    c.from.result (c.from.ensures ∙ ap (λ (ids : Ids). ids.page) c.ids-ids.ensures.ids)).1

pub returns-clause-items : goal.returns-clause-items
returns-clause-items g c =
    let store = store_of (g.R.Rows.kept c.args.rows.now) in
    (items_counted c.take_tree.new.self c.args.tree.now store
    (c.in_ok-take_tree.ensures store c.in_ok-tally.ensures.tally)
    c.from-2.result (c.from-2.ensures ∙ ap (λ (ids : Ids). ids.item) c.ids-ids.ensures.ids)).1
