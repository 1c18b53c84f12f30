-- What is counted is the import into the store without the pages that go, which the restore is.
use Rattle.std.proofs.Common.{◌∙◌, ap, sym}
use Rattle.pl_base.specs.declared.id.Ids.{Ids}
use Rattle.pl_base.specs.Live.{live_slots}
use Rattle.pl_base.specs.Rows.{store_of}
use Rattle.pl_base.specs.Store.{Store}
use Rattle.pl_graft.specs.Restored.{emptied}
use Rattle.pl_graft.specs.Spared.{spared}
use Rattle.pl_graft.proofs.RestoredLaws.{restored_spared}
use Rattle.pl_graft.proofs.TreeSteps.{items_counted, pages_counted}
use Rattle.pl_graft.proofs.cost.anew.needed_anew.Goals as goal

pub overflow_sub-result : goal.overflow_sub-result
overflow_sub-result g c =
    let first : Store = spared c.args.tree.now (emptied (store_of (g.R.Rows.kept c.args.rows.now))) in
    (pages_counted c.take_tree.new.self c.args.tree.now first
    (c.in_ok-take_tree.ensures first c.in_ok-tally.ensures.tally)
    c.from.result (c.from.ensures ∙ ap (λ (ids : Ids). ids.page) c.ids-ids.ensures.ids)).0

pub overflow_sub-result-2 : goal.overflow_sub-result-2
overflow_sub-result-2 g c =
    let first : Store = spared c.args.tree.now (emptied (store_of (g.R.Rows.kept c.args.rows.now))) in
    (items_counted c.take_tree.new.self c.args.tree.now first
    (c.in_ok-take_tree.ensures first c.in_ok-tally.ensures.tally)
    c.from-2.result (c.from-2.ensures ∙ ap (λ (ids : Ids). ids.item) c.ids-ids.ensures.ids)).0

pub returns-clause-live : goal.returns-clause-live
returns-clause-live g c =
    let store : Store = store_of (g.R.Rows.kept c.args.rows.now) in
    (c.in_ok-take_tree.ensures (spared c.args.tree.now (emptied store)) c.in_ok-tally.ensures.tally).live
    ∙ ap live_slots (sym (restored_spared c.args.tree.now store c.requires.good))

pub returns-clause-pages : goal.returns-clause-pages
returns-clause-pages g c =
    let first : Store = spared c.args.tree.now (emptied (store_of (g.R.Rows.kept c.args.rows.now))) in
    (pages_counted c.take_tree.new.self c.args.tree.now first
    (c.in_ok-take_tree.ensures first c.in_ok-tally.ensures.tally)
    c.from.result (c.from.ensures ∙ ap (λ (ids : Ids). ids.page) c.ids-ids.ensures.ids)).1
    ∙ ap (λ (s : Store). s.ids.page)
    (sym (restored_spared c.args.tree.now (store_of (g.R.Rows.kept c.args.rows.now)) c.requires.good))

pub returns-clause-items : goal.returns-clause-items
returns-clause-items g c =
    let first : Store = spared c.args.tree.now (emptied (store_of (g.R.Rows.kept c.args.rows.now))) in
    (items_counted c.take_tree.new.self c.args.tree.now first
    (c.in_ok-take_tree.ensures first c.in_ok-tally.ensures.tally)
    c.from-2.result (c.from-2.ensures ∙ ap (λ (ids : Ids). ids.item) c.ids-ids.ensures.ids)).1
    ∙ ap (λ (s : Store). s.ids.item)
    (sym (restored_spared c.args.tree.now (store_of (g.R.Rows.kept c.args.rows.now)) c.requires.good))

pub returns-clause-order : goal.returns-clause-order
returns-clause-order g c =
    restored_spared c.args.tree.now (store_of (g.R.Rows.kept c.args.rows.now)) c.requires.good

pub returns-in_err-tally-clause-order : goal.returns-in_err-tally-clause-order
returns-in_err-tally-clause-order g c =
    restored_spared c.args.tree.now (store_of (g.R.Rows.kept c.args.rows.now)) c.requires.good

pub returns-in_err-take_tree-clause-order : goal.returns-in_err-take_tree-clause-order
returns-in_err-take_tree-clause-order g c =
    restored_spared c.args.tree.now (store_of (g.R.Rows.kept c.args.rows.now)) c.requires.good
