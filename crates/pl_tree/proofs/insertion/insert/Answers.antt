use Rattle.std.proofs.Common.{◌≡◌, ◌∙◌, ℕ, List, Option, ap, subst, sym}
use Rattle.pl_base.specs.declared.id.ItemId.{ItemId}
use Rattle.pl_base.specs.declared.id.Ids.{Ids}
use Rattle.pl_base.specs.Good.{HasGoodItems}
use Rattle.pl_base.specs.Rows.{Kept, store_of, with_item}
use Rattle.pl_tree.specs.Changes.{with_inserted}
use Rattle.pl_tree.proofs.Allowed.{after_there, insert_allowed, live_inserted, parent_there}
use Rattle.pl_tree.proofs.GoodChanges.{good_inserted}
use Rattle.pl_tree.proofs.PutPlaces.{item_inserted, row_of_new}
use Rattle.pl_tree.proofs.insertion.insert.Given.{Over}
use Rattle.pl_tree.proofs.insertion.insert.Goals as goal
use Rattle.pl_tree.proofs.insertion.insert.Goals.{In_ok-insert_item}

pub insert_item-requires-clause-parent : goal.insert_item-requires-clause-parent
insert_item-requires-clause-parent g c =
    parent_there (g.R.Rows.kept c.args.rows.now).items c.args.parent c.args.place c.in_ok-after.ensures.refused

pub insert_item-requires-clause-after : goal.insert_item-requires-clause-after
insert_item-requires-clause-after g c =
    after_there (g.R.Rows.kept c.args.rows.now).items c.args.parent c.args.place c.in_ok-after.after
    c.requires.good.tree c.in_ok-after.ensures.before

pub insert_item-requires-clause-live : goal.insert_item-requires-clause-live
insert_item-requires-clause-live g c =
    let kept : Kept = g.R.Rows.kept c.args.rows.now in
    rw c.as_str.ensures
    (live_inserted kept (row_of_new c.args.parent c.args.item.now) c.args.item.now.title c.in_ok-after.after
    (c.requires.live
    (insert_allowed kept c.args.parent c.args.place c.in_ok-after.ensures.refused
    (λ same. c.if-ids.false (ap (λ (ids : Ids). ids.item) c.ids.ensures.ids ∙ same)))))

left : (g : Over) (c : In_ok-insert_item g)
    → g.R.Rows.kept c.insert_item.new.self
    ≡ with_inserted c.args.parent c.args.place c.args.item.now (g.R.Rows.kept c.args.rows.now)
left g c =
    let kept : Kept = g.R.Rows.kept c.args.rows.now in
    c.in_ok-insert_item.ensures.kept
    ∙ ap (λ (title : List ℕ). with_item (row_of_new c.args.parent c.args.item.now) title c.in_ok-after.after kept)
    c.as_str.ensures
    ∙ ap (λ (after : Option ItemId).
    with_item (row_of_new c.args.parent c.args.item.now) c.args.item.now.title after kept)
    c.in_ok-after.ensures.before
    ∙ item_inserted kept c.args.parent c.args.place c.args.item.now (g.met.R.Rows.well_kept c.args.rows.now)
    c.requires.good.tree

pub returns-clause-kept : goal.returns-clause-kept
returns-clause-kept g c = left g c

pub returns-clause-good : goal.returns-clause-good
returns-clause-good g c =
    let kept : Kept = g.R.Rows.kept c.args.rows.now in
    subst (λ (k : Kept). HasGoodItems (store_of k)) (sym (left g c))
    (good_inserted kept c.args.parent c.args.place c.args.item.now (g.met.R.Rows.well_kept c.args.rows.now)
    c.requires.good
    (insert_allowed kept c.args.parent c.args.place c.in_ok-after.ensures.refused
    (λ same. c.if-ids.false (ap (λ (ids : Ids). ids.item) c.ids.ensures.ids ∙ same)))
    (rw c.as_str.ensures at c.as_str.utf8, c.requires.title) c.requires.date c.requires.bookmark c.requires.page)
