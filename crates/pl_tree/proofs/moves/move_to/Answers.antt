use Rattle.std.proofs.Common.{◌≡◌, ◌∙◌, List, Option, ap, subst, sym}
use Rattle.pl_base.specs.declared.id.ItemId.{ItemId}
use Rattle.pl_base.specs.Good.{HasGoodItems}
use Rattle.pl_base.specs.Rows.{Kept, store_of, with_items}
use Rattle.pl_base.specs.Store.{Item}
use Rattle.pl_base.specs.Tree.{has_item, moved, redated}
use Rattle.pl_tree.specs.Changes.{with_moved}
use Rattle.pl_tree.proofs.Allowed.{has_moved, move_after_there, move_item_there, move_parent_there}
use Rattle.pl_tree.proofs.GoodChanges.{good_moved}
use Rattle.pl_tree.proofs.PutPlaces.{item_moved}
use Rattle.pl_tree.proofs.moves.move_to.Given.{Over}
use Rattle.pl_tree.proofs.moves.move_to.Goals as goal
use Rattle.pl_tree.proofs.moves.move_to.Goals.{After-set_modified}

pub move_item-requires-clause-parent : goal.move_item-requires-clause-parent
move_item-requires-clause-parent g c =
    (move_parent_there (g.R.Rows.kept c.args.rows.now).items c.args.item c.args.parent c.args.place
    c.in_ok-after.ensures.refused).0

pub move_item-requires-clause-outside : goal.move_item-requires-clause-outside
move_item-requires-clause-outside g c =
    (move_parent_there (g.R.Rows.kept c.args.rows.now).items c.args.item c.args.parent c.args.place
    c.in_ok-after.ensures.refused).1

pub move_item-requires-clause-after : goal.move_item-requires-clause-after
move_item-requires-clause-after g c =
    move_after_there (g.R.Rows.kept c.args.rows.now).items c.args.item c.args.parent c.args.place
    c.in_ok-after.after c.requires.good.tree c.in_ok-after.ensures.before

pub set_modified-requires-clause-item : goal.set_modified-requires-clause-item
set_modified-requires-clause-item g c =
    let kept : Kept = g.R.Rows.kept c.args.rows.now in
    ap (λ (k : Kept). has_item k.items c.args.item) c.move_item.ensures.kept
    ∙ has_moved c.args.item c.args.parent c.in_ok-after.after kept.items
    (move_item_there kept.items c.args.item c.args.parent c.args.place c.in_ok-after.ensures.refused)

left : (g : Over) (c : After-set_modified g)
    → g.R.Rows.kept c.set_modified.new.self
    ≡ with_items (with_moved c.args.item c.args.parent c.args.place c.args.date (g.R.Rows.kept c.args.rows.now).items)
    (g.R.Rows.kept c.args.rows.now)
left g c =
    let kept : Kept = g.R.Rows.kept c.args.rows.now in
    c.set_modified.ensures.kept
    ∙ ap (λ (k : Kept). with_items (redated c.args.item c.args.date k.items) k) c.move_item.ensures.kept
    ∙ ap (λ (after : Option ItemId).
    with_items (redated c.args.item c.args.date (moved c.args.item c.args.parent after kept.items)) kept)
    c.in_ok-after.ensures.before
    ∙ ap (λ (items : List Item). with_items (redated c.args.item c.args.date items) kept)
    (item_moved kept c.args.item c.args.parent c.args.place (g.met.R.Rows.well_kept c.args.rows.now)
    c.requires.good.tree)

pub returns-clause-kept : goal.returns-clause-kept
returns-clause-kept g c = left g c

pub returns-clause-good : goal.returns-clause-good
returns-clause-good g c =
    let kept : Kept = g.R.Rows.kept c.args.rows.now in
    subst (λ (k : Kept). HasGoodItems (store_of k)) (sym (left g c))
    (good_moved kept c.args.item c.args.parent c.args.place c.args.date (g.met.R.Rows.well_kept c.args.rows.now)
    c.requires.good c.requires.date (sym c.in_ok-after.ensures.refused))
