use Rattle.std.proofs.Common.{subst, sym}
use Rattle.std.proofs.lemmas.Result.{on_ok_weaker}
use Rattle.pl_base.specs.Good.{HasGoodItems}
use Rattle.pl_base.specs.Rows.{Kept, store_of}
use Rattle.pl_tree.specs.declared.place.Place.TheVariants.{End}
use Rattle.pl_tree.proofs.Allowed.{after_there, live_inserted, parent_there, takes_item}
use Rattle.pl_tree.proofs.GoodChanges.{good_put}
use Rattle.pl_tree.proofs.PutPlaces.{item_appended}
use Rattle.pl_tree.proofs.insertion.append.Goals as goal

pub insert_item-requires-clause-parent : goal.insert_item-requires-clause-parent
insert_item-requires-clause-parent g c =
    let kept : Kept = g.R.Rows.kept c.args.rows.now in
    rw c.requires.parent
    (parent_there kept.items c.args.parent End (takes_item kept c.args.parent End c.requires.allowed))

pub insert_item-requires-clause-after : goal.insert_item-requires-clause-after
insert_item-requires-clause-after g c =
    rw c.requires.parent
    (after_there (g.R.Rows.kept c.args.rows.now).items c.args.parent End c.args.last c.requires.good.tree
    c.requires.last)

pub insert_item-requires-clause-live : goal.insert_item-requires-clause-live
insert_item-requires-clause-live g c =
    live_inserted (g.R.Rows.kept c.args.rows.now) c.args.row.now c.args.title.now c.args.last c.requires.live

pub returns-clause-kept : goal.returns-clause-kept
returns-clause-kept g c =
    on_ok_weaker c.insert_item.result
    (item_appended (g.R.Rows.kept c.args.rows.now) (g.R.Rows.kept c.insert_item.new.self) c.args.parent c.args.last
    c.args.row.now c.args.title.now c.requires.parent c.requires.last (g.met.R.Rows.well_kept c.args.rows.now)
    c.requires.good.tree)
    c.insert_item.ensures.kept

pub returns-clause-good : goal.returns-clause-good
returns-clause-good g c =
    on_ok_weaker c.insert_item.result (λ made.
    subst (λ (k : Kept). HasGoodItems (store_of k)) (sym made)
    (good_put (g.R.Rows.kept c.args.rows.now) c.args.parent End c.args.row.now c.args.title.now
    (g.met.R.Rows.well_kept c.args.rows.now) c.requires.good c.requires.allowed (c.utf8.title, c.requires.title)
    c.requires.added c.requires.modified c.requires.bookmark c.requires.page))
    (returns-clause-kept g c)
