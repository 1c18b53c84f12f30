use Rattle.std.proofs.Common.{[], arith, refl}
use Rattle.pl_tree.specs.declared.place.Place.TheVariants.{End}
use Rattle.pl_tree.specs.Tagged.{new_entry}
use Rattle.pl_tree.proofs.Allowed.{after_there, live_inserted}
use Rattle.pl_tree.proofs.TwoInserted.{last_inserted}
use Rattle.pl_tree.proofs.tags.add_entry.Goals as goal

pub insert_item-requires-clause-after : goal.insert_item-requires-clause-after
insert_item-requires-clause-after g c =
    rw c.row_in-row.ensures
    (after_there (g.R.Rows.kept c.args.rows.now).items c.args.folder End c.args.after
    c.requires.good.tree c.requires.after)

pub insert_item-requires-clause-live : goal.insert_item-requires-clause-live
insert_item-requires-clause-live g c =
    live_inserted (g.R.Rows.kept c.args.rows.now) c.row_in-row.result [] c.args.after
    (omega (arith, c.requires.live))

pub returns-clause-kept : goal.returns-clause-kept
returns-clause-kept g c =
    last_inserted (g.R.Rows.kept c.args.rows.now) (g.R.Rows.kept c.insert_item.new.self) c.args.folder
    c.row_in-row.result [] c.args.after (new_entry c.args.page c.args.date)
    (g.met.R.Rows.well_kept c.args.rows.now) c.requires.good.tree c.in_ok-insert_item.ensures.kept
    c.row_in-row.ensures refl c.requires.after
