use Rattle.std.proofs.Common.{◌≤◌, [], None, ap, refl, subst, sym}
use Rattle.pl_base.specs.declared.item.ItemRow.{ItemRow}
use Rattle.pl_base.specs.Live.{slot_limit}
use Rattle.pl_base.specs.Rows.{Kept, live_with_item}
use Rattle.pl_base.specs.Tags.{tags_root}
use Rattle.pl_tree.specs.declared.place.Place.TheVariants.{End}
use Rattle.pl_tree.specs.Tagged.{new_entry, new_tag}
use Rattle.pl_tree.proofs.Allowed.{after_there}
use Rattle.pl_tree.proofs.TwoInserted.{both_inserted, folder_made, live_of_first, live_of_second, tags_root_there}
use Rattle.pl_tree.proofs.tags.add_folder.Goals as goal

pub insert_item-requires-clause-parent : goal.insert_item-requires-clause-parent
insert_item-requires-clause-parent g c =
    rw c.row_in-row.ensures (tags_root_there (g.R.Rows.kept c.args.rows.now) c.requires.good)

pub insert_item-requires-clause-after : goal.insert_item-requires-clause-after
insert_item-requires-clause-after g c =
    rw c.row_in-row.ensures
    (after_there (g.R.Rows.kept c.args.rows.now).items tags_root End c.args.after
    c.requires.good.tree c.requires.after)

pub insert_item-requires-clause-live : goal.insert_item-requires-clause-live
insert_item-requires-clause-live g c =
    live_of_first (g.R.Rows.kept c.args.rows.now) c.row_in-row.result c.args.title.now c.args.after
    c.requires.live

pub insert_item-requires-2-clause-parent : goal.insert_item-requires-2-clause-parent
insert_item-requires-2-clause-parent g c =
    rw c.row_in-entry.ensures
    (folder_made (g.R.Rows.kept c.args.rows.now) c.row_in-row.result c.args.title.now c.args.after
    (g.R.Rows.kept c.insert_item.new.self) c.in_ok-folder.folder c.in_ok-folder.ensures.kept
    (g.met.R.Rows.well_kept c.insert_item.new.self) c.in_ok-folder.ensures.item
    (ap (λ (row : ItemRow). row.kind) c.row_in-row.ensures))

pub insert_item-requires-2-clause-live : goal.insert_item-requires-2-clause-live
insert_item-requires-2-clause-live g c =
    let kept : Kept = g.R.Rows.kept c.args.rows.now in
    subst (λ (k : Kept). live_with_item c.row_in-entry.result [] None k ≤ slot_limit)
    (sym c.in_ok-folder.ensures.kept)
    (live_of_second kept c.row_in-row.result c.row_in-entry.result c.args.title.now c.args.after
    c.requires.live)

pub returns-clause-kept : goal.returns-clause-kept
returns-clause-kept g c =
    let kept : Kept = g.R.Rows.kept c.args.rows.now in
    both_inserted kept (g.R.Rows.kept c.insert_item.new.self) (g.R.Rows.kept c.insert_item-2.new.self)
    c.row_in-row.result c.row_in-entry.result c.args.title.now c.args.after c.in_ok-folder.folder
    (new_tag c.args.title.now c.args.date) (new_entry c.args.page c.args.date)
    (g.met.R.Rows.well_kept c.args.rows.now) c.requires.good.tree (g.met.R.Rows.well_kept c.insert_item.new.self)
    c.in_ok-folder.ensures.kept c.row_in-row.ensures refl c.requires.after
    c.in_ok-insert_item.ensures.kept c.row_in-entry.ensures refl c.in_ok-folder.ensures.item
