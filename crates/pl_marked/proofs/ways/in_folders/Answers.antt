use Rattle.std.proofs.Common.{get_or, refl}
use Rattle.std.specs.List.{flat_map}
use Rattle.pl_base.specs.declared.id.ItemId.{ItemId}
use Rattle.pl_base.specs.Rows.{Kept}
use Rattle.pl_marked.specs.Listed.{folder_rows}
use Rattle.pl_marked.proofs.FolderRows.{folders_listed}
use Rattle.pl_marked.proofs.WaysGone.{AreSoFar, all_gone, none_yet, one_more}
use Rattle.pl_marked.proofs.ways.in_folders.Goals as goal

pub loop-folder-init : goal.loop-folder-init
loop-folder-init g c =
    none_yet (g.R.Rows.kept c.args.rows.now) c.args.ready.now.timed.query.now c.new-found.result.items
    c.new-found.ensures.items

pub loop-folder-preserved : goal.loop-folder-preserved
loop-folder-preserved g c =
    let kept : Kept = g.R.Rows.kept c.args.rows.now in
    let q = c.args.ready.now.timed.query.now in
    let folder : ItemId = get_or c.as_slice-folder-items.result.now c.loop-folder.folder-index (record { 0 = 0 }) in
    one_more kept q (folder_rows kept q) q.parents c.as_slice-folder-items.result.now c.loop-folder.folder-index
    folder (record { 0 = 0 }) c.loop-folder.found.items c.add_folder.new.found.items c.as_slice-folder-items.ensures
    c.loop-folder-test.true refl c.loop-folder.invariant c.in_ok-add_folder.ensures.added
    c.in_ok-add_folder.ensures.views

pub returns : goal.returns
returns g c =
    let kept : Kept = g.R.Rows.kept c.args.rows.now in
    let q = c.args.ready.now.timed.query.now in
    let all : AreSoFar kept q (flat_map (folder_rows kept q) q.parents) c.loop-folder.found.items =
    all_gone kept q (folder_rows kept q) q.parents c.as_slice-folder-items.result.now c.loop-folder.folder-index
    c.loop-folder.found.items c.as_slice-folder-items.ensures c.loop-folder-test.false c.loop-folder.invariant in
    folders_listed kept q (g.met.R.Rows.well_kept c.args.rows.now) c.requires.good.tree c.requires.some
    c.loop-folder.found.items all.are all.views
