use Rattle.std.proofs.Common.{◌∙◌, ◌+◌, Some, ap, subst, sym}
use Rattle.std.proofs.lemmas.Result.{on_ok_weaker}
use Rattle.pl_base.specs.declared.id.ItemId.{ItemId}
use Rattle.pl_base.specs.Rows.{Kept, store_of}
use Rattle.pl_graft.specs.declared.grafting.Open.{Open}
use Rattle.pl_graft.specs.Import.{with_node}
use Rattle.pl_graft.specs.OpenFolders.{AreOpen}
use Rattle.pl_graft.specs.Standing.{HasRoom}
use Rattle.pl_graft.proofs.OpenSteps.{first_open, folders_are, opens, pushed_are, taken, top_is}
use Rattle.pl_graft.proofs.Ready.{ready}
use Rattle.pl_graft.proofs.grafting.Grafting.next_node.Goals as goal

pub node-requires-clause-room : goal.node-requires-clause-room
node-requires-clause-room g c =
    subst (λ (f : ItemId). HasRoom (with_node f c.args.node.now (store_of (g.R.Rows.kept c.args.rows.now))))
    (top_is c.args.folders.now.items c.pop.new.self.items c.unwrap-top.result c.args.node.now c.requires.depth
    (taken c.args.folders.now.items c.truncate.new.self.items c.pop.new.self.items c.pop.result c.unwrap-top.result
    (c.args.node.now.depth + 1) c.truncate.ensures.items c.pop.ensures.items c.unwrap-top.ensures))
    c.requires.room

pub returns-clause-store : goal.returns-clause-store
returns-clause-store g c =
    on_ok_weaker c.open_folder.result (λ pushed.
    c.in_ok-id.ensures.store
    ∙ sym (ap (λ (f : ItemId). with_node f c.args.node.now (store_of (g.R.Rows.kept c.args.rows.now)))
    (top_is c.args.folders.now.items c.pop.new.self.items c.unwrap-top.result c.args.node.now c.requires.depth
    (taken c.args.folders.now.items c.truncate.new.self.items c.pop.new.self.items c.pop.result c.unwrap-top.result
    (c.args.node.now.depth + 1) c.truncate.ensures.items c.pop.ensures.items c.unwrap-top.ensures))))
    c.open_folder.ensures

pub returns-clause-places : goal.returns-clause-places
returns-clause-places g c =
    let old : Kept = g.R.Rows.kept c.args.rows.now in
    let new : Kept = g.R.Rows.kept c.node.new.rows in
    let first = first_open (store_of old) c.args.folders.now.items c.pop.new.self.items c.unwrap-top.result
    (c.args.node.now.depth + 1) c.requires.places
    (taken c.args.folders.now.items c.truncate.new.self.items c.pop.new.self.items c.pop.result
    c.unwrap-top.result (c.args.node.now.depth + 1) c.truncate.ensures.items c.pop.ensures.items
    c.unwrap-top.ensures) in
    let put : Open = record { folder = c.unwrap-top.result.folder; last = Some c.in_ok-id.id } in
    on_ok_weaker c.open_folder.result (λ pushed.
    subst (AreOpen (store_of new))
    (sym (pushed_are c.pop.new.self.items c.push.new.self.items c.open_folder.new.folders.items put
    c.args.node.now.kind c.in_ok-id.id c.in_ok-push.ensures.items pushed))
    (opens (store_of old) (store_of new) c.unwrap-top.result c.args.node.now.kind c.in_ok-id.id
    (ready old (g.met.R.Rows.well_kept c.args.rows.now) c.requires.standing.good) c.in_ok-id.ensures.item
    c.in_ok-id.ensures.folders c.pop.new.self.items first.0 first.1))
    c.open_folder.ensures

pub returns-clause-inner : goal.returns-clause-inner
returns-clause-inner g c =
    let put : Open = record { folder = c.unwrap-top.result.folder; last = Some c.in_ok-id.id } in
    on_ok_weaker c.open_folder.result (λ pushed.
    rw (← c.in_ok-id.ensures.item)
    (folders_are c.args.folders.now.items c.pop.new.self.items c.open_folder.new.folders.items c.unwrap-top.result
    c.args.node.now (Some c.in_ok-id.id) c.in_ok-id.id c.requires.depth
    (taken c.args.folders.now.items c.truncate.new.self.items c.pop.new.self.items c.pop.result c.unwrap-top.result
    (c.args.node.now.depth + 1) c.truncate.ensures.items c.pop.ensures.items c.unwrap-top.ensures)
    (pushed_are c.pop.new.self.items c.push.new.self.items c.open_folder.new.folders.items put
    c.args.node.now.kind c.in_ok-id.id c.in_ok-push.ensures.items pushed)))
    c.open_folder.ensures

pub returns-clause-base : goal.returns-clause-base
returns-clause-base g c =
    on_ok_weaker c.open_folder.result (λ pushed bytes was. c.in_ok-id.ensures.base bytes was) c.open_folder.ensures
