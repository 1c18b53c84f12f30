use Rattle.std.proofs.Common.{◌∙◌, ap}
use Rattle.pl_base.specs.declared.item.ItemRow.{ItemRow}
use Rattle.pl_base.specs.Rows.{Kept, store_of}
use Rattle.pl_base.specs.Store.{Store}
use Rattle.pl_base.specs.Title.{cut_title}
use Rattle.pl_graft.specs.Import.{node_row}
use Rattle.pl_graft.proofs.GoingOn.{goes_then}
use Rattle.pl_graft.proofs.ItemsKept.{item_page, item_room, items_page_of, node_page, page_room, puts}
use Rattle.pl_graft.proofs.Ready.{ready}
use Rattle.pl_graft.proofs.grafting.Grafting.node.Goals as goal

pub page_of_node-requires-clause-room : goal.page_of_node-requires-clause-room
page_of_node-requires-clause-room g c =
    page_room (store_of (g.R.Rows.kept c.args.rows.now)) c.args.place.folder c.args.node.now c.requires.room

pub item_of_node-requires-clause-page : goal.item_of_node-requires-clause-page
item_of_node-requires-clause-page g c =
    node_page (g.R.Rows.kept c.page_of_node.new.rows) (store_of (g.R.Rows.kept c.args.rows.now))
    c.args.node.now.url c.in_ok-page.page c.in_ok-page.ensures.page c.in_ok-page.ensures.store

pub item_of_node-requires-clause-room : goal.item_of_node-requires-clause-room
item_of_node-requires-clause-room g c =
    item_room (store_of (g.R.Rows.kept c.args.rows.now)) (store_of (g.R.Rows.kept c.page_of_node.new.rows))
    c.args.place.folder c.in_ok-page.page c.args.node.now c.in_ok-page.ensures.page c.in_ok-page.ensures.store
    c.requires.room

pub tags_of_node-requires-clause-page : goal.tags_of_node-requires-clause-page
tags_of_node-requires-clause-page g c =
    item_page (g.R.Rows.kept c.page_of_node.new.rows) (g.R.Rows.kept c.item_of_node.new.rows) c.args.place.folder
    c.in_ok-page.page c.args.node.now c.in_ok-page.page c.in_ok-id.ensures.store
    (node_page (g.R.Rows.kept c.page_of_node.new.rows) (store_of (g.R.Rows.kept c.args.rows.now))
    c.args.node.now.url c.in_ok-page.page c.in_ok-page.ensures.page c.in_ok-page.ensures.store)

pub returns-clause-goes_on : goal.returns-clause-goes_on
returns-clause-goes_on g c =
    let old : Kept = g.R.Rows.kept c.args.rows.now in
    let page : Kept = g.R.Rows.kept c.page_of_node.new.rows in
    let item : Kept = g.R.Rows.kept c.item_of_node.new.rows in
    let new : Kept = g.R.Rows.kept c.tags_of_node.new.rows in
    goes_then old item new c.args.self.now c.item_of_node.new.self c.tags_of_node.new.self
    (goes_then old page item c.args.self.now c.page_of_node.new.self c.item_of_node.new.self
    c.in_ok-page.ensures.goes_on c.in_ok-id.ensures.goes_on)
    c.in_ok-tags_of_node.ensures.goes_on

pub returns-clause-folders : goal.returns-clause-folders
returns-clause-folders g c =
    let old : Store = store_of (g.R.Rows.kept c.args.rows.now) in
    let page : Kept = g.R.Rows.kept c.page_of_node.new.rows in
    let row : ItemRow = node_row c.args.place.folder c.in_ok-page.page c.args.node.now in
    puts old (store_of page) (store_of (g.R.Rows.kept c.item_of_node.new.rows))
    (store_of (g.R.Rows.kept c.tags_of_node.new.rows)) c.args.place.folder row (cut_title c.args.node.now.title)
    c.in_ok-id.id (ready page (g.met.R.Rows.well_kept c.page_of_node.new.rows) c.in_ok-page.ensures.standing.good)
    (ap (λ (s : Store). s.items) c.in_ok-page.ensures.store ∙ items_page_of old c.args.node.now.url)
    c.requires.takes c.in_ok-id.ensures.store c.in_ok-tags_of_node.ensures.folders c.in_ok-id.ensures.item
