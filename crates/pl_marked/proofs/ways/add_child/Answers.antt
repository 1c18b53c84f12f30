use Rattle.std.proofs.lemmas.Result.{on_ok_weaker}
use Rattle.pl_marked.proofs.ChildFound.{added, known_view, no_view, not_held}
use Rattle.pl_marked.proofs.ways.add_child.Goals as goal

pub returns-in_default-view-clause-added : goal.returns-in_default-view-clause-added
returns-in_default-view-clause-added g c =
    no_view (g.R.Rows.kept c.args.rows.now) c.args.ready.now.timed.query.now c.args.item c.requires.item
    c.item_row.result c.item_row.ensures c.args.found.now.items c.in-Some.page c.in-Some.is
    c.args.known.now.views.items c.requires.knows.views c.view.result c.view.ensures c.in_default-view.not-Some

pub holds-requires-clause-view : goal.holds-requires-clause-view
holds-requires-clause-view g c =
    known_view (g.R.Rows.kept c.args.rows.now) c.args.ready.now.timed.query.now c.args.item c.requires.item
    c.item_row.result c.item_row.ensures c.args.found.now.items c.in-Some.page c.in-Some.is
    c.args.known.now.views.items c.requires.knows.views c.view.result c.view.ensures c.in-Some-view.view
    c.in-Some-view.is

pub returns-then-not-branch-clause-added : goal.returns-then-not-branch-clause-added
returns-then-not-branch-clause-added g c =
    not_held (g.R.Rows.kept c.args.rows.now) c.args.ready.now.timed.query.now c.args.item c.requires.item
    c.item_row.result c.item_row.ensures c.args.found.now.items c.in-Some.page c.in-Some.is
    c.args.known.now.views.items c.requires.knows.views c.view.result c.view.ensures c.in-Some-view.view
    c.in-Some-view.is c.in_ok-holds.field-0 c.in_ok-holds.ensures c.if-not-branch.true

pub add_item-requires-clause-view : goal.add_item-requires-clause-view
add_item-requires-clause-view g c =
    known_view (g.R.Rows.kept c.args.rows.now) c.args.ready.now.timed.query.now c.args.item c.requires.item
    c.item_row.result c.item_row.ensures c.args.found.now.items c.in-Some.page c.in-Some.is
    c.args.known.now.views.items c.requires.knows.views c.view.result c.view.ensures c.in-Some-view.view
    c.in-Some-view.is

pub returns-clause-added : goal.returns-clause-added
returns-clause-added g c =
    on_ok_weaker c.add_item.result
    (λ adds.
    added (g.R.Rows.kept c.args.rows.now) c.args.ready.now.timed.query.now c.args.item c.requires.item
    c.item_row.result c.item_row.ensures c.args.found.now.items c.in-Some.page c.in-Some.is
    c.args.known.now.views.items c.requires.knows.views c.view.result c.view.ensures c.in-Some-view.view
    c.in-Some-view.is c.in_ok-holds.field-0 c.in_ok-holds.ensures c.if-not-branch.false c.add_item.new.found.items adds)
    c.add_item.ensures.added
