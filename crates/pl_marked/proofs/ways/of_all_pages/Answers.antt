use Rattle.std.specs.List.{flat_map}
use Rattle.pl_indexed.proofs.TakenViews.{known_view}
use Rattle.pl_base.specs.Rows.{Kept}
use Rattle.pl_marked.specs.Listed.{view_rows}
use Rattle.pl_marked.proofs.PageRows.{all_listed}
use Rattle.pl_marked.proofs.WaysGone.{AreSoFar, all_gone, none_yet, one_more}
use Rattle.pl_marked.proofs.ways.of_all_pages.Goals as goal

pub loop-view-init : goal.loop-view-init
loop-view-init g c =
    none_yet (g.R.Rows.kept c.args.rows.now) c.args.ready.now.timed.query.now c.new-found.result.items
    c.new-found.ensures.items

pub add_page-requires-clause-view : goal.add_page-requires-clause-view
add_page-requires-clause-view g c =
    known_view c.args.known.now.views.items c.deref-view-items.result.now c.loop-view.view-index c.view-item.result
    c.requires.knows.followed.order c.deref-view-items.ensures.value c.loop-view-test.true c.view-item.is

pub loop-view-preserved : goal.loop-view-preserved
loop-view-preserved g c =
    let kept : Kept = g.R.Rows.kept c.args.rows.now in
    let q = c.args.ready.now.timed.query.now in
    one_more kept q (view_rows kept q) c.args.known.now.views.items c.deref-view-items.result.now c.loop-view.view-index
    c.view-item.result c.view-item.result c.loop-view.found.items c.add_page.new.found.items c.deref-view-items.ensures.value
    c.loop-view-test.true c.view-item.is c.loop-view.invariant c.in_ok-add_page.ensures.added
    c.in_ok-add_page.ensures.views

pub returns : goal.returns
returns g c =
    let kept : Kept = g.R.Rows.kept c.args.rows.now in
    let q = c.args.ready.now.timed.query.now in
    let views = c.args.known.now.views.items in
    let all : AreSoFar kept q (flat_map (view_rows kept q) views) c.loop-view.found.items =
    all_gone kept q (view_rows kept q) views c.deref-view-items.result.now c.loop-view.view-index
    c.loop-view.found.items c.deref-view-items.ensures.value c.loop-view-test.false c.loop-view.invariant in
    all_listed kept q (g.met.R.Rows.well_kept c.args.rows.now) views c.requires.knows.views c.loop-view.found.items
    all.are all.views
