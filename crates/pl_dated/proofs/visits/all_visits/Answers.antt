use Rattle.pl_indexed.proofs.TakenViews.{known_view}
use Rattle.pl_dated.proofs.PagesWalk.{one_more}
use Rattle.pl_dated.proofs.visits.all_visits.Goals as goal

pub add_page-requires-clause-view : goal.add_page-requires-clause-view
add_page-requires-clause-view g c =
    known_view c.args.known.now.views.items c.deref-view-items.result.now c.loop-view.view-index c.view-item.result
    c.requires.followed.order c.deref-view-items.ensures.value c.loop-view-test.true c.view-item.is

pub loop-view-preserved : goal.loop-view-preserved
loop-view-preserved g c =
    one_more (g.R.Rows.kept c.args.rows.now) c.args.timed.now.query.now (g.met.R.Rows.well_kept c.args.rows.now)
    c.args.known.now.views.items c.loop-view.first c.add_page.new.first c.deref-view-items.result.now
    c.loop-view.view-index c.view-item.result c.deref-view-items.ensures.value c.loop-view-test.true c.view-item.is
    c.loop-view.invariant c.in_ok-add_page.ensures
