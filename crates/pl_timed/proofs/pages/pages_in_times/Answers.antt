use Rattle.pl_base.specs.Rows.{store_of}
use Rattle.pl_dated.proofs.DatedPages.{of_pages}
use Rattle.pl_indexed.proofs.TakenViews.{known_view}
use Rattle.pl_timed.proofs.TimedRows.{latest_known}
use Rattle.pl_timed.proofs.pages.pages_in_times.Goals as goal

pub add-requires-clause-view : goal.add-requires-clause-view
add-requires-clause-view g c =
    known_view c.args.known.now.views.items c.deref-view-items.result.now c.loop-view.view-index c.view-item.result
    c.requires.followed.order c.deref-view-items.ensures.value c.loop-view-test.true c.view-item.is

pub add-requires-clause-last : goal.add-requires-clause-last
add-requires-clause-last g c =
    let store = store_of (g.R.Rows.kept c.args.rows.now) in
    latest_known store c.args.known.now.views.items c.deref-view-items.result.now c.loop-view.view-index
    c.view-item.result (of_pages store store.pages c.args.known.now.views.items c.requires.views)
    c.deref-view-items.ensures.value c.loop-view-test.true c.view-item.is
