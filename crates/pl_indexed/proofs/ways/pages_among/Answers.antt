use Rattle.pl_indexed.proofs.TakenViews.{known_view}
use Rattle.pl_indexed.proofs.ways.pages_among.Goals as goal

pub add_possible-requires-clause-view : goal.add_possible-requires-clause-view
add_possible-requires-clause-view c =
    known_view c.args.known.now.views.items c.deref-view-items.result.now c.loop-view.view-index c.view-item.result
    c.requires.followed.order c.deref-view-items.ensures.value c.loop-view-test.true c.view-item.is
