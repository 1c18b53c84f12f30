use Rattle.std.proofs.Common.{subst, sym, take}
use Rattle.pl_follow.proofs.OneByOne.{next_suits, next_taken}
use Rattle.pl_known.proofs.told.told.Goals as goal

pub change-requires : goal.change-requires
change-requires g c =
    let views = c.args.views.now in
    record {
      change =
          record {
            views = take c.loop-view.view-index views;
            stood = c.loop-view.invariant;
            suits =
                next_suits views c.loop-view.view-index c.view-item.result c.requires.order c.loop-view-test.true
                (sym c.view-item.is) c.requires.fit;
          };
    }

pub loop-view-preserved : goal.loop-view-preserved
loop-view-preserved g c =
    let views = c.args.views.now in
    let i = c.loop-view.view-index in
    let view = c.view-item.result in
    subst (g.F.Follow.stands c.change.new.self)
    (next_taken views i view c.requires.order c.loop-view-test.true (sym c.view-item.is))
    (c.in_ok-change.ensures.follows (take i views) c.loop-view.invariant
    (next_suits views i view c.requires.order c.loop-view-test.true (sym c.view-item.is) c.requires.fit))
