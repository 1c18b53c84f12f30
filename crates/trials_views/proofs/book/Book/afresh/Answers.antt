use Rattle.std.proofs.Common.{List, subst, sym, take}
use Rattle.pl_base.specs.declared.view.View.{View}
use Rattle.pl_follow.specs.Changes.{AreInOrder, FitStore}
use Rattle.pl_follow.proofs.OneByOne.{next_suits, next_taken}
use Rattle.trials_views.proofs.book.Book.afresh.Goals as goal

pub change-requires : goal.change-requires
change-requires g c =
    let views = c.deref-view-items.result.now in
    let same = sym c.deref-view-items.ensures.value in
    record {
      change =
          record {
            views = take c.loop-view.view-index views;
            stood = c.loop-view.invariant;
            suits =
                next_suits views c.loop-view.view-index c.view-item.result
                (subst AreInOrder same c.requires.book.known.order) c.loop-view-test.true (sym c.view-item.is)
                (subst FitStore same c.requires.book.fit);
          };
    }

pub loop-view-preserved : goal.loop-view-preserved
loop-view-preserved g c =
    let views = c.deref-view-items.result.now in
    let same = sym c.deref-view-items.ensures.value in
    let i = c.loop-view.view-index in
    let view = c.view-item.result in
    subst (λ (vs : List View). g.G.Follow.stands c.change.new.self vs)
    (next_taken views i view (subst AreInOrder same c.requires.book.known.order) c.loop-view-test.true
    (sym c.view-item.is))
    (c.in_ok-change.ensures.follows (take i views) c.loop-view.invariant
    (next_suits views i view (subst AreInOrder same c.requires.book.known.order) c.loop-view-test.true
    (sym c.view-item.is) (subst FitStore same c.requires.book.fit)))
