use Rattle.std.proofs.Common.{take}
use Rattle.trials_views.proofs.book.Book.afresh.Given as goal

abbrev pub invariant-loop-view : goal.invariant-loop-view
invariant-loop-view g l = g.G.Follow.stands l.follower (take l.view-index l.view-items)
