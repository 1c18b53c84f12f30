use Rattle.trials_views.specs.Books.{IsBook}
use Rattle.trials_follow.proofs.follow.check.Given as goal

abbrev pub invariant-loop-part : goal.invariant-loop-part
invariant-loop-part g l = IsBook g.K.Follow.stands l.book
