use Rattle.trials_views.specs.Books.{IsBook}
use Rattle.trials_follow.proofs.follow.changes.Given as goal

abbrev pub invariant-loop-turn : goal.invariant-loop-turn
invariant-loop-turn g l = IsBook g.F.Follow.stands l.book
