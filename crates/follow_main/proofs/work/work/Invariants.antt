use Rattle.trials_views.specs.Books.{IsBook}
use Rattle.follow_main.proofs.work.work.Given as goal

abbrev pub invariant-loop-number : goal.invariant-loop-number
invariant-loop-number g l = IsBook g.F.Follow.stands l.book

abbrev pub invariant-loop-turn : goal.invariant-loop-turn
invariant-loop-turn g l = IsBook g.F.Follow.stands l.book
