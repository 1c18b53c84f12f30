use Rattle.std.proofs.Common.{◌≡◌}
use Rattle.pl_words.specs.Pieces.{standing}
use Rattle.pl_words.proofs.StandingSteps.{best_from}
use Rattle.pl_words.proofs.words.standing.Given as goal

abbrev pub invariant-loop-place : goal.invariant-loop-place
invariant-loop-place l = standing l.fn.word l.fn.text ≡ best_from l.seen l.fn.word l.text l.place
