use Rattle.std.proofs.Common.{◌≡◌, take}
use Rattle.pl_sought.specs.Sought.{sketch_of_words}
use Rattle.pl_sought.proofs.words.sketch_of_words.Given as goal

abbrev pub invariant-loop-word : goal.invariant-loop-word
invariant-loop-word l = l.sketch ≡ sketch_of_words (take l.word-index l.words)
