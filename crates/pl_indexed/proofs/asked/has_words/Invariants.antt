use Rattle.std.proofs.Common.{◌≡◌, take, true}
use Rattle.std.specs.List.{list_all}
use Rattle.pl_query.specs.Decides.{has_word_in}
use Rattle.pl_indexed.proofs.asked.has_words.Given as goal

abbrev pub invariant-loop-word : goal.invariant-loop-word
invariant-loop-word l = list_all (has_word_in l.view) (take l.word-index l.words) ≡ true
