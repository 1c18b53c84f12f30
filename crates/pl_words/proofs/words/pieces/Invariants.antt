use Rattle.std.proofs.Common.{◌≡◌, ◌++◌}
use Rattle.std.specs.Str.{IsUtf8}
use Rattle.std.specs.Str.Iter.{split_whitespace_rest}
use Rattle.pl_words.specs.Pieces.{pieces}
use Rattle.pl_words.proofs.words.pieces.Given as goal

abbrev pub invariant-loop-word : goal.invariant-loop-word
invariant-loop-word l = record {
  utf8 : IsUtf8 (split_whitespace_rest l.word-iterator);
  pieces : pieces l.text ≡ l.words.items ++ pieces (split_whitespace_rest l.word-iterator);
}
