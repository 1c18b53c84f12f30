use Rattle.std.proofs.Common.{◌≡◌, ◌++◌}
use Rattle.std.specs.Prelude.{encode_utf8_all}
use Rattle.std.specs.String.{string_bytes}
use Rattle.pl_nbwrite.specs.BookmarkText.{escaped}
use Rattle.pl_nbwrite.proofs.escape.push_escaped.Given as goal

abbrev pub invariant-loop-c : goal.invariant-loop-c
invariant-loop-c l = string_bytes l.file ≡ string_bytes l.fn.file ++ escaped (encode_utf8_all l.yielded)
