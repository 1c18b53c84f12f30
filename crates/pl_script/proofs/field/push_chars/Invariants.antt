use Rattle.std.proofs.Common.{◌≡◌, ◌++◌}
use Rattle.std.specs.Prelude.{encode_utf8_all}
use Rattle.std.specs.String.{string_bytes}
use Rattle.pl_script.specs.Script.{escaped}
use Rattle.pl_script.proofs.field.push_chars.Given as goal

abbrev pub invariant-loop-c : goal.invariant-loop-c
invariant-loop-c l = string_bytes l.written ≡ string_bytes l.fn.written ++ escaped (encode_utf8_all l.yielded)
