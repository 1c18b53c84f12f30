use Rattle.std.proofs.Common.{◌≡◌, ◌++◌, ◌*◌, replicate}
use Rattle.std.specs.String.{string_bytes}
use Rattle.pl_nbwrite.proofs.lines.push_indent.Given as goal

abbrev pub invariant-loop-i : goal.invariant-loop-i
invariant-loop-i l = string_bytes l.file ≡ string_bytes l.fn.file ++ replicate (4 * l._i) 32
