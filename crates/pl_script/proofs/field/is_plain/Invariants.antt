use Rattle.std.proofs.Common.{◌≡◌, take, true}
use Rattle.pl_script.specs.Script.{escaped}
use Rattle.pl_script.proofs.field.is_plain.Given as goal

-- where each byte so far stays, they are written as they are
abbrev pub invariant-loop-byte : goal.invariant-loop-byte
invariant-loop-byte l = l.plain ≡ true → escaped (take l.byte-index l.text) ≡ take l.byte-index l.text
