use Rattle.std.proofs.Common.{◌≡◌, ◌++◌, drop, false}
use Rattle.std.specs.Option.{option_map}
use Rattle.pl_script.specs.Script as spec
use Rattle.pl_script.proofs.field.unescaped.Given as goal

-- what was read so far, before what the rest stands for, is what the field stands for
abbrev pub invariant-loop-byte : goal.invariant-loop-byte
invariant-loop-byte l =
    option_map (λ more. l.bytes.items ++ more) (spec.unescaped l.after_backslash (drop l.byte-index l.field))
    ≡ spec.unescaped false l.field
