-- What a reader gives.
use Rattle.std.specs.Prelude.{Result}
use Rattle.pl_base.specs.declared.refusal.Refusal.{Refusal}

-- a value, or the refusal of the line that it should stand in
abbrev pub Parsed : Type 0 → Type 0
Parsed A = Result A Refusal
