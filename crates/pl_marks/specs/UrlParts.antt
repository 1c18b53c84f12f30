-- The parts of a URL.
use Rattle.std.specs.Prelude.{ℕ, List}
use Rattle.std.specs.Result.{IsOkAnd}
use Rattle.pl_base.specs.Address.{record_of}
use Rattle.pl_link.specs.declared.parts.Parts.{Parts}
use Rattle.pl_link.specs.Parts.{ArePartsOf}

-- the parts are those of the URL
abbrev pub HasParts : List ℕ → Parts → Type 0
HasParts url parts = IsOkAnd (record_of url) (λ found. ArePartsOf found parts)
