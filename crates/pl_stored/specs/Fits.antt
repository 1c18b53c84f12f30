-- What the numbers and texts of rows may be.
use Rattle.std.specs.Prelude.{◌≡◌, ◌<◌, ◌^◌, ℕ, ℤ, List, length, Option, Some, IfSome}
use Rattle.std.specs.Int.{w64}
use Rattle.std.specs.Int.RustNames.{FitsSigned}
use Rattle.std.specs.List.{All}
use Rattle.std.specs.Str.{IsUtf8}
use Rattle.pl_base.specs.declared.id.PageId.{PageId}
use Rattle.pl_base.specs.declared.id.VisitId.{VisitId}
use Rattle.pl_base.specs.Address.{canon}

-- a number of 4 bytes
abbrev pub IsFour : ℕ → Type 0
IsFour n = n < 2 ^ 32

-- a number of 8 bytes
abbrev pub IsEight : ℕ → Type 0
IsEight n = n < 2 ^ 64

-- a number of 8 bytes with its sign
abbrev pub IsSignedEight : ℤ → Type 0
IsSignedEight z = FitsSigned w64 z

-- a URL of the store
abbrev pub IsUrl : List ℕ → Type 0
IsUrl url = IsUtf8 url × (canon url ≡ Some url)

-- no visit, or the id of one
abbrev pub IsSource : Option VisitId → Type 0
IsSource source = IfSome source (λ id. (0 < id.0) × IsFour id.0)

-- no page, or the id of one
abbrev pub IsItemPage : Option PageId → Type 0
IsItemPage page = IfSome page (λ id. (0 < id.0) × IsFour id.0)

-- so many that their number fits
abbrev pub AreListed : {A : Type 0} → (A → Type 0) → List A → Type 0
AreListed IsOne xs = All IsOne xs × (length xs < 2 ^ 32)
