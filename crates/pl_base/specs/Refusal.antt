-- The numbers by which replies name refusals.
use Rattle.std.specs.Prelude.{ℕ, List, [], ◌∷◌}
use Rattle.pl_base.specs.declared.id.IdKind.{IdKind}
use Rattle.pl_base.specs.declared.id.IdKind.TheVariants.{Page, Visit, Item}
use Rattle.pl_base.specs.declared.refusal.Refusal.{Refusal}
use Rattle.pl_base.specs.declared.refusal.Refusal.TheVariants.{BadUrl, NotRecorded, NoVisit, NoPage}
use Rattle.pl_base.specs.declared.refusal.Refusal.TheVariants.{NoItem, NotAFolder, Fixed}
use Rattle.pl_base.specs.declared.refusal.Refusal.TheVariants.{BadPlace, Inside, DayBack}
use Rattle.pl_base.specs.declared.refusal.Refusal.TheVariants.{Full, NoIds, BadLine, BadDate}
use Rattle.pl_base.specs.declared.refusal.Refusal.TheVariants.{BadQuery, DupTag, BadTag, NoTag}
use Rattle.pl_base.specs.declared.refusal.Refusal.TheVariants.{TooMany}

-- the number of a refusal
abbrev pub refusal_number : Refusal → ℕ
refusal_number BadUrl = 1
refusal_number NotRecorded = 2
refusal_number (NoVisit id) = 3
refusal_number NoPage = 4
refusal_number (NoItem id) = 5
refusal_number (NotAFolder id) = 6
refusal_number (Fixed id) = 7
refusal_number (BadPlace position length) = 8
refusal_number (Inside id) = 9
refusal_number (DayBack kept) = 10
refusal_number (BadQuery piece) = 11
refusal_number (Full slots) = 12
refusal_number (NoIds kind) = 13
refusal_number (BadLine column) = 14
refusal_number DupTag = 15
refusal_number BadDate = 16
refusal_number BadTag = 17
refusal_number NoTag = 18
refusal_number (TooMany rows) = 19

-- the number of what an id names
abbrev pub id_kind_number : IdKind → ℕ
id_kind_number Page = 1
id_kind_number Visit = 2
id_kind_number Item = 3

-- the values that a refusal tells besides
abbrev pub refusal_values : Refusal → List ℕ
refusal_values BadUrl = []
refusal_values NotRecorded = []
refusal_values (NoVisit id) = id.0 ∷ []
refusal_values NoPage = []
refusal_values (NoItem id) = id.0 ∷ []
refusal_values (NotAFolder id) = id.0 ∷ []
refusal_values (Fixed id) = id.0 ∷ []
refusal_values (BadPlace position length) = position ∷ length ∷ []
refusal_values (Inside id) = id.0 ∷ []
refusal_values (DayBack kept) = kept.0 ∷ []
refusal_values (BadQuery piece) = piece ∷ []
refusal_values (Full slots) = slots ∷ []
refusal_values (NoIds kind) = id_kind_number kind ∷ []
refusal_values (BadLine column) = column ∷ []
refusal_values DupTag = []
refusal_values BadDate = []
refusal_values BadTag = []
refusal_values NoTag = []
refusal_values (TooMany rows) = rows ∷ []
