-- Rows in linked slots, seen as what is kept of a store.
use Rattle.std.specs.Prelude.{ℕ, List, Option, Some}
use Rattle.pl_base.specs.declared.id.VisitId.{VisitId}
use Rattle.pl_base.specs.Rows.{Kept}
use Rattle.pl_base.specs.Store.{Visit}
use Rattle.pl_record.specs.Form as form
use Rattle.pl_record.specs.LinkedRows.{IsBaseOf, changes}
use Rattle.pl_slotted.specs.declared.slotted.Slotted.{Slotted}

-- the rows, and the visits that came from each visit
abbrev pub kept_of : Slotted → Kept
kept_of slotted = slotted.rows.kept

abbrev pub targets_of : Slotted → VisitId → List Visit
targets_of slotted = slotted.rows.targets

-- the bytes that a file of the store holds from page 1 on
abbrev pub bytes_of : Slotted → List ℕ
bytes_of slotted = form.bytes_in slotted.arena

-- what the bytes may have been at the last `touched`
abbrev pub IsBase : Slotted → List ℕ → Type 0
IsBase slotted bytes = IsBaseOf slotted.arena bytes

-- how many pages the next `touched` lists
abbrev pub pending_of : Slotted → Option ℕ
pending_of slotted = Some (changes slotted.arena)
