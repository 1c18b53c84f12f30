-- Linked rows, seen as what is kept of a store.
use Rattle.std.specs.Prelude.{ℕ, List, Option}
use Rattle.pl_base.specs.declared.id.VisitId.{VisitId}
use Rattle.pl_base.specs.Rows.{Kept}
use Rattle.pl_base.specs.Store.{Visit}
use Rattle.pl_linked.specs.declared.linked.Linked.{Linked}
use Rattle.pl_sheets.specs.Sheets.{Pages}
use Rattle.pl_slotted.specs.Slotted as rows

-- the rows, and the visits that came from each visit
abbrev pub kept_of : Linked → Kept
kept_of linked = rows.kept_of linked.slots

abbrev pub targets_of : Linked → VisitId → List Visit
targets_of linked = rows.targets_of linked.slots

-- the pages of its file, and the bytes that they hold from page 1 on
abbrev pub sheets_of : Linked → Pages
sheets_of linked = linked.slots.arena

abbrev pub bytes_of : Linked → List ℕ
bytes_of linked = rows.bytes_of linked.slots

-- what the bytes may have been at the last `touched`
abbrev pub IsBase : Linked → List ℕ → Type 0
IsBase linked bytes = rows.IsBase linked.slots bytes

-- how many pages the next `touched` lists
abbrev pub pending_of : Linked → Option ℕ
pending_of linked = rows.pending_of linked.slots
