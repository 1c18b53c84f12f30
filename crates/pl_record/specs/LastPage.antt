-- What an origin leaves from which a page went: it goes too where it has no page then.
use Rattle.std.specs.Prelude.{◌≡◌, ℕ, List, [], ◌∷◌}
use Rattle.pl_base.specs.declared.id.Slot.{Slot}
use Rattle.pl_record.specs.SlotChanges.{RemovesOrigin}
use Rattle.pl_sheets.specs.Sheets.{Pages}
use Rattle.pl_slot.specs.Arena.{IsArena}

-- an origin with these pages, and how many slots are free then
abbrev pub LeavesOrigin : Slot → List Slot → ℕ → Pages → Pages → Type 0
LeavesOrigin origin [] gone old new = (gone ≡ 1) × RemovesOrigin origin old new × IsArena new
LeavesOrigin origin (slot ∷ slots) gone old new = (gone ≡ 0) × (new ≡ old)
