-- What a run of slots tells of ids, and when that is right.
use Rattle.std.specs.Prelude.{◌≡◌, ◌≢◌, ◌==◌, ◌-◌, ℕ, if◌then◌else◌, nat_lt}
use Rattle.std.specs.Prelude.{None, Option, Some, get_or}
use Rattle.std.specs.Option.{IfSome}
use Rattle.pl_base.specs.declared.id.Slot.{Slot}
use Rattle.pl_byid.specs.declared.run.Run.{Run}
use Rattle.pl_record.specs.LinkedRows.{Entries, slot_at}

-- a run has at most twice as many places as there are rows, and twice these
abbrev pub spare_places : ℕ
spare_places = 512

-- the slot that says nothing
abbrev pub unknown : Slot
unknown = record { 0 = 0 }

-- the slot at the place of an id
abbrev pub place_of : Run → ℕ → Slot
place_of run id =
    if nat_lt id run.first then unknown else get_or run.slots.items (id - run.first) unknown

-- the slot that a run tells of an id
abbrev pub told : Run → ℕ → Option Slot
told run id = if (place_of run id).0 == 0 then None else Some (place_of run id)

-- each slot that the run tells is that of the row with the id
abbrev pub IsRight : Entries → Run → Type 0
IsRight entries run = (id : ℕ) → IfSome (told run id) (λ slot. slot_at entries id ≡ Some slot)

-- what is told was told before
abbrev pub KnowsNoMore : Run → Run → Type 0
KnowsNoMore old new = (id : ℕ) → IfSome (told new id) (λ slot. told old id ≡ Some slot)

-- of this id no other slot is told, and of all others what was told before
pub record SetsOne (id : ℕ) (slot : Slot) (old new : Run) : Type 0 where
  pub here : IfSome (told new id) (λ other. other ≡ slot)
  pub others : (other : ℕ) → other ≢ id → told new other ≡ told old other
