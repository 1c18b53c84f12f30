-- What a stop leaves of the file of a desk in memory, with one byte in each place that may hold
-- anything.
use Rattle.std.specs.Prelude.{◌≡◌, ◌≢◌, ◌⊎◌, ℕ, zero, suc, ◌+◌, List, [], ◌∷◌, length, take}
use Rattle.std.specs.Prelude.{replicate}
use Rattle.pl_desk.specs.Desk.{overwritten}
use Rattle.pl_desk.specs.MemDesk.{Deed, nothing, wrote, tore, synced, Recorded, DeskState}
use Rattle.pl_desk.specs.MemDesk.{after_deed, LeftAfter, said_len_at}

-- what a stop within a call leaves: the filler where the call writes, and in a gap before
abbrev pub filled_by : ℕ → Deed → List ℕ → List ℕ
filled_by filler nothing image = image
filled_by filler (wrote at bytes) image =
    overwritten filler at (replicate (length bytes) filler) image
filled_by filler (tore at n) image = overwritten filler at (replicate n filler) image
filled_by filler synced image = image

-- what a stop after a call leaves: the same, and after a sync what a read gives
abbrev pub closed_by : ℕ → Deed → List ℕ → List ℕ → List ℕ
closed_by filler nothing held image = image
closed_by filler (wrote at bytes) held image = filled_by filler (wrote at bytes) image
closed_by filler (tore at n) held image = filled_by filler (tore at n) image
closed_by filler synced held image = held

-- the same after these calls, the oldest first
abbrev pub image_after : ℕ → List ℕ → List ℕ → List Recorded → List ℕ
image_after filler held image [] = image
image_after filler held image (call ∷ later) =
    image_after filler (after_deed call.deed held) (closed_by filler call.deed held image) later

-- what the call with this number did
abbrev pub deed_at : List Recorded → ℕ → Deed
deed_at [] call = nothing
deed_at (first ∷ later) zero = first.deed
deed_at (first ∷ later) (suc call) = deed_at later call

-- a call that does something to the file says nothing: as much had been said when the next one
-- began
abbrev pub IsQuiet : List Recorded → List ℕ → Type 0
IsQuiet calls said =
    (k : ℕ) → deed_at calls k ≢ nothing → said_len_at calls said (k + 1) ≡ said_len_at calls said k

-- what a stop within the call with this number leaves
abbrev pub stopped_in : DeskState → ℕ → ℕ → List ℕ
stopped_in desk call filler =
    filled_by filler (deed_at desk.calls call)
    (image_after filler desk.first desk.first (take call desk.calls))

-- what a stop within the call with this number may leave: a file that one may leave when it begins,
-- or when it ends
abbrev pub LeftIn : DeskState → ℕ → List ℕ → Type 0
LeftIn desk call file =
    LeftAfter desk.first (take call desk.calls) file
    ⊎ LeftAfter desk.first (take (call + 1) desk.calls) file
