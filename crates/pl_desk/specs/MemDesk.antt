-- What a desk in memory holds, and what a call makes of it.
use Rattle.std.specs.Prelude.{◌≡◌, ◌⊎◌, ℕ, ◌+◌, ◌≤◌, max, Contains, List, [], ◌∷◌, ◌++◌, length}
use Rattle.std.specs.Prelude.{take, map, slice_index_or, nat_lt, if◌then◌else◌}
use Rattle.pl_desk.specs.declared.mem_desk.TheConstants.{RECORD_ROOM}
use Rattle.pl_desk.specs.Counts.{next_count}
use Rattle.pl_desk.specs.Desk.{overwritten, Torn}

-- What a recorded call did to the file: nothing; a write of these bytes at this offset; a write of
-- this many bytes there that failed; a sync.
pub data Deed : Type 0 where
  nothing : Deed
  wrote : ℕ → List ℕ → Deed
  tore : ℕ → ℕ → Deed
  synced : Deed

-- a recorded call: how many bytes had been said when it began, and what it did to the file
pub record Recorded : Type 0 where
  pub said_before : ℕ
  pub deed : Deed

-- the bytes that the file held at first, the recorded calls, the bytes that were said, the numbers
-- of the calls that are to fail, and how many calls of the file and of `say` failed
pub record DeskState : Type 0 where
  pub first : List ℕ
  pub calls : List Recorded
  pub said : List ℕ
  pub fails : List ℕ
  pub device_faults : ℕ
  pub line_faults : ℕ

-- a desk before its first call
abbrev pub desk_holding : List ℕ → List ℕ → DeskState
desk_holding bytes fails =
    record {
      first = bytes;
      calls = [];
      said = [];
      fails = fails;
      device_faults = 0;
      line_faults =
          0;
    }

-- what a read gives after a call
abbrev pub after_deed : Deed → List ℕ → List ℕ
after_deed nothing file = file
after_deed (wrote at bytes) file = overwritten 0 at bytes file
after_deed (tore at n) file = file
after_deed synced file = file

-- what a call that fails does to the file
abbrev pub IsOfFailure : Deed → Type 0
IsOfFailure nothing = Unit {0}
IsOfFailure (wrote at bytes) = ⊥
IsOfFailure (tore at n) = Unit {0}
IsOfFailure synced = ⊥

-- what a read gives after these calls, the oldest first
abbrev pub file_after : List ℕ → List Recorded → List ℕ
file_after file [] = file
file_after file (call ∷ later) = file_after (after_deed call.deed file) later

-- how many bytes a call wrote
abbrev pub written_by : Deed → ℕ
written_by nothing = 0
written_by (wrote at bytes) = length bytes
written_by (tore at n) = 0
written_by synced = 0

-- how many bytes these calls wrote
abbrev pub written_in : List Recorded → ℕ
written_in [] = 0
written_in (call ∷ later) = written_by call.deed + written_in later

-- from what a read gives before a call, and a file that a stop might have left then, to one that a
-- stop may leave after the call
abbrev pub Takes : Deed → List ℕ → List ℕ → List ℕ → Type 0
Takes nothing held old new = new ≡ old
Takes (wrote at bytes) held old new = Torn at (length bytes) old new
Takes (tore at n) held old new = Torn at n old new
Takes synced held old new = new ≡ held

-- the same through these calls, the oldest first
abbrev pub Reaches : List ℕ → List ℕ → List Recorded → List ℕ → Type 0
Reaches held old [] new = new ≡ old
Reaches held old (call ∷ later) new =
    (mid : List ℕ) × Takes call.deed held old mid
    × Reaches (after_deed call.deed held) mid later new

-- what a stop may leave after these calls on a file that was all on the disk
abbrev pub LeftAfter : List ℕ → List Recorded → List ℕ → Type 0
LeftAfter first calls file = Reaches first first calls file

-- how many bytes had been said when each call began
abbrev pub begun_at : List Recorded → List ℕ
begun_at calls = map (λ call. call.said_before) calls

-- how many bytes had been said when a call began; all of them where there is no such call
abbrev pub said_len_at : List Recorded → List ℕ → ℕ → ℕ
said_len_at calls said call = slice_index_or (begun_at calls) call (length said)

-- what had been said when a call began
abbrev pub line_at : DeskState → ℕ → List ℕ
line_at desk call = take (said_len_at desk.calls desk.said call) desk.said

-- What a stop may show when k calls are done and the next has not touched the file: a file that it
-- may leave, and what was said with a front of what the next call says. No call begins with less
-- said than one before.
pub record IsShown (first : List ℕ) (calls : List Recorded) (said : List ℕ) (k : ℕ)
    (file line : List ℕ) : Type 0 where
  pub within : k ≤ length calls
  pub left : LeftAfter first (take k calls) file
  pub len : ℕ
  pub no_less : said_len_at calls said k ≤ len
  pub no_more : len ≤ max (said_len_at calls said k) (said_len_at calls said (k + 1))
  pub front : line ≡ take len said

-- what a stop might have shown since t calls were done
abbrev pub ShownSince : DeskState → ℕ → List ℕ → List ℕ → Type 0
ShownSince desk t file line =
    (k : ℕ) × (t ≤ k) × IsShown desk.first desk.calls desk.said k file line

-- what a read gives
abbrev pub held_by : DeskState → List ℕ
held_by desk = file_after desk.first desk.calls

-- what a stop may leave
abbrev pub MayLeave : DeskState → List ℕ → Type 0
MayLeave desk file = LeftAfter desk.first desk.calls file

-- the next call is to fail, or the record has no room for it
abbrev pub IsRefused : DeskState → Type 0
IsRefused desk = (RECORD_ROOM ≤ length desk.calls) ⊎ Contains desk.fails (length desk.calls)

-- the desk with one more call in its record, which begins now
abbrev pub with_call : DeskState → Deed → DeskState
with_call desk deed =
    record desk {
      calls =
          desk.calls ++ record { said_before = length desk.said; deed = deed } ∷ [];
    }

-- the same, if the record has room
abbrev pub with_call_if_room : DeskState → Deed → DeskState
with_call_if_room desk deed =
    if nat_lt (length desk.calls) RECORD_ROOM then with_call desk deed else desk

-- the desk after it said these bytes
abbrev pub after_say : DeskState → List ℕ → DeskState
after_say desk bytes = record (with_call desk nothing) { said = desk.said ++ bytes }

-- the desk after a call of the file that failed
abbrev pub after_failed_call : DeskState → Deed → DeskState
after_failed_call desk deed =
    record (with_call_if_room desk deed) { device_faults = next_count desk.device_faults }

-- the desk after a call of `say` that failed
abbrev pub after_failed_say : DeskState → DeskState
after_failed_say desk =
    record (with_call_if_room desk nothing) { line_faults = next_count desk.line_faults }
