-- Cases of files after writes and stops, and of counts, worked out by hand.
use Rattle.std.proofs.Common.{◌≡◌, ℕ, [], ◌∷◌, map, arith, refl}
use Rattle.std.specs.Prelude.{codes}
use Rattle.pl_desk.specs.Counts.{CallCounts, after_device_fault, after_line_fault, last_count, next_count}
use Rattle.pl_desk.specs.Desk.{Torn, last_offset, overwritten}
use Rattle.pl_desk.specs.MemDesk.{DeskState, Deed, Recorded, file_after, line_at, nothing, synced, tore, written_in}
use Rattle.pl_desk.specs.MemDesk.{wrote}
use Rattle.pl_desk.specs.MemSource.{SourceState, after_failed_read, after_read, source_over}
use Rattle.pl_desk.specs.Stopped.{stopped_in}

-- ---- a write

-- within the file, at its end, over its end, and behind it, where the gap reads as zeros
writes :
    overwritten 0 1 (codes "XY") (codes "abcd") ∷ overwritten 0 4 (codes "Z") (codes "abcd")
    ∷ overwritten 0 3 (codes "XY") (codes "abcd") ∷ overwritten 0 6 (codes "Z") (codes "abcd")
    ∷ overwritten 0 0 (codes "abcd") [] ∷ overwritten 0 2 [] (codes "abcd") ∷ []
    ≡ codes "aXYd" ∷ codes "abcdZ" ∷ codes "abcXY" ∷ codes "abcd\0\0Z" ∷ codes "abcd" ∷ codes "abcd" ∷ []
writes = refl

-- cut short, it left any bytes in its range
any_bytes : Torn 1 2 (codes "abcd") (codes "aQRd")
any_bytes = record { before = refl; after = refl; no_shorter = omega arith; no_longer = omega arith }

-- behind the end, any bytes past the old end and any length up to the new one
any_length : Torn 6 1 (codes "abcd") (codes "abcdQ")
any_length = record { before = refl; after = refl; no_shorter = omega arith; no_longer = omega arith }

full_length : Torn 6 1 (codes "abcd") (codes "abcdQRS")
full_length = record { before = refl; after = refl; no_shorter = omega arith; no_longer = omega arith }

-- ---- a stop

-- a write, two bytes said, a write behind the end, a sync, and a write that fails
abbrev recorded : ℕ → Deed → Recorded
recorded said deed = record { said_before = said; deed = deed }

abbrev desk : DeskState
desk =
    record {
      first = codes "abcd";
      calls =
          recorded 0 (wrote 1 (codes "XY")) ∷ recorded 0 nothing ∷ recorded 2 (wrote 6 (codes "Z"))
          ∷ recorded 2 synced ∷ recorded 2 (tore 3 2) ∷ [];
      said = codes "hi";
      fails = 4 ∷ [];
      device_faults = 1;
      line_faults = 0;
    }

-- the filler is in each place that may hold anything, the gap among them, until a sync has ended
stops : map (λ call. stopped_in desk call 63) (0 ∷ 1 ∷ 2 ∷ 3 ∷ 4 ∷ [])
    ≡ codes "a??d" ∷ codes "a??d" ∷ codes "a??d???" ∷ codes "a??d???" ∷ codes "aXY??\0Z" ∷ []
stops = refl

-- what was said when a call began, and behind the last one all of it
lines : map (line_at desk) (0 ∷ 1 ∷ 2 ∷ 4 ∷ 5 ∷ []) ≡ [] ∷ [] ∷ codes "hi" ∷ codes "hi" ∷ codes "hi" ∷ []
lines = refl

-- what failed changed nothing, and counts for nothing
held : file_after desk.first desk.calls ≡ codes "aXYd\0\0Z"
held = refl

written : written_in desk.calls ≡ 3
written = refl

-- ---- counts

last_values : last_count ∷ last_offset ∷ [] ≡ 18_446_744_073_709_551_615 ∷ 9_223_372_036_854_775_807 ∷ []
last_values = refl

-- a count stands still at its last value
counts : map next_count (0 ∷ 18_446_744_073_709_551_614 ∷ 18_446_744_073_709_551_615 ∷ [])
    ≡ 1 ∷ 18_446_744_073_709_551_615 ∷ 18_446_744_073_709_551_615 ∷ []
counts = refl

-- each kind has its own
abbrev counted : CallCounts
counted = record { written = 5; device_faults = 1; line_faults = 2 }

own_counts : after_device_fault counted ∷ after_line_fault counted ∷ []
    ≡ record { written = 5; device_faults = 2; line_faults = 2 }
    ∷ record { written = 5; device_faults = 1; line_faults = 3 } ∷ []
own_counts = refl

-- ---- a source

abbrev source : SourceState
source = source_over (codes "abc") 2 []

-- a read takes what it gives, and one that failed takes nothing
reads : (after_read source 2).left ∷ (after_failed_read source).left ∷ (after_read (after_read source 2) 1).left ∷ []
    ≡ codes "c" ∷ codes "abc" ∷ [] ∷ []
reads = refl

read_counts : (after_read source 2).faults ∷ (after_failed_read source).faults ∷ [] ≡ 0 ∷ 1 ∷ []
read_counts = refl
