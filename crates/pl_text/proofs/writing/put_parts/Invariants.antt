use Rattle.std.proofs.Common.{◌*◌, ◌≤◌, drop}
use Rattle.pl_sheets.specs.Sheets.{page_count}
use Rattle.pl_slot.specs.Arena.{IsArena, KeepsFields}
use Rattle.pl_slot.specs.Slot.{payload_size}
use Rattle.pl_text.specs.Chunks.{StoresText}
use Rattle.pl_text.proofs.writing.put_parts.Given as goal

abbrev pub invariant-loop-place : goal.invariant-loop-place
invariant-loop-place l =
    record {
      arena : IsArena l.initial.arena → IsArena l.arena;
      stored : StoresText l.next (drop (payload_size * l.place) l.text) l.initial.arena l.arena;
      fields : KeepsFields l.initial.arena l.arena;
      longer : page_count l.initial.arena ≤ page_count l.arena;
    }
