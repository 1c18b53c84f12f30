use Rattle.std.proofs.Common.{◌≡◌, ◌+◌}
use Rattle.pl_sheets.specs.Sheets.{page_count}
use Rattle.pl_slot.specs.Arena.{IsArena, live_count}
use Rattle.pl_text.proofs.Freeing.{Frees}
use Rattle.pl_text.proofs.writing.free.Given as goal

abbrev pub invariant-loop-next : goal.invariant-loop-next
invariant-loop-next g l =
    record {
      arena : IsArena l.initial.arena → IsArena l.arena;
      frees : Frees l.fn.slot l.next l.initial.arena l.arena;
      as_many : page_count l.arena ≡ page_count l.initial.arena;
      counted : l.steps + live_count l.arena ≡ l.initial.steps + live_count l.initial.arena;
    }

abbrev pub decreases-loop-next : goal.decreases-loop-next
decreases-loop-next g l = live_count l.arena
