use Rattle.std.proofs.Common.{arith}
use Rattle.pl_slot.proofs.TakenLaws.{keeps_both}
use Rattle.pl_text.specs.Chunks.{FreesSlots, StoresText}
use Rattle.pl_text.proofs.Storing.{fields_freed, given_up, given_up_count, stored_count}
use Rattle.pl_text.proofs.writing.store.Given.{Over}
use Rattle.pl_text.proofs.writing.store.Goals as goal
use Rattle.pl_text.proofs.writing.store.Goals.{After-free}

stored_part : (g : Over) (c : After-free g)
    → StoresText c.in-Err.slot c.in-Err.ensures.err.0 c.args.arena.now c.put_parts.new.arena
stored_part g c = c.in-Err.ensures.err.1

freed : (g : Over) (c : After-free g) → FreesSlots (stored_part g c).slots c.put_parts.new.arena c.free.new.arena
freed g c =
    c.free.ensures.freed (stored_part g c).slots c.in-Err.ensures.err.0 (stored_part g c).first (stored_part g c).held

pub returns-in-Err-clause-refused : goal.returns-in-Err-clause-refused
returns-in-Err-clause-refused g c =
    given_up c.in-Err.slot c.in-Err.ensures.err.0 c.args.arena.now c.put_parts.new.arena c.free.new.arena
    (stored_part g c) (freed g c)

pub returns-in-Err-clause-count : goal.returns-in-Err-clause-count
returns-in-Err-clause-count g c =
    given_up_count c.in-Err.slot c.in-Err.ensures.err.0 c.args.arena.now c.put_parts.new.arena c.free.new.arena
    (stored_part g c) (freed g c)

pub returns-in-Err-clause-header : goal.returns-in-Err-clause-header
returns-in-Err-clause-header g c =
    keeps_both c.args.arena.now c.put_parts.new.arena c.free.new.arena c.in-Err.ensures.header
    (fields_freed (stored_part g c).slots c.put_parts.new.arena c.free.new.arena (freed g c))

pub returns-in-Err-clause-few_read : goal.returns-in-Err-clause-few_read
returns-in-Err-clause-few_read g c =
    omega (
      arith,
      given_up_count c.in-Err.slot c.in-Err.ensures.err.0 c.args.arena.now c.put_parts.new.arena c.free.new.arena
          (stored_part g c) (freed g c),
      stored_count c.in-Err.slot c.in-Err.ensures.err.0 c.args.arena.now c.put_parts.new.arena (stored_part g c),
      c.free.ensures.counted,
      c.in-Err.ensures.err.2,
    )
