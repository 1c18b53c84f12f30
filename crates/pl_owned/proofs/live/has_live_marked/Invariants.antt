use Rattle.std.proofs.Common.{◌≡◌, ◌≤◌, ◌<◌, ◌+◌, ◌-◌, ℕ, false, get_or, true}
use Rattle.pl_slot.specs.Arena.{is_live}
use Rattle.pl_owned.proofs.live.has_live_marked.Given as goal

abbrev pub invariant-loop-slot : goal.invariant-loop-slot
invariant-loop-slot g l =
    record {
      marked : (n : ℕ) → is_live n l.arena ≡ true → n < l.slot → get_or l.marks n false ≡ true;
      some : 1 ≤ l.slot;
      few : l.steps ≤ l.initial.steps + (l.slot - 1);
    }
