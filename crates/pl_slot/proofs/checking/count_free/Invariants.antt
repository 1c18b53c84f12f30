use Rattle.std.proofs.Common.{◌≡◌, ◌-◌, ◌<◌, ◌≤◌, IsSome, ℕ}
use Rattle.pl_slot.specs.Arena.{is_free, row_at}
use Rattle.pl_slot.proofs.CountLaws.{passed}
use Rattle.pl_slot.proofs.checking.count_free.Given as goal

abbrev pub invariant-loop-slot : goal.invariant-loop-slot
invariant-loop-slot l =
    record {
      from : 1 ≤ l.slot;
      rows : (n : ℕ) → 1 ≤ n → n < l.slot → IsSome (row_at n l.sheets);
      counted : l.free ≡ passed (λ n. is_free n l.sheets) 1 (l.slot - 1);
    }
