-- What an answer leaves of the counts and of the file.
use Rattle.std.proofs.Common.{◌≡◌, ◌≤◌, ℕ, arith, refl, subst}
use Rattle.pl_desk.specs.declared.desk.Desk.{Ghosts}
use Rattle.pl_desk.specs.Calls.{LeavesFile}
use Rattle.pl_desk.specs.Counts.{CountsAt, Rose}

-- a file that nothing was called of
pub leaves_self : {D : Type 0} (desk : Ghosts D) (d : D) → LeavesFile desk d d
leaves_self desk d =
    record {
      kept = record { held = refl; written = refl; left = λ file leaves. leaves };
      faults = refl;
    }

-- a count that stands, where the answer is no fault
pub stood : {F : Type 0} (before after : ℕ) → (F → ⊥) → after ≡ before → CountsAt F before after
stood before after other same =
    record {
      no_less = omega (arith, same);
      rose = λ fault. absurd (other fault);
      stands = λ _. same;
    }

-- a count that rose, where it is one
pub rose_at : {F : Type 0} (before after : ℕ) → F → before ≤ after → Rose before after → CountsAt F before after
rose_at before after fault less rose =
    record { no_less = less; rose = λ _. rose; stands = λ none. absurd (none fault) }

-- the same, where the count stood before it rose
pub rose_from : {F : Type 0} (before between after : ℕ) → F → between ≡ before → between ≤ after
    → Rose between after → CountsAt F before after
rose_from {F} before between after fault same less rose =
    subst (λ n. CountsAt F n after) same (rose_at between after fault less rose)
