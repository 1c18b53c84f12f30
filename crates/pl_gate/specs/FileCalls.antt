-- What calls of the file leave, from a write of the gate to the commit of a command.
use Rattle.std.specs.Prelude.{ℕ, List}
use Rattle.pl_desk.specs.Calls.{KeepsLine}
use Rattle.pl_desk.specs.Desk.{Follows}
use Rattle.pl_desk.specs.Shown.{ShowsStep}
use Rattle.pl_desk.specs.declared.desk.Desk.{Ghosts}

-- Only the file was called. Counted says what its count of failed calls has come to.
pub record CallsFile {D : Type 0} (desk : Ghosts D) (Counted : ℕ → ℕ → Type 0) (old new : D)
    : Type 0 where
  -- what was said, and how many calls of the line have failed
  pub line : KeepsLine desk old new
  -- each call of the file that failed
  pub counted : Counted (desk.device_faults old) (desk.device_faults new)

-- What a stop may leave and show of writes that it may cut short: files that are left by the step
-- from those that it might have left before.
pub record MayTear {D : Type 0} (desk : Ghosts D) (step : List ℕ → List ℕ → Type 0) (old new : D)
    : Type 0 where
  -- what it leaves after them
  pub leaves : Follows step (desk.may_leave old) (desk.may_leave new)
  -- what it shows within them
  pub moments : ShowsStep desk old new step
