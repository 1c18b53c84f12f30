-- What a recovery reads, and what it leaves.
use Rattle.std.specs.Prelude.{◌≡◌, ◌≤◌, ℕ, ◌+◌, ◌*◌, false, true, List, Result, Err}
use Rattle.std.specs.Prelude.{Some, IfSome, OnOk}
use Rattle.std.specs.Prelude.{if◌then◌else◌}
use Rattle.pl_base.specs.Touched.{page_size}
use Rattle.pl_desk.specs.Shown.{Rests}
use Rattle.pl_desk.specs.declared.desk.Desk.{Ghosts}
use Rattle.pl_gate.specs.declared.error.GateError.{GateError}
use Rattle.pl_gate.specs.declared.error.GateError.TheVariants.{BadGate}
use Rattle.pl_gate.specs.declared.read.GatePage.{GatePage}
use Rattle.pl_gate.specs.Gate.{has_gate, is_set, journal_len, journal_start, laid, pages_after}

-- what the gate's page tells
pub record IsGatePageOf (told : GatePage) (file : List ℕ) : Type 0 where
  pub is_set : told.is_set ≡ is_set file
  pub start : told.start ≡ journal_start file
  pub count : told.count ≡ journal_len file
  pub after : told.after ≡ pages_after file

-- the later file stands for what this one stands for
pub record StandsAs (file later : List ℕ) : Type 0 where
  pub gate : has_gate later ≡ has_gate file
  pub laid : laid later ≡ laid file

-- the same, with its gate not set
pub record IsSettledAs (file later : List ℕ) : Type 0 where
  pub closed : is_set later ≡ false
  pub stands : StandsAs file later

-- how many bytes its recovery writes
abbrev pub recovery_bytes : List ℕ → ℕ
recovery_bytes file = if is_set file then page_size * journal_len file + 1 else 0

-- What a recovery makes of a file, where the desk tells its content.
pub record SettlesGate {D T : Type 0} (desk : Ghosts D) (result : Result T GateError) (old new : D)
    : Type 0 where
  -- at Ok the file had a gate; it is at rest then, and stands for what it stood for
  pub good : OnOk result (IfSome (desk.held old) (λ file. has_gate file ≡ true))
  pub settled : OnOk result
      ((file : List ℕ) → desk.held old ≡ Some file → Rests desk new (IsSettledAs file))
  -- BadGate comes of a file without a gate, and leaves it
  pub bad : result ≡ Err BadGate → IfSome (desk.held old) (λ file. has_gate file ≡ false)
  pub untouched : result ≡ Err BadGate → desk.held new ≡ desk.held old
  -- a file whose gate is not set is left as it was
  pub unset : (file : List ℕ) → desk.held old ≡ Some file → is_set file ≡ false
      → desk.held new ≡ desk.held old
  -- the journal's images and the gate are the most that is written
  pub no_less : desk.written old ≤ desk.written new
  pub no_more : (file : List ℕ) → desk.held old ≡ Some file
      → desk.written new ≤ desk.written old + recovery_bytes file
