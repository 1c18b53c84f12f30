-- A run behind one whose file failed.
use Rattle.std.specs.Prelude.{◌≡◌, ◌≤◌, ℕ, List, ◌++◌, length, Some}
use Rattle.pl_base.specs.Store.{Store}
use Rattle.pl_base.specs.Live.{slot_limit}
use Rattle.pl_desk.specs.Shown.{Rests}
use Rattle.pl_desk.specs.declared.desk.Desk.{Ghosts}
use Rattle.pl_step.specs.declared.command.Command.{Command}
use Rattle.pl_step.specs.Parsed.{Parsed}
use Rattle.pl_step.specs.Run.{replies, after}
use Rattle.pl_store.specs.Session.{Stands}
use Rattle.pl_script.specs.Script.{script}
use Rattle.places.specs.Said.{texts}

-- the store has these entries behind it: those that were answered, or one more
abbrev pub AreDone : List (Parsed Command) → List (Parsed Command) → Type 0
AreDone answered done =
    (next : List (Parsed Command)) × (length next ≤ 1) × (done ≡ answered ++ next)

-- the second run goes on from the store after the entries that the file holds, and leaves the store
-- after its script
pub record GoesOn {D : Type 0} (desk : Ghosts D) (start : Store) (two before : List ℕ)
    (now : D) : Type 0 where
  pub answered : List (Parsed Command)
  pub done : List (Parsed Command)
  pub are_done : AreDone answered done
  pub text : desk.said now ≡ Some ((before ++ texts (replies slot_limit start answered))
      ++ texts (replies slot_limit (after slot_limit start done) (script two)))
  pub rests : Rests desk now
      (λ file. Stands file (after slot_limit (after slot_limit start done) (script two)))
