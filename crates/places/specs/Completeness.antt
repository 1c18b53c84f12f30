-- What a task needs of the outside besides memory: then its run ends Done, or for want of memory.
use Rattle.std.specs.Prelude.{◌≡◌, ℕ, ◌<◌, List, [], Some, IsSome, length}
use Rattle.pl_base.specs.Store.{Store}
use Rattle.pl_desk.specs.Counts.{last_count}
use Rattle.pl_desk.specs.declared.desk.Desk as desks
use Rattle.pl_desk.specs.declared.source.Source as sources
use Rattle.pl_intake.specs.declared.intake.Intake.{Intake}
use Rattle.pl_intake.specs.declared.intake.Intake.TheVariants.{Import, Restore}
use Rattle.pl_task.specs.declared.task.Task.{Task}
use Rattle.pl_task.specs.declared.task.Task.TheVariants as tasks
use Rattle.pl_task.specs.Task.{script_limit}
use Rattle.places.specs.Ending.{IsHeld}
use Rattle.places.specs.TakingIn.{IsTaken}

-- no call failed: the count stands, and not at its last value, at which it would stand anyway
abbrev pub NoneFailed : ℕ → ℕ → Type 0
NoneFailed before after = (after ≡ before) × (after < last_count)

module _ {S D : Type 0} (source : sources.Ghosts S) (desk : desks.Ghosts D) where
  -- the input is told, and below the limit of a script
  abbrev pub GivesScript : S → Type 0
  GivesScript input =
      (bytes : List ℕ) × (source.left input ≡ Some bytes) × (length bytes < script_limit)

  -- the file stands for a store
  abbrev pub HoldsStore : D → Type 0
  HoldsStore now = (start : Store) × IsHeld (desk.held now) start

  -- the file stands for a store, and the input is a bookmark file, or a backup, that it takes
  abbrev pub GivesBookmarks : Intake → S → D → Type 0
  GivesBookmarks intake input now =
      (start : Store) × IsHeld (desk.held now) start
      × ((bytes : List ℕ) × (source.left input ≡ Some bytes) × IsTaken intake start bytes)

  -- the input and the file that a task needs
  abbrev pub HasNeeds : Task → S → D → Type 0
  HasNeeds tasks.Try input now = GivesScript input
  HasNeeds tasks.New input now = desk.held now ≡ Some []
  HasNeeds tasks.Run input now = GivesScript input × HoldsStore now
  HasNeeds tasks.Import input now = GivesBookmarks Import input now
  HasNeeds tasks.Export input now = HoldsStore now
  HasNeeds tasks.Backup input now = HoldsStore now
  HasNeeds tasks.Restore input now = GivesBookmarks Restore input now
  HasNeeds (tasks.Drill count seed) input now = HoldsStore now

  -- Nothing outside fails the task: it has what it needs, the desk tells what was said, and no
  -- read, no call of the file and no saying fails meanwhile.
  pub record NothingFails (task : Task) (input : S) (old : D) (input' : S) (new : D) : Type 0 where
    pub needs : HasNeeds task input old
    pub told : IsSome (desk.said old)
    pub reads : NoneFailed (source.faults input) (source.faults input')
    pub says : NoneFailed (desk.line_faults old) (desk.line_faults new)
    pub calls : NoneFailed (desk.device_faults old) (desk.device_faults new)
