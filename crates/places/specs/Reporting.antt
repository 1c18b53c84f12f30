-- A report says one text of a store and leaves the store as it is: what it says, shows while it
-- runs, and leaves at each of its ends, where the desk tells its content.
use Rattle.std.specs.Prelude.{◌≡◌, ◌⊎◌, ℕ, ◌<◌, true, List, ◌++◌, length, take, Option, Some}
use Rattle.pl_backup.specs.BackupText.{backup_text}
use Rattle.pl_base.specs.Store.{Store}
use Rattle.pl_desk.specs.Calls.{LeavesNoMore}
use Rattle.pl_desk.specs.declared.desk.Desk as desks
use Rattle.pl_outline.specs.Outline.{whole}
use Rattle.pl_store.specs.Keeper.{Keeps}
use Rattle.pl_store.specs.Session.{Stands}
use Rattle.places.specs.declared.report.Report.{Report}
use Rattle.places.specs.declared.report.Report.TheVariants as reports
use Rattle.places.specs.declared.status.Status.{Status}
use Rattle.places.specs.declared.status.Status.TheVariants as status
use Rattle.pl_task.specs.declared.task.Task.{Task}
use Rattle.places.specs.Ending.{IsHeld}
use Rattle.places.specs.Exporting.{export_text}

-- the JSON backup of a store
abbrev pub stored_backup : Store → List ℕ
stored_backup start = backup_text (whole start)

-- what a report says
abbrev pub report_text : Report → Store → List ℕ
report_text reports.Export start = export_text start
report_text reports.Backup start = stored_backup start

-- ---- what a stop shows

-- the file stands for the store, and a front of the text was said
abbrev pub ShowsReport : Store → List ℕ → List ℕ → List ℕ → List ℕ → Type 0
ShowsReport start text before file line =
    Stands file start × ((n : ℕ) × (line ≡ before ++ take n text))

module _ {D : Type 0} (desk : desks.Ghosts D) where
  -- where the words ask for this task, P of the store that the file stands for at the start, and of
  -- what was said before
  abbrev pub OfReport : Task → Option Task → D → (Store → List ℕ → Type 0) → Type 0
  OfReport task asked now P =
      asked ≡ Some task → (start : Store) → IsHeld (desk.held now) start
      → (before : List ℕ) → desk.said now ≡ Some before → P start before

  -- ---- what is left

  -- a stop leaves a file that it might have left at first, or one that stands for the store
  abbrev pub LeavesStanding : D → Store → D → Type 0
  LeavesStanding first start now =
      LeavesNoMore desk first now
      ⊎ ((file : List ℕ) → desk.may_leave now file → Stands file start)

  -- What a report of this text leaves at each status. At Done the text was said, and a proper front
  -- of it where the line fails; at each other status nothing was said. The file holds the same
  -- store; one that fails was not settled yet, or was.
  abbrev pub EndsReport : Status → List ℕ → D → Store → List ℕ → D → Type 0
  EndsReport status.Done text first start before now =
      (desk.said now ≡ Some (before ++ text)) × Keeps desk true first start now
  EndsReport status.SayFault text first start before now =
      ((n : ℕ) × (n < length text) × (desk.said now ≡ Some (before ++ take n text)))
      × Keeps desk true first start now
  EndsReport status.DeviceFault text first start before now =
      (desk.said now ≡ Some before) × LeavesStanding first start now
  EndsReport status.NoMemory text first start before now =
      (desk.said now ≡ Some before) × Keeps desk true first start now
  EndsReport status.Usage text first start before now = ⊥
  EndsReport status.ReadFault text first start before now = ⊥
  EndsReport status.NotAStore text first start before now = ⊥
  EndsReport (status.NotEmpty len) text first start before now = ⊥
  EndsReport (status.NotBookmarks at) text first start before now = ⊥
  EndsReport (status.TooLong limit) text first start before now = ⊥
  EndsReport (status.ImportRefused refusal) text first start before now = ⊥
  EndsReport (status.NotBackup fault) text first start before now = ⊥
