-- What `import` and `restore` show while they run, and leave at each of their ends, where the source
-- and the desk tell their content.
use Rattle.std.specs.Prelude.{◌≡◌, ◌⊎◌, ℕ, ◌<◌, true, false, List, [], ◌++◌, length, take}
use Rattle.std.specs.Prelude.{Option, Some, None, Err}
use Rattle.pl_backup.specs.BackupTree.{backup_tree}
use Rattle.pl_base.specs.Live.{slot_limit}
use Rattle.pl_base.specs.Store.{Store}
use Rattle.pl_base.specs.declared.refusal.Refusal.{Refusal}
use Rattle.pl_desk.specs.declared.desk.Desk as desks
use Rattle.pl_desk.specs.declared.source.Source as sources
use Rattle.pl_intake.specs.Intake.{HoldsNone, HoldsTree, intake_of, tree_command}
use Rattle.pl_intake.specs.declared.error.IntakeError.{IntakeError}
use Rattle.pl_intake.specs.declared.intake.Intake.{Intake}
use Rattle.pl_intake.specs.declared.intake.Intake.TheVariants.{Import, Restore}
use Rattle.pl_nbread.specs.BookmarkFile.{file_limit, offset}
use Rattle.pl_nbread.specs.declared.tree.Tree.{Tree}
use Rattle.pl_script.specs.Reply.{reply_text}
use Rattle.pl_step.specs.declared.command.Command.{Command}
use Rattle.pl_step.specs.declared.reply.Reply.TheVariants.{Refused}
use Rattle.pl_step.specs.Refused.{is_refused}
use Rattle.pl_step.specs.Step.{perform}
use Rattle.pl_store.specs.Keeper.{Keeps, LeavesEither}
use Rattle.pl_store.specs.Session.{Stands}
use Rattle.places.specs.declared.status.Status.{Status}
use Rattle.places.specs.declared.status.Status.TheVariants as status
use Rattle.pl_task.specs.declared.task.Task.{Task}
use Rattle.pl_task.specs.declared.task.Task.TheVariants as tasks
use Rattle.places.specs.Ending.{IfTold, IsHeld, LeavesUnopened, RefusesIntake}
use Rattle.places.specs.Status.{intake_status}

-- ---- what is asked for

-- the task that brings it in
abbrev pub intake_task : Intake → Task
intake_task Import = tasks.Import
intake_task Restore = tasks.Restore

-- the command brings in some tree
abbrev pub IsIntake : Command → Type 0
IsIntake command = (intake : Intake) × (tree : Tree) × (command ≡ tree_command intake tree)

-- the command brings in what these bytes hold, which are within the limit
pub record BringsIn (intake : Intake) (command : Command) (bytes : List ℕ) : Type 0 where
  pub is : command ≡ intake_of intake bytes
  pub short : length bytes < file_limit
  pub holds : HoldsTree intake bytes

-- the bytes hold a tree, within the limit, and it is not refused
pub record IsTaken (intake : Intake) (start : Store) (bytes : List ℕ) : Type 0 where
  pub short : length bytes < file_limit
  pub holds : HoldsTree intake bytes
  pub allowed : is_refused (perform slot_limit start (intake_of intake bytes)).0 ≡ false

-- what is said of it then
abbrev pub intake_text : Intake → Store → List ℕ → List ℕ
intake_text intake start bytes = reply_text (perform slot_limit start (intake_of intake bytes)).0

-- the store after it
abbrev pub after_intake : Intake → Store → List ℕ → Store
after_intake intake start bytes = (perform slot_limit start (intake_of intake bytes)).1

-- a front of the bytes was read, of which this holds of the length
pub record ReadsFront (HasLength : ℕ → Type 0) (bytes : List ℕ) (left : Option (List ℕ))
    : Type 0 where
  pub read : List ℕ
  pub rest : List ℕ
  pub order : bytes ≡ read ++ rest
  pub rest_left : left ≡ Some rest
  pub length : HasLength (length read)

-- P of the store that the file stands for at the start, of the input, and of what was said before
abbrev pub OfIntake : {S D : Type 0} (source : sources.Ghosts S) (desk : desks.Ghosts D) → Intake
    → Option Task → S → D → (Store → List ℕ → List ℕ → Type 0) → Type 0
OfIntake source desk intake asked input now P =
    asked ≡ Some (intake_task intake) → (start : Store) → IsHeld (desk.held now) start
    → IfTold (source.left input) (desk.said now) (P start)

-- ---- how the steps of it stop

-- reading the whole input
abbrev pub StopsReading : Status → Type 0
StopsReading s =
    (s ≡ status.ReadFault) ⊎ (s ≡ status.NoMemory) ⊎ (s ≡ status.TooLong file_limit)

-- the same, and how much of the input was read
abbrev pub LeavesRead : Status → List ℕ → Option (List ℕ) → Type 0
LeavesRead s bytes left =
    (((s ≡ status.ReadFault) ⊎ (s ≡ status.NoMemory))
    × ReadsFront (λ len. len < file_limit) bytes left)
    ⊎ ((s ≡ status.TooLong file_limit) × ReadsFront (λ len. len ≡ file_limit) bytes left)

-- making the tree of these bytes
abbrev pub StopsParsing : Intake → List ℕ → Status → Type 0
StopsParsing intake bytes s =
    (error : IntakeError) × (s ≡ intake_status error) × HoldsNone intake bytes error

-- performing the command and saying its reply
abbrev pub StopsCommit : Status → Type 0
StopsCommit s =
    (s ≡ status.NoMemory) ⊎ (s ≡ status.SayFault) ⊎ (s ≡ status.DeviceFault)
    ⊎ ((refusal : Refusal) × (s ≡ status.ImportRefused refusal) × RefusesIntake refusal)

-- any of these
abbrev pub StopsIntake : Intake → Status → Type 0
StopsIntake intake s =
    StopsReading s ⊎ ((bytes : List ℕ) × StopsParsing intake bytes s) ⊎ StopsCommit s

module _ {D : Type 0} (desk : desks.Ghosts D) where
  -- ---- what a stop shows

  -- The file stands for the store before, and nothing was said; or for the store after the command,
  -- and a front of the reply was said.
  abbrev pub ShowsIntake : Intake → Store → List ℕ → List ℕ → List ℕ → List ℕ → Type 0
  ShowsIntake intake start bytes before file line =
      ((line ≡ before) × Stands file start)
      ⊎ (IsTaken intake start bytes × Stands file (after_intake intake start bytes)
      × ((n : ℕ) × (line ≡ before ++ take n (intake_text intake start bytes))))

  -- ---- what is left

  -- nothing was said, and the file holds the store before
  abbrev pub LeavesStart : D → Store → List ℕ → D → Type 0
  LeavesStart first start before now =
      (desk.said now ≡ Some before) × Keeps desk true first start now

  -- the file was settled and could not be read then: nothing of the input was read or said, and a
  -- stop leaves the store before
  pub record LeavesUnread (start : Store) (bytes before : List ℕ) (left : Option (List ℕ)) (now : D)
      : Type 0 where
    pub unread : left ≡ Some bytes
    pub unsaid : desk.said now ≡ Some before
    pub stands : (file : List ℕ) → desk.may_leave now file → Stands file start

  -- the whole input was read, and nothing refuses it
  abbrev pub TakesAll : Intake → Store → List ℕ → Option (List ℕ) → Type 0
  TakesAll intake start bytes left = IsTaken intake start bytes × (left ≡ Some [])

  -- the whole input was read, below the limit; nothing was said, and the file holds the store
  -- before
  abbrev pub LeavesWhole : D → Store → List ℕ → List ℕ → Option (List ℕ) → D → Type 0
  LeavesWhole first start bytes before left now =
      (left ≡ Some []) × (length bytes < file_limit) × LeavesStart first start before now

  -- What is left at each status. At Done, and where the line fails, the file holds the store after
  -- the command; a file that fails leaves the store before or after, or was not settled yet. At
  -- each other status nothing was said and the file holds the store before. Of an import the bytes
  -- may be no bookmark file, of a restore no backup.
  abbrev pub EndsIntake : Intake → Status → D → Store → List ℕ → List ℕ → Option (List ℕ) → D
      → Type 0
  EndsIntake intake status.Done first start bytes before left now =
      TakesAll intake start bytes left
      × (desk.said now ≡ Some (before ++ intake_text intake start bytes))
      × Keeps desk true first (after_intake intake start bytes) now
  EndsIntake intake status.SayFault first start bytes before left now =
      TakesAll intake start bytes left
      × ((n : ℕ) × (n < length (intake_text intake start bytes))
      × (desk.said now ≡ Some (before ++ take n (intake_text intake start bytes))))
      × Keeps desk true first (after_intake intake start bytes) now
  EndsIntake intake status.DeviceFault first start bytes before left now =
      LeavesUnopened desk first bytes before left now
      ⊎ LeavesUnread start bytes before left now
      ⊎ (TakesAll intake start bytes left × (desk.said now ≡ Some before)
      × ((file : List ℕ) → desk.may_leave now file
      → LeavesEither desk true first start (after_intake intake start bytes) file))
  EndsIntake intake status.ReadFault first start bytes before left now =
      ReadsFront (λ len. len < file_limit) bytes left × LeavesStart first start before now
  EndsIntake intake status.NoMemory first start bytes before left now =
      ReadsFront (λ len. len < file_limit) bytes left × LeavesStart first start before now
  EndsIntake intake (status.TooLong limit) first start bytes before left now =
      (limit ≡ file_limit) × ReadsFront (λ len. len ≡ limit) bytes left
      × LeavesStart first start before now
  EndsIntake intake (status.NotBookmarks at) first start bytes before left now =
      (intake ≡ Import) × (offset bytes ≡ Some at)
      × LeavesWhole first start bytes before left now
  EndsIntake intake (status.NotBackup fault) first start bytes before left now =
      (intake ≡ Restore) × (backup_tree bytes ≡ Err fault)
      × LeavesWhole first start bytes before left now
  EndsIntake intake (status.ImportRefused refusal) first start bytes before left now =
      HoldsTree intake bytes
      × ((perform slot_limit start (intake_of intake bytes)).0 ≡ Refused refusal)
      × LeavesWhole first start bytes before left now
  EndsIntake intake status.Usage first start bytes before left now = ⊥
  EndsIntake intake status.NotAStore first start bytes before left now = ⊥
  EndsIntake intake (status.NotEmpty len) first start bytes before left now = ⊥
