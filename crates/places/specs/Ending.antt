-- What a run leaves at each of its ends, where the source and the desk tell their content.
use Rattle.std.specs.Prelude.{◌≡◌, ◌≢◌, ◌⊎◌, ⊤, ℕ, Bool, true, false, ◌<◌, List, [], ◌++◌}
use Rattle.std.specs.Prelude.{codes, length, take}
use Rattle.std.specs.Prelude.{IsSome, IsTrue, Option, Some, None}
use Rattle.pl_base.specs.Store.{Store, opening}
use Rattle.pl_base.specs.Live.{slot_limit}
use Rattle.pl_base.specs.declared.id.IdKind.TheVariants.{Page, Visit, Item}
use Rattle.pl_base.specs.declared.refusal.Refusal.{Refusal}
use Rattle.pl_base.specs.declared.refusal.Refusal.TheVariants as refusals
use Rattle.pl_desk.specs.Calls.{KeepsFile, LeavesNoMore}
use Rattle.pl_desk.specs.Shown.{Rests}
use Rattle.pl_desk.specs.declared.desk.Desk as desks
use Rattle.pl_desk.specs.declared.source.Source as sources
use Rattle.pl_graft.specs.Import.{most_rows}
use Rattle.pl_step.specs.Run.{replies, after}
use Rattle.pl_store.specs.Ending.{FindsBytes, IsFinished, SparesBytes}
use Rattle.pl_store.specs.Keeper.{Keeps}
use Rattle.pl_store.specs.Session.{Stands}
use Rattle.pl_script.specs.Script.{script}
use Rattle.places.specs.Bounded.{WritesFew}
use Rattle.places.specs.declared.answer_error.AnswerError.{AnswerError}
use Rattle.places.specs.declared.answer_error.AnswerError.TheVariants as answer
use Rattle.places.specs.declared.status.Status.{Status}
use Rattle.places.specs.declared.status.Status.TheVariants as status
use Rattle.places.specs.declared.stop.Stop.{Stop}
use Rattle.places.specs.declared.stop.Stop.TheVariants as stop
use Rattle.pl_task.specs.declared.task.Task.{Task}
use Rattle.pl_task.specs.declared.task.Task.TheVariants as tasks
use Rattle.pl_task.specs.Task.{script_limit}
use Rattle.places.specs.Progress.{HasRead, ended_entries, entries_read}
use Rattle.places.specs.Said.{Says, SaysUntil, texts}
use Rattle.places.specs.Stops.{LeavesAtEntry}
use Rattle.pl_task.specs.Task.{input_limit, opens_store}

-- how an answer's error stops a run
abbrev pub Becomes : AnswerError → Stop → Type 0
Becomes answer.SayFault e = e ≡ stop.SayFault
Becomes answer.DeviceFault e = e ≡ stop.DeviceFault
Becomes answer.NoMemory e = e ≡ stop.NoMemory

-- ---- tasks

-- which refusals an import or a restore may have: more rows than it may, no ids for pages or for
-- items, more slots than a store may take
abbrev pub RefusesIntake : Refusal → Type 0
RefusesIntake (refusals.TooMany rows) = most_rows < rows
RefusesIntake (refusals.NoIds Page) = ⊤
RefusesIntake (refusals.NoIds Visit) = ⊥
RefusesIntake (refusals.NoIds Item) = ⊤
RefusesIntake (refusals.Full slots) = slot_limit < slots
RefusesIntake refusals.BadUrl = ⊥
RefusesIntake refusals.NotRecorded = ⊥
RefusesIntake (refusals.NoVisit id) = ⊥
RefusesIntake refusals.NoPage = ⊥
RefusesIntake (refusals.NoItem id) = ⊥
RefusesIntake (refusals.NotAFolder id) = ⊥
RefusesIntake (refusals.Fixed id) = ⊥
RefusesIntake (refusals.BadPlace position len) = ⊥
RefusesIntake (refusals.Inside id) = ⊥
RefusesIntake (refusals.DayBack kept) = ⊥
RefusesIntake (refusals.BadQuery piece) = ⊥
RefusesIntake (refusals.BadLine column) = ⊥
RefusesIntake refusals.DupTag = ⊥
RefusesIntake refusals.BadDate = ⊥
RefusesIntake refusals.BadTag = ⊥
RefusesIntake refusals.NoTag = ⊥

-- which tasks may end so
abbrev pub EndsTask : Task → Status → Type 0
EndsTask task status.Done = ⊤
EndsTask task status.Usage = ⊥
EndsTask task status.ReadFault = IsSome (input_limit task)
EndsTask task status.SayFault = ⊤
EndsTask task status.DeviceFault = task ≢ tasks.Try
EndsTask task status.NoMemory = ⊤
EndsTask task status.NotAStore = IsTrue (opens_store task)
EndsTask task (status.NotEmpty len) = task ≡ tasks.New
EndsTask task (status.NotBookmarks at) = task ≡ tasks.Import
EndsTask task (status.TooLong limit) = input_limit task ≡ Some limit
EndsTask task (status.ImportRefused refusal) =
    ((task ≡ tasks.Import) ⊎ (task ≡ tasks.Restore)) × RefusesIntake refusal
EndsTask task (status.NotBackup fault) = task ≡ tasks.Restore

-- which words may end so, by what they ask for
abbrev pub MayEnd : Option Task → Status → Type 0
MayEnd None s = s ≡ status.Usage
MayEnd (Some task) s = EndsTask task s

-- a read of the file gives bytes that stand for the store
abbrev pub IsHeld : Option (List ℕ) → Store → Type 0
IsHeld held start = (file : List ℕ) × (held ≡ Some file) × Stands file start

-- A script is run from this store on: `try` from the store before its first command, `run` from the
-- store that a read of the file gives; the second is kept in a file.
abbrev pub BeginsWith : Option Task → Option (List ℕ) → Bool → Store → Type 0
BeginsWith task held is_file start =
    ((task ≡ Some tasks.Try) × (is_file ≡ false) × (start ≡ opening))
    ⊎ ((task ≡ Some tasks.Run) × (is_file ≡ true) × IsHeld held start)

-- the word of `new`
abbrev pub made_text : List ℕ
made_text = codes "new\n"

-- ---- what was said

-- P of what the source holds and of what was said before, where both are told
abbrev pub IfTold : Option (List ℕ) → Option (List ℕ) → (List ℕ → List ℕ → Type 0) → Type 0
IfTold left said P =
    (bytes before : List ℕ) → left ≡ Some bytes → said ≡ Some before → P bytes before

-- P of the store that a script is run from, whether it is kept in a file, and of these two
abbrev pub OfScript : {S D : Type 0} (source : sources.Ghosts S) (desk : desks.Ghosts D)
    → Option Task → S → D
    → (Bool → Store → List ℕ → List ℕ → Type 0) → Type 0
OfScript source desk task input now P =
    (is_file : Bool) (start : Store) → BeginsWith task (desk.held now) is_file start
    → IfTold (source.left input) (desk.said now) (P is_file start)

-- the input was read to its end, and the texts of all replies were said
pub record SaysAll (start : Store) (bytes before : List ℕ) (left said : Option (List ℕ)) : Type 0
  where
    pub nothing_left : left ≡ Some []
    pub all_said : said ≡ Some (before ++ texts (replies slot_limit start (script bytes)))
    pub in_limit : length bytes < script_limit

-- a front of the input was read, and the texts of the replies to the lines that ended within it
-- were said
pub record SaysEnded (start : Store) (bytes before : List ℕ) (left said : Option (List ℕ)) : Type 0
  where
    pub read : List ℕ
    pub rest : List ℕ
    pub has_read : HasRead bytes read rest left
    pub ended_said : said ≡ Some (before ++ texts (replies slot_limit start (ended_entries read)))

-- the run stopped at one of the replies to what was read
pub record SaysFront (error : AnswerError) (start : Store) (bytes before : List ℕ)
    (left said : Option (List ℕ))
    : Type 0 where
  pub read : List ℕ
  pub rest : List ℕ
  pub has_read : HasRead bytes read rest left
  pub piece : List ℕ
  pub front_said : said ≡ Some (before ++ piece)
  pub until : SaysUntil error (replies slot_limit start (entries_read read rest)) piece

-- what a script's run leaves said at each status; on a store there are no others
abbrev pub EndsScript : Status → Store → List ℕ → List ℕ → Option (List ℕ) → Option (List ℕ)
    → Type 0
EndsScript status.Done start bytes before left said = SaysAll start bytes before left said
EndsScript status.ReadFault start bytes before left said =
    (ended : SaysEnded start bytes before left said) × (length ended.read < script_limit)
EndsScript (status.TooLong limit) start bytes before left said =
    (ended : SaysEnded start bytes before left said) × (length ended.read ≡ limit)
EndsScript status.SayFault start bytes before left said =
    SaysFront answer.SayFault start bytes before left said
EndsScript status.DeviceFault start bytes before left said =
    SaysFront answer.DeviceFault start bytes before left said
EndsScript status.NoMemory start bytes before left said =
    SaysFront answer.NoMemory start bytes before left said
EndsScript status.Usage start bytes before left said = ⊥
EndsScript status.NotAStore start bytes before left said = ⊥
EndsScript (status.NotEmpty len) start bytes before left said = ⊥
EndsScript (status.NotBookmarks at) start bytes before left said = ⊥
EndsScript (status.ImportRefused refusal) start bytes before left said = ⊥
EndsScript (status.NotBackup fault) start bytes before left said = ⊥

-- ---- what was written

-- P of the file that `run` runs a script on, of its store, and of what the source holds, where that
-- and what was said are told
abbrev pub OfRun : {S D : Type 0} (source : sources.Ghosts S) (desk : desks.Ghosts D)
    → Option Task → S → D
    → (List ℕ → Store → List ℕ → Type 0) → Type 0
OfRun source desk task input now P =
    task ≡ Some tasks.Run → (file : List ℕ) (start : Store) → desk.held now ≡ Some file
    → Stands file start
    → IfTold (source.left input) (desk.said now) (λ bytes before. P file start bytes)

-- a front of the input was read, and with this many bytes before no more were written than the
-- commits of its entries may write
pub record WritesRead (start : Store) (bytes : List ℕ) (left : Option (List ℕ))
    (before now : ℕ)
    : Type 0 where
  pub read : List ℕ
  pub rest : List ℕ
  pub has_read : HasRead bytes read rest left
  pub few : WritesFew slot_limit start (entries_read read rest) before now
  -- nor than those of the whole script
  pub whole : WritesFew slot_limit start (script bytes) before now

-- ---- what was said, and the file

module _ {D : Type 0} (desk : desks.Ghosts D) where
  -- the run stopped at one of the entries of what was read, or before the next one
  pub record LeavesWithin (error : AnswerError) (is_file : Bool) (first : D) (start : Store)
      (bytes before : List ℕ)
      (left : Option (List ℕ)) (now : D) : Type 0 where
    pub read : List ℕ
    pub rest : List ℕ
    pub has_read : HasRead bytes read rest left
    pub leaves : LeavesAtEntry desk error is_file first slot_limit start (entries_read read rest)
        before now

  -- the file was not settled: nothing was read or said, and a stop leaves a file that it might have
  -- left at first
  pub record LeavesUnopened (first : D) (bytes before : List ℕ) (left : Option (List ℕ))
      (now : D) : Type 0 where
    pub unread : left ≡ Some bytes
    pub unsaid : desk.said now ≡ Some before
    pub as_before : LeavesNoMore desk first now

  -- the lines were answered that ended within what was read, which is this many bytes, and their
  -- store is kept
  pub record LeavesEnded (HasLength : ℕ → Type 0) (is_file : Bool) (first : D) (start : Store)
      (bytes before : List ℕ)
      (left : Option (List ℕ)) (now : D) : Type 0 where
    pub says : SaysEnded start bytes before left (desk.said now)
    pub read : HasLength (length says.read)
    pub keeps : Keeps desk is_file first (after slot_limit start (ended_entries says.read)) now

  -- What a script's run leaves at each status. At Done the file holds the store after all entries,
  -- and a read that fails and the limit of a script leave it with the store after those that ended
  -- within what was read. A line that fails leaves the store after the entry whose reply was not
  -- said whole, a file that fails the store before or after an entry, or one that was not settled
  -- yet, and want of memory the store after those that were answered.
  abbrev pub LeavesAtEnd : Status → Bool → D → Store → List ℕ → List ℕ → Option (List ℕ) → D
      → Type 0
  LeavesAtEnd status.Done is_file first start bytes before left now =
      SaysAll start bytes before left (desk.said now)
      × Keeps desk is_file first (after slot_limit start (script bytes)) now
  LeavesAtEnd status.ReadFault is_file first start bytes before left now =
      LeavesEnded (λ len. len < script_limit) is_file first start bytes before left now
  LeavesAtEnd (status.TooLong limit) is_file first start bytes before left now =
      LeavesEnded (λ len. len ≡ limit) is_file first start bytes before left now
  LeavesAtEnd status.SayFault is_file first start bytes before left now =
      LeavesWithin answer.SayFault is_file first start bytes before left now
  LeavesAtEnd status.DeviceFault is_file first start bytes before left now =
      LeavesUnopened first bytes before left now
      ⊎ LeavesWithin answer.DeviceFault is_file first start bytes before left now
  LeavesAtEnd status.NoMemory is_file first start bytes before left now =
      LeavesWithin answer.NoMemory is_file first start bytes before left now
  LeavesAtEnd status.Usage is_file first start bytes before left now = ⊥
  LeavesAtEnd status.NotAStore is_file first start bytes before left now = ⊥
  LeavesAtEnd (status.NotEmpty len) is_file first start bytes before left now = ⊥
  LeavesAtEnd (status.NotBookmarks at) is_file first start bytes before left now = ⊥
  LeavesAtEnd (status.ImportRefused refusal) is_file first start bytes before left now = ⊥
  LeavesAtEnd (status.NotBackup fault) is_file first start bytes before left now = ⊥

  -- ---- a new store

  -- the file stands for the store before its first command with its gate not set, and a stop leaves
  -- just what a read gives
  abbrev pub IsMade : D → Type 0
  IsMade now = Rests desk now (λ file. IsFinished file × Stands file opening)

  -- an empty file holds the new store
  abbrev pub MadeOfEmpty : D → D → Type 0
  MadeOfEmpty old new = (file : List ℕ) → desk.held old ≡ Some file → (file ≡ []) × IsMade new

  -- What `new` leaves at each status. Its word is said once the file holds the new store; a file
  -- that has bytes is left as it was, and so is an empty one for want of memory.
  abbrev pub EndsNew : Status → D → D → Type 0
  EndsNew status.Done old new = Says (desk.said old) made_text (desk.said new) × MadeOfEmpty old new
  EndsNew status.SayFault old new =
      ((n : ℕ) × (n < length made_text) × Says (desk.said old) (take n made_text) (desk.said new))
      × MadeOfEmpty old new
  EndsNew status.DeviceFault old new = (desk.said new ≡ desk.said old) × SparesBytes desk old new
  EndsNew status.NoMemory old new = (desk.said new ≡ desk.said old) × KeepsFile desk old new
  EndsNew (status.NotEmpty len) old new =
      (desk.said new ≡ desk.said old) × FindsBytes desk len old new
  EndsNew status.Usage old new = ⊥
  EndsNew status.ReadFault old new = ⊥
  EndsNew status.NotAStore old new = ⊥
  EndsNew (status.NotBookmarks at) old new = ⊥
  EndsNew (status.TooLong limit) old new = ⊥
  EndsNew (status.ImportRefused refusal) old new = ⊥
  EndsNew (status.NotBackup fault) old new = ⊥

-- ---- a file that is no store

-- how a run may end on a file that stands for no store
abbrev pub EndsUnopened : Status → Type 0
EndsUnopened result =
    (result ≡ status.NotAStore) ⊎ (result ≡ status.DeviceFault) ⊎ (result ≡ status.NoMemory)
