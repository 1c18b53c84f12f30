-- What a stop of the machine shows during a run, and what a run leaves that stopped at an entry:
-- the file, and what was said.
use Rattle.std.specs.Prelude.{◌≡◌, ◌⊎◌, ◌≤◌, ℕ, Bool, true, false, List, ◌++◌, length, take, Some}
use Rattle.pl_base.specs.Store.{Store}
use Rattle.pl_desk.specs.Settling.{ShowsThen}
use Rattle.pl_desk.specs.Shown.{ShowsOnly}
use Rattle.pl_desk.specs.declared.desk.Desk.{Ghosts}
use Rattle.pl_step.specs.declared.command.Command.{Command}
use Rattle.pl_step.specs.Parsed.{Parsed}
use Rattle.pl_step.specs.Run.{replies, after}
use Rattle.pl_store.specs.Keeper.{Keeps, Leaves, LeavesEither}
use Rattle.places.specs.declared.answer_error.AnswerError.{AnswerError}
use Rattle.places.specs.declared.answer_error.AnswerError.TheVariants.{SayFault, DeviceFault}
use Rattle.places.specs.declared.answer_error.AnswerError.TheVariants.{NoMemory}
use Rattle.places.specs.Said.{SaysOfAnswer, texts}

module _ {D : Type 0} (desk : Ghosts D) where
  -- ---- what a stop shows

  -- a front of a text was said behind what was said before, and the file is one that a stop might
  -- have left at first
  abbrev pub ShowsFront : D → List ℕ → List ℕ → List ℕ → List ℕ → Type 0
  ShowsFront first before text file line =
      desk.may_leave first file × ((n : ℕ) × (line ≡ before ++ take n text))

  -- Before the first sync of the store's file has ended: nothing was said, and the file is one that
  -- a stop might have left at first.
  abbrev pub ShowsUnopened : D → List ℕ → List ℕ → List ℕ → Type 0
  ShowsUnopened first before file line = desk.may_leave first file × (line ≡ before)

  -- During a run of a script: until the first sync of its file ends a stop shows what has P, and
  -- what has Q from then on; without a file it shows what has Q from the start.
  abbrev pub ShowsRun : Bool → Type 0 → D → D → (List ℕ → List ℕ → Type 0)
      → (List ℕ → List ℕ → Type 0) → Type 0
  ShowsRun true Fault old new P Q = ShowsThen desk Fault old new P Q
  ShowsRun false Fault old new P Q = ShowsOnly desk old new Q

  -- While the file takes a step from one store to the next, and this text is said of it: a front of
  -- the text was said behind what was said before; a part past its end is all of it. The file is
  -- that of the next store, or, where no byte of the text was said, of the one before.
  pub record ShowsTaking (is_file : Bool) (first : D) (store next : Store)
      (text before file line : List ℕ) : Type 0 where
    pub part : ℕ
    pub said : line ≡ before ++ take part text
    pub leaves : Leaves desk is_file first next file
        ⊎ ((part ≡ 0) × Leaves desk is_file first store file)

  -- while a line is answered that has an entry, or none
  abbrev pub ShowsAnswer : Bool → D → ℕ → Store → List (Parsed Command) → List ℕ → List ℕ → List ℕ
      → Type 0
  ShowsAnswer is_file first limit store entries =
      ShowsTaking is_file first store (after limit store entries)
      (texts (replies limit store entries))

  -- During a run of entries: the texts of the first replies were said, and the next line is
  -- answered.
  pub record ShowsAnswered (is_file : Bool) (first : D) (limit : ℕ) (start : Store)
      (entries : List (Parsed Command))
      (before file line : List ℕ) : Type 0 where
    pub answered : List (Parsed Command)
    pub next : List (Parsed Command)
    pub more : List (Parsed Command)
    pub order : entries ≡ answered ++ (next ++ more)
    pub one : length next ≤ 1
    pub shows : ShowsAnswer is_file first limit (after limit start answered) next
        (before ++ texts (replies limit start answered)) file line

  -- ---- what is left

  -- What an answer that failed leaves of the file: the store before it for want of memory, the one
  -- after it where its reply could not be said whole, and one of the two where the file failed.
  abbrev pub LeavesOfAnswer : AnswerError → Bool → D → Store → Store → D → Type 0
  LeavesOfAnswer NoMemory is_file first store next now = Keeps desk is_file first store now
  LeavesOfAnswer SayFault is_file first store next now = Keeps desk is_file first next now
  LeavesOfAnswer DeviceFault is_file first store next now =
      (file : List ℕ) → desk.may_leave now file → LeavesEither desk is_file first store next file

  -- A run that stopped at one of its entries, or before the next one: those before it were
  -- answered.
  pub record LeavesAtEntry (error : AnswerError) (is_file : Bool) (first : D) (limit : ℕ)
      (start : Store)
      (entries : List (Parsed Command)) (before : List ℕ) (now : D) : Type 0 where
    pub answered : List (Parsed Command)
    pub next : List (Parsed Command)
    pub more : List (Parsed Command)
    pub order : entries ≡ answered ++ (next ++ more)
    pub one : length next ≤ 1
    pub text : SaysOfAnswer error (replies limit (after limit start answered) next)
        (Some (before ++ texts (replies limit start answered))) (desk.said now)
    pub file : LeavesOfAnswer error is_file first (after limit start answered)
        (after limit (after limit start answered) next) now
