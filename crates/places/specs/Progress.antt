-- How far a run has come.
use Rattle.std.specs.Prelude.{◌≡◌, ◌≤◌, ℕ, List, [], ◌∷◌, ◌++◌, length, take, Option, Some}
use Rattle.std.specs.Prelude.{Result, IfErr, IfOk}
use Rattle.pl_base.specs.Store.{Store}
use Rattle.pl_base.specs.Live.{slot_limit}
use Rattle.pl_desk.specs.Shown.{ShowsOnly}
use Rattle.pl_desk.specs.declared.desk.Desk.{Ghosts}
use Rattle.pl_step.specs.declared.command.Command.{Command}
use Rattle.pl_step.specs.Run.{replies, after}
use Rattle.pl_step.specs.Parsed.{Parsed}
use Rattle.pl_store.specs.declared.keeper.Keeper.{Keeper}
use Rattle.pl_store.specs.Keeper.{IsKept, is_file, keeper_limit, keeper_store}
use Rattle.pl_script.specs.Script.{script}
use Rattle.places.specs.declared.script_run.ScriptRun.{ScriptRun}
use Rattle.places.specs.declared.answer_error.AnswerError.{AnswerError}
use Rattle.pl_task.specs.Task.{script_limit}
use Rattle.places.specs.Bounded.{WritesFew}
use Rattle.places.specs.Limits.{kept_of_line}
use Rattle.places.specs.Lines.{ended_lines, entries_of, open_line}
use Rattle.places.specs.Said.{Says, texts}
use Rattle.places.specs.Stops.{LeavesAtEntry, ShowsAnswered}

-- what the lines ask for that ended within the bytes
abbrev pub ended_entries : List ℕ → List (Parsed Command)
ended_entries bytes = entries_of (ended_lines bytes)

-- what was asked for within what was read, where this rest is left: by the lines that ended, and at
-- the end of the input by the last line too
abbrev pub entries_read : List ℕ → List ℕ → List (Parsed Command)
entries_read read [] = script read
entries_read read (next ∷ rest) = ended_entries read

-- this front of the input was read, within the limit, and this rest is left
pub record HasRead (bytes read rest : List ℕ) (left : Option (List ℕ)) : Type 0 where
  pub order : bytes ≡ read ++ rest
  pub rest_left : left ≡ Some rest
  pub in_limit : length read ≤ script_limit

-- after these bytes of the input: the lines that ended were answered, and of the line that has not
-- as much is kept as tells its entry
pub record IsAt (start : Store) (bytes : List ℕ) (begun : Option (List ℕ)) (run : ScriptRun)
    (said : Option (List ℕ)) : Type 0 where
  pub limit : keeper_limit run.keeper ≡ slot_limit
  pub store : keeper_store run.keeper ≡ after slot_limit start (ended_entries bytes)
  pub line : run.line.items ≡ take kept_of_line (open_line bytes)
  pub text : Says begun (texts (replies slot_limit start (ended_entries bytes))) said

module _ {D : Type 0} (desk : Ghosts D) where
  -- after these bytes more the run stands behind the longer input
  abbrev pub GoesOn : ScriptRun → List ℕ → D → ScriptRun → D → Type 0
  GoesOn run piece old next new = (start : Store) (bytes : List ℕ) (begun : Option (List ℕ))
      → IsAt start bytes begun run (desk.said old)
      → IsAt start (bytes ++ piece) begun next (desk.said new)

  -- what was kept is kept by the next keeper
  abbrev pub StaysKept : Keeper → D → Keeper → D → Type 0
  StaysKept keeper old next new =
      (first : D) → IsKept desk keeper first old → IsKept desk next first new

  -- what is left where the run stopped at one of these entries of the input up to the piece that it
  -- takes
  abbrev pub StopsIn : AnswerError → ScriptRun → (List ℕ → List (Parsed Command)) → D → D → Type 0
  StopsIn error run entries old new = (start : Store) (bytes begun : List ℕ) (first : D)
      → IsAt start bytes (Some begun) run (desk.said old) → IsKept desk run.keeper first old
      → LeavesAtEntry desk error (is_file run.keeper) first slot_limit start (entries bytes) begun
      new

  -- what a stop shows while the piece is taken
  abbrev pub ShowsIn : ScriptRun → (List ℕ → List (Parsed Command)) → D → D → Type 0
  ShowsIn run entries old new = (start : Store) (bytes begun : List ℕ) (first : D)
      → IsAt start bytes (Some begun) run (desk.said old) → IsKept desk run.keeper first old
      → ShowsOnly desk old new
      (ShowsAnswered desk (is_file run.keeper) first slot_limit start (entries bytes) begun)

  -- no more is written while the piece is taken than the entries up to it ask for
  abbrev pub WritesIn : ScriptRun → (List ℕ → List (Parsed Command)) → D → D → Type 0
  WritesIn run entries old new =
      (start : Store) (bytes : List ℕ) (begun : Option (List ℕ)) (before : ℕ)
      → IsAt start bytes begun run (desk.said old)
      → WritesFew slot_limit start (ended_entries bytes) before (desk.written old)
      → WritesFew slot_limit start (entries bytes) before (desk.written new)

  -- how the next piece of the input is taken
  pub record Takes (run : ScriptRun) (piece : List ℕ) (result : Result ScriptRun AnswerError)
      (old new : D) : Type 0 where
    -- the next run stands behind it
    pub goes_on : IfOk result (λ next. GoesOn run piece old next new)
    -- or the run stopped at one of its entries
    pub ends : IfErr result
        (λ error. StopsIn error run (λ bytes. ended_entries (bytes ++ piece)) old new)
    -- what a stop shows meanwhile
    pub shows : ShowsIn run (λ bytes. ended_entries (bytes ++ piece)) old new
    -- and what is written
    pub writes : WritesIn run (λ bytes. ended_entries (bytes ++ piece)) old new
