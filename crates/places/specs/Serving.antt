-- What a call of a run leaves, whatever it was asked: its keeper and the file, the replies, and the
-- counts of failed calls.
use Rattle.std.specs.Prelude.{◌≡◌, ℕ, false, true, List, Result, Some, Err, IfErr, IfOk, OnOk}
use Rattle.pl_base.specs.Store.{Store}
use Rattle.pl_desk.specs.Calls.{LeavesFile}
use Rattle.pl_desk.specs.Counts.{CountsAt}
use Rattle.pl_desk.specs.Shown.{ShowsOnly}
use Rattle.pl_desk.specs.declared.desk.Desk.{Ghosts}
use Rattle.pl_step.specs.declared.reply.Reply.{Reply}
use Rattle.pl_store.specs.declared.keeper.Keeper.{Keeper}
use Rattle.pl_store.specs.Keeper.{IsKept, is_file, keeper_store}
use Rattle.places.specs.declared.answer_error.AnswerError.{AnswerError}
use Rattle.places.specs.declared.answer_error.AnswerError.TheVariants.{DeviceFault, NoMemory}
use Rattle.places.specs.Progress.{StaysKept}
use Rattle.places.specs.Said.{Says, SaysOfAnswer, texts}
use Rattle.places.specs.Stops.{LeavesOfAnswer, ShowsTaking}

-- The keeper before, and the keeper of the call's answer.
pub record Serves {D T : Type 0} (desk : Ghosts D) (keeper : Keeper) (keeper_of : T → Keeper)
    (result : Result T AnswerError) (old new : D) : Type 0 where
  -- a store in a file stays in it, and one in memory stays there
  pub kind : IfOk result (λ next. is_file (keeper_of next) ≡ is_file keeper)
  -- what was kept is kept by the next keeper
  pub kept : IfOk result (λ next. StaysKept desk keeper old (keeper_of next) new)
  -- a store in memory leaves the file alone
  pub alone : is_file keeper ≡ false → LeavesFile desk old new
  -- and so meets no fault of it
  pub in_file : result ≡ Err DeviceFault → is_file keeper ≡ true

-- The store after the answer, and what was said of it.
pub record Answers {D : Type 0} (desk : Ghosts D) (next : Store) (replies : List Reply)
    (result : Result Keeper AnswerError) (old new : D) : Type 0 where
  -- the next keeper has this store
  pub store : IfOk result (λ keeper. keeper_store keeper ≡ next)
  -- the replies were said
  pub said : OnOk result (Says (desk.said old) (texts replies) (desk.said new))
  -- or where the answer failed so much of them
  pub stopped : IfErr result
      (λ error. SaysOfAnswer error replies (desk.said old) (desk.said new))
  -- want of memory comes before the first call of the desk
  pub no_memory : result ≡ Err NoMemory → new ≡ old

-- The file takes a step from the keeper's store to the next, and this text is said of it.
pub record Taking {D : Type 0} (desk : Ghosts D) (keeper : Keeper) (next : Store) (text : List ℕ)
    (result : Result Keeper AnswerError) (old new : D) : Type 0 where
  -- what an answer that failed leaves of the file
  pub left : IfErr result (λ error. (first : D) → IsKept desk keeper first old
      → LeavesOfAnswer desk error (is_file keeper) first (keeper_store keeper) next new)
  -- what a stop shows meanwhile
  pub shows : (first : D) (before : List ℕ) → desk.said old ≡ Some before
      → IsKept desk keeper first old
      → ShowsOnly desk old new
      (ShowsTaking desk (is_file keeper) first (keeper_store keeper) next text before)

-- Each call that failed is counted, and is told by its own fault.
pub record CountsFaults {D : Type 0} (desk : Ghosts D) (SayFault FileFault : Type 0) (old new : D)
    : Type 0 where
  -- the calls of the line, to which replies are said
  pub says : CountsAt SayFault (desk.line_faults old) (desk.line_faults new)
  -- the calls of the store's file
  pub device : CountsAt FileFault (desk.device_faults old) (desk.device_faults new)
