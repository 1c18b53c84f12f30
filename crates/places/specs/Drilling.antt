-- What a drill makes of a store, shows while it runs, and leaves at each of its ends, where the
-- desk tells its content.
use Rattle.std.specs.Prelude.{◌≡◌, ◌⊎◌, ⊤, ℕ, zero, suc, ◌+◌, ◌<◌, ◌≤◌, true, List, [], ◌∷◌, ◌++◌}
use Rattle.std.specs.Prelude.{codes, decimal, length, take, Option, Some, Result, Ok, Err}
use Rattle.std.specs.List.{count_by}
use Rattle.pl_base.specs.Live.{slot_limit}
use Rattle.pl_base.specs.Store.{Store}
use Rattle.pl_desk.specs.Calls.{LeavesNoMore}
use Rattle.pl_desk.specs.declared.desk.Desk as desks
use Rattle.pl_drill.specs.declared.drill.Drill.{Drill}
use Rattle.pl_drill.specs.Drill.{behind, drill_of, line_of, tabbed}
use Rattle.pl_script.specs.Reply.{reply_text}
use Rattle.pl_step.specs.declared.command.Command.{Command}
use Rattle.pl_step.specs.declared.command.Command.TheVariants.{Stats}
use Rattle.pl_step.specs.declared.reply.Reply.{Reply}
use Rattle.pl_step.specs.declared.reply.Reply.TheVariants as replies
use Rattle.pl_step.specs.Refused.{is_refused}
use Rattle.pl_step.specs.Run.{after, replies as replies_to}
use Rattle.pl_step.specs.Step.{perform}
use Rattle.pl_store.specs.Keeper.{Keeps, keeper_store}
use Rattle.pl_store.specs.Session.{Stands}
use Rattle.places.specs.declared.answer_error.AnswerError.{AnswerError}
use Rattle.places.specs.declared.answer_error.AnswerError.TheVariants as answer
use Rattle.places.specs.declared.drill.Drilling.{Drilling}
use Rattle.places.specs.declared.status.Status.{Status}
use Rattle.places.specs.declared.status.Status.TheVariants as status
use Rattle.pl_task.specs.declared.task.Task.{Task}
use Rattle.pl_task.specs.declared.task.Task.TheVariants as tasks
use Rattle.places.specs.Ending.{IsHeld}
use Rattle.places.specs.Lines.{entries_in}
use Rattle.places.specs.Status.{answer_status}

-- ---- what a drill does

-- the drill that was told a reply: that to a visit tells which visit was the last
abbrev pub told : Reply → Drill → Drill
told (replies.Visit visit page frecency) drill = record drill { last = Some visit }
told (replies.Day day changed) drill = drill
told replies.Done drill = drill
told (replies.Page id frecency count last typed hidden bookmarked url title tags) drill = drill
told (replies.Origin prefix host reversed total pages passes) drill = drill
told (replies.Stats pages visits items origins sum slots) drill = drill
told (replies.Removed visits pages) drill = drill
told (replies.Item id) drill = drill
told (replies.List rows) drill = drill
told (replies.Rows rows) drill = drill
told (replies.Place text) drill = drill
told (replies.Bar rows) drill = drill
told (replies.Fill group total) drill = drill
told replies.NoFill drill = drill
told (replies.Imported items tags skipped) drill = drill
told (replies.Restored items tags skipped) drill = drill
told (replies.Refused refusal) drill = drill

-- the same of replies in order
abbrev pub told_all : List Reply → Drill → Drill
told_all [] drill = drill
told_all (reply ∷ more) drill = told_all more (told reply drill)

-- how far a drill has come: what its next lines depend on, how many lines were refused, and the
-- store after them
pub record Drilled : Type 0 where
  pub drill : Drill
  pub refused : ℕ
  pub store : Store

-- behind the line of this number
abbrev pub line_done : ℕ → Drilled → Drilled
line_done number d =
    record {
      drill =
          told_all (replies_to slot_limit d.store (entries_in (line_of number d.drill)))
          (behind number d.drill);
      refused =
          d.refused
          + count_by is_refused
          (replies_to slot_limit d.store (entries_in (line_of number d.drill)));
      store = after slot_limit d.store (entries_in (line_of number d.drill));
    }

-- behind a command
abbrev pub performed : Command → Drilled → Drilled
performed command d =
    record {
      drill = told (perform slot_limit d.store command).0 d.drill;
      refused =
          d.refused + count_by is_refused ((perform slot_limit d.store command).0 ∷ []);
      store = (perform slot_limit d.store command).1;
    }

-- behind so many of its lines
abbrev pub drilled : Store → ℕ → ℕ → Drilled
drilled start seed zero = record { drill = drill_of seed; refused = 0; store = start }
drilled start seed (suc n) = line_done n (drilled start seed n)

-- behind the first line and so many more
abbrev pub all_drilled : Store → ℕ → ℕ → Drilled
all_drilled start seed count = drilled start seed (count + 1)

-- how far this drill has come
abbrev pub so_far : Drilling → Drilled
so_far drilling =
    record {
      drill = drilling.drill;
      refused = drilling.refused;
      store = keeper_store drilling.keeper;
    }

-- the numbers of a drill behind so many of its lines are small
pub record IsSmall (n : ℕ) (d : Drilled) : Type 0 where
  pub begun : 19_000 ≤ d.drill.day
  pub day : d.drill.day ≤ 19_000 + n
  pub refused : d.refused ≤ n

-- the line of the drill, and the reply to `stats`
abbrev pub summary_of : ℕ → Drilled → List ℕ
summary_of count d =
    tabbed (codes "drill" ∷ decimal count ∷ codes "refused" ∷ decimal d.refused ∷ []) ++ codes "\n"
    ++ reply_text (perform slot_limit d.store Stats).0

abbrev pub summary : Store → ℕ → ℕ → List ℕ
summary start seed count = summary_of count (all_drilled start seed count)

-- the status of a drill on an open store
abbrev pub drill_status : Result ⊤ AnswerError → Status
drill_status (Ok done) = status.Done
drill_status (Err error) = answer_status error

-- the file stands for the store after some of the lines
abbrev pub StandsForSome : ℕ → ℕ → Store → List ℕ → Type 0
StandsForSome count seed start file =
    (n : ℕ) × (n ≤ count + 1) × Stands file (drilled start seed n).store

module _ {D : Type 0} (desk : desks.Ghosts D) where
  -- P of the lines, the seed, the store that the file stands for at the start, and what was said
  -- before
  abbrev pub OfDrill : Option Task → D → (ℕ → ℕ → Store → List ℕ → Type 0) → Type 0
  OfDrill task now P =
      (count seed : ℕ) → task ≡ Some (tasks.Drill count seed) → (start : Store)
      → IsHeld (desk.held now) start → (before : List ℕ) → desk.said now ≡ Some before
      → P count seed start before

  -- ---- what a stop shows

  -- The file stands for the store after some of the lines, and nothing was said; or for the one
  -- after all of them, and a front of the summary was said.
  abbrev pub ShowsDrill : ℕ → ℕ → Store → List ℕ → List ℕ → List ℕ → Type 0
  ShowsDrill count seed start before file line =
      ((n : ℕ) × (n ≤ count + 1) × Stands file (drilled start seed n).store × (line ≡ before))
      ⊎ (Stands file (all_drilled start seed count).store
      × ((n : ℕ) × (line ≡ before ++ take n (summary start seed count))))

  -- ---- what is left

  -- the file holds the store after some of the lines
  abbrev pub KeepsSome : ℕ → ℕ → D → Store → D → Type 0
  KeepsSome count seed first start now =
      (n : ℕ) × (n ≤ count + 1) × Keeps desk true first (drilled start seed n).store now

  -- What lines leave that were not all run: the store after some for want of memory, and where the
  -- file failed. They say nothing.
  abbrev pub LeavesLines : AnswerError → ℕ → ℕ → D → Store → D → Type 0
  LeavesLines answer.SayFault count seed first start now = ⊥
  LeavesLines answer.DeviceFault count seed first start now =
      (file : List ℕ) → desk.may_leave now file → StandsForSome count seed start file
  LeavesLines answer.NoMemory count seed first start now =
      KeepsSome count seed first start now

  -- a stop leaves a file that it might have left at first, or ones that stand for the store after
  -- some of the lines
  abbrev pub LeavesSome : ℕ → ℕ → D → Store → D → Type 0
  LeavesSome count seed first start now =
      LeavesNoMore desk first now
      ⊎ ((file : List ℕ) → desk.may_leave now file
      → (n : ℕ) × (n ≤ count + 1) × Stands file (drilled start seed n).store)

  -- What a drill leaves at each status. At Done, and where the line fails, the file holds the store
  -- after all lines. A file that fails, and want of memory, leave the store after some, and nothing
  -- said.
  abbrev pub EndsDrill : Status → ℕ → ℕ → D → Store → List ℕ → D → Type 0
  EndsDrill status.Done count seed first start before now =
      (desk.said now ≡ Some (before ++ summary start seed count))
      × Keeps desk true first (all_drilled start seed count).store now
  EndsDrill status.SayFault count seed first start before now =
      ((n : ℕ) × (n < length (summary start seed count))
      × (desk.said now ≡ Some (before ++ take n (summary start seed count))))
      × Keeps desk true first (all_drilled start seed count).store now
  EndsDrill status.DeviceFault count seed first start before now =
      (desk.said now ≡ Some before) × LeavesSome count seed first start now
  EndsDrill status.NoMemory count seed first start before now =
      (desk.said now ≡ Some before) × KeepsSome count seed first start now
  EndsDrill status.Usage count seed first start before now = ⊥
  EndsDrill status.ReadFault count seed first start before now = ⊥
  EndsDrill status.NotAStore count seed first start before now = ⊥
  EndsDrill (status.NotEmpty len) count seed first start before now = ⊥
  EndsDrill (status.NotBookmarks at) count seed first start before now = ⊥
  EndsDrill (status.TooLong limit) count seed first start before now = ⊥
  EndsDrill (status.ImportRefused refusal) count seed first start before now = ⊥
  EndsDrill (status.NotBackup fault) count seed first start before now = ⊥
