-- A run that nothing outside fails ends Done or for want of memory, status by status.
use Rattle.std.proofs.Common.{◌≡◌, ◌⊎◌, ◌∙◌, ◌<◌, ◌++◌, ℕ, List, [], length, None, Ok, Some, Option, ap, arith, inl, inr, refl}
use Rattle.std.proofs.Common.{length-append, subst, sym, ⊎_elim}
use Rattle.std.proofs.lemmas.Bool.{true≢false}
use Rattle.std.proofs.lemmas.Option.{MatchOption-at_some, same_Some}
use Rattle.pl_backup.specs.BackupTree.{backup_tree}
use Rattle.pl_base.specs.Store.{Store}
use Rattle.pl_base.proofs.Truths.{some_there}
use Rattle.pl_desk.specs.Counts.{CountsAt, last_count}
use Rattle.pl_desk.specs.declared.desk.Desk as desks
use Rattle.pl_desk.specs.declared.source.Source as sources
use Rattle.pl_intake.specs.Intake.{HoldsTree, tree_in}
use Rattle.pl_intake.specs.declared.intake.Intake.{Intake}
use Rattle.pl_intake.specs.declared.intake.Intake.TheVariants.{Restore}
use Rattle.pl_nbread.specs.BookmarkFile.{offset}
use Rattle.pl_step.specs.declared.reply.Reply.{Reply}
use Rattle.pl_step.specs.Refused.{is_refused}
use Rattle.pl_store.specs.Session.{Stands}
use Rattle.pl_task.specs.declared.task.Task.{Task}
use Rattle.pl_task.specs.Task.{input_limit, script_limit}
use Rattle.places.specs.declared.status.Status.{Status}
use Rattle.places.specs.declared.status.Status.TheVariants as status
use Rattle.places.specs.Completeness.{GivesBookmarks, HoldsStore, NoneFailed, NothingFails}
use Rattle.places.specs.Drilling.{EndsDrill}
use Rattle.places.specs.Ending.{EndsNew, EndsScript, EndsTask, IfTold}
use Rattle.places.specs.Reporting.{EndsReport}
use Rattle.places.specs.Serving.{CountsFaults}
use Rattle.places.specs.TakingIn.{EndsIntake, IsTaken}

-- ---- the outside

not_risen : (before after last : ℕ) → (before < after) ⊎ (after ≡ last) → after ≡ before → after < last → ⊥
not_risen before after last rose same below =
    ⊎_elim (λ more. absurd (omega (arith, more, same))) (λ at. absurd (omega (arith, at, below))) rose

-- no call failed, so the status is not that fault
pub none_failed : {Fault : Type 0} (before after : ℕ) → CountsAt Fault before after → NoneFailed before after
    → Fault → ⊥
none_failed before after counted none fault =
    not_risen before after last_count (counted.rose fault) none.0 none.1

-- the task that was asked for
pub of_task : {S D : Type 0} (source : sources.Ghosts S) (desk : desks.Ghosts D) (here task : Task)
    (asked : Option Task) (input : S) (old : D) (input' : S) (new : D) → asked ≡ Some here → asked ≡ Some task
    → NothingFails source desk task input old input' new → NothingFails source desk here input old input' new
of_task source desk here task asked input old input' new is wanted nothing =
    subst (λ (t : Task). NothingFails source desk t input old input' new)
    (same_Some task here (sym wanted ∙ is)) nothing

-- what was read is no longer than the input
below_limit : (read rest bytes : List ℕ) (limit : ℕ) → bytes ≡ read ++ rest → length read ≡ limit
    → length bytes < limit → ⊥
below_limit read rest bytes limit order full below =
    absurd (omega (arith, ap length order, length-append read rest, full, below))

-- ---- the statuses

abbrev IsDone : Status → Type 0
IsDone s = (s ≡ status.Done) ⊎ (s ≡ status.NoMemory)

-- of a script
pub script_done : (task : Task) (s : Status) (start : Store) (bytes before : List ℕ) (left said : Option (List ℕ))
    → input_limit task ≡ Some script_limit → length bytes < script_limit → EndsTask task s
    → (s ≡ status.ReadFault → ⊥) → (s ≡ status.SayFault → ⊥) → (s ≡ status.DeviceFault → ⊥)
    → EndsScript s start bytes before left said → IsDone s
script_done task status.Done start bytes before left said limited below may read say call ends = inl refl
script_done task status.NoMemory start bytes before left said limited below may read say call ends = inr refl
script_done task status.ReadFault start bytes before left said limited below may read say call ends =
    absurd (read refl)
script_done task status.SayFault start bytes before left said limited below may read say call ends =
    absurd (say refl)
script_done task status.DeviceFault start bytes before left said limited below may read say call ends =
    absurd (call refl)
script_done task (status.TooLong limit) start bytes before left said limited below may read say call ends =
    absurd (below_limit ends.0.read ends.0.rest bytes script_limit ends.0.has_read.order
    (ends.1 ∙ same_Some limit script_limit (sym may ∙ limited)) below)
script_done task status.Usage start bytes before left said limited below may read say call ends = absurd ends
script_done task status.NotAStore start bytes before left said limited below may read say call ends = absurd ends
script_done task (status.NotEmpty len) start bytes before left said limited below may read say call ends = absurd ends
script_done task (status.NotBookmarks at) start bytes before left said limited below may read say call ends =
    absurd ends
script_done task (status.ImportRefused refusal) start bytes before left said limited below may read say call ends =
    absurd ends
script_done task (status.NotBackup fault) start bytes before left said limited below may read say call ends =
    absurd ends

module _ {D : Type 0} (desk : desks.Ghosts D) where
  -- of an intake that nothing refuses
  pub intake_done : (intake : Intake) (s : Status) (first : D) (start : Store) (bytes before : List ℕ)
      (left : Option (List ℕ)) (now : D) → IsTaken intake start bytes
      → (s ≡ status.ReadFault → ⊥) → (s ≡ status.SayFault → ⊥) → (s ≡ status.DeviceFault → ⊥)
      → EndsIntake desk intake s first start bytes before left now → IsDone s
  intake_done intake status.Done first start bytes before left now taken read say call ends = inl refl
  intake_done intake status.NoMemory first start bytes before left now taken read say call ends = inr refl
  intake_done intake status.ReadFault first start bytes before left now taken read say call ends = absurd (read refl)
  intake_done intake status.SayFault first start bytes before left now taken read say call ends = absurd (say refl)
  intake_done intake status.DeviceFault first start bytes before left now taken read say call ends = absurd (call refl)
  intake_done intake (status.TooLong limit) first start bytes before left now taken read say call ends =
      absurd (below_limit ends.1.read ends.1.rest bytes _ ends.1.order (ends.1.length ∙ ends.0) taken.short)
  intake_done intake (status.NotBookmarks at) first start bytes before left now taken read say call ends =
      let none : offset bytes ≡ None = subst (λ (i : Intake). HoldsTree i bytes) ends.0 taken.holds in
      let some = ends.1 in absurd (cc)
  intake_done intake (status.NotBackup fault) first start bytes before left now taken read say call ends =
      let held : backup_tree bytes ≡ Ok (tree_in Restore bytes) =
      subst (λ (i : Intake). HoldsTree i bytes) ends.0 taken.holds in
      let none = ends.1 in absurd (cc)
  intake_done intake (status.ImportRefused refusal) first start bytes before left now taken read say call ends =
      absurd (true≢false (sym (ap (λ (r : Reply). is_refused r) ends.1) ∙ taken.allowed))
  intake_done intake status.Usage first start bytes before left now taken read say call ends = absurd ends
  intake_done intake status.NotAStore first start bytes before left now taken read say call ends = absurd ends
  intake_done intake (status.NotEmpty len) first start bytes before left now taken read say call ends = absurd ends

  -- of the intake that a task asks for, where nothing outside fails it
  pub intake_complete : {S : Type 0} (source : sources.Ghosts S) (intake : Intake) (task : Task) (s : Status)
      (input : S) (old : D) (input' : S) (new : D)
      → CountsAt (s ≡ status.ReadFault) (source.faults input) (source.faults input')
      → CountsFaults desk (s ≡ status.SayFault) (s ≡ status.DeviceFault) old new
      → ((file : List ℕ) (start : Store) → desk.held old ≡ Some file → Stands file start
      → IfTold (source.left input) (desk.said old) (λ bytes before.
      EndsIntake desk intake s old start bytes before (source.left input') new))
      → GivesBookmarks source desk intake input old → NothingFails source desk task input old input' new → IsDone s
  intake_complete source intake task s input old input' new read counted ends gives fails =
      let said = some_there (desk.said old) fails.told in let start = gives.0 in let held = gives.1 in
      let file = gives.2 in
      intake_done intake s old start file.0 said.0 (source.left input') new file.2
      (none_failed (source.faults input) (source.faults input') read fails.reads)
      (none_failed (desk.line_faults old) (desk.line_faults new) counted.says fails.says)
      (none_failed (desk.device_faults old) (desk.device_faults new) counted.device fails.calls)
      (ends held.0 start held.1 held.2 file.0 said.0 file.1 said.1)

  -- of a report
  pub report_done : (s : Status) (text : List ℕ) (first : D) (start : Store) (before : List ℕ) (now : D)
      → (s ≡ status.SayFault → ⊥) → (s ≡ status.DeviceFault → ⊥)
      → EndsReport desk s text first start before now → IsDone s
  report_done status.Done text first start before now say call ends = inl refl
  report_done status.NoMemory text first start before now say call ends = inr refl
  report_done status.SayFault text first start before now say call ends = absurd (say refl)
  report_done status.DeviceFault text first start before now say call ends = absurd (call refl)
  report_done status.Usage text first start before now say call ends = absurd ends
  report_done status.ReadFault text first start before now say call ends = absurd ends
  report_done status.NotAStore text first start before now say call ends = absurd ends
  report_done (status.NotEmpty len) text first start before now say call ends = absurd ends
  report_done (status.NotBookmarks at) text first start before now say call ends = absurd ends
  report_done (status.TooLong limit) text first start before now say call ends = absurd ends
  report_done (status.ImportRefused refusal) text first start before now say call ends = absurd ends
  report_done (status.NotBackup fault) text first start before now say call ends = absurd ends

  -- of the report that a task asks for, where nothing outside fails it
  pub report_complete : {S : Type 0} (source : sources.Ghosts S) (task : Task) (s : Status)
      (text : Store → List ℕ) (input : S) (old new : D)
      → CountsFaults desk (s ≡ status.SayFault) (s ≡ status.DeviceFault) old new
      → ((file : List ℕ) (start : Store) (before : List ℕ) → desk.held old ≡ Some file → Stands file start
      → desk.said old ≡ Some before → EndsReport desk s (text start) old start before new)
      → HoldsStore source desk old → NothingFails source desk task input old input new → IsDone s
  report_complete source task s text input old new counted ends holds fails =
      let said = some_there (desk.said old) fails.told in let start = holds.0 in let held = holds.1 in
      report_done s (text start) old start said.0 new
      (none_failed (desk.line_faults old) (desk.line_faults new) counted.says fails.says)
      (none_failed (desk.device_faults old) (desk.device_faults new) counted.device fails.calls)
      (ends held.0 start said.0 held.1 held.2 said.1)

  -- of a drill
  pub drill_done : (s : Status) (count seed : ℕ) (first : D) (start : Store) (before : List ℕ) (now : D)
      → (s ≡ status.SayFault → ⊥) → (s ≡ status.DeviceFault → ⊥)
      → EndsDrill desk s count seed first start before now → IsDone s
  drill_done status.Done count seed first start before now say call ends = inl refl
  drill_done status.NoMemory count seed first start before now say call ends = inr refl
  drill_done status.SayFault count seed first start before now say call ends = absurd (say refl)
  drill_done status.DeviceFault count seed first start before now say call ends = absurd (call refl)
  drill_done status.Usage count seed first start before now say call ends = absurd ends
  drill_done status.ReadFault count seed first start before now say call ends = absurd ends
  drill_done status.NotAStore count seed first start before now say call ends = absurd ends
  drill_done (status.NotEmpty len) count seed first start before now say call ends = absurd ends
  drill_done (status.NotBookmarks at) count seed first start before now say call ends = absurd ends
  drill_done (status.TooLong limit) count seed first start before now say call ends = absurd ends
  drill_done (status.ImportRefused refusal) count seed first start before now say call ends = absurd ends
  drill_done (status.NotBackup fault) count seed first start before now say call ends = absurd ends

  -- of `new` on an empty file
  pub new_done : (s : Status) (old new : D) → desk.held old ≡ Some []
      → (s ≡ status.SayFault → ⊥) → (s ≡ status.DeviceFault → ⊥) → EndsNew desk s old new → IsDone s
  new_done status.Done old new empty say call ends = inl refl
  new_done status.NoMemory old new empty say call ends = inr refl
  new_done status.SayFault old new empty say call ends = absurd (say refl)
  new_done status.DeviceFault old new empty say call ends = absurd (call refl)
  new_done (status.NotEmpty len) old new empty say call ends =
      let none : len ≡ 0 = MatchOption-at_some _ _ [] empty ends.1.counted in
      absurd (omega (arith, none, ends.1.some))
  new_done status.Usage old new empty say call ends = absurd ends
  new_done status.ReadFault old new empty say call ends = absurd ends
  new_done status.NotAStore old new empty say call ends = absurd ends
  new_done (status.NotBookmarks at) old new empty say call ends = absurd ends
  new_done (status.TooLong limit) old new empty say call ends = absurd ends
  new_done (status.ImportRefused refusal) old new empty say call ends = absurd ends
  new_done (status.NotBackup fault) old new empty say call ends = absurd ends
