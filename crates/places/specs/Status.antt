-- Exit statuses.
use Rattle.std.specs.Prelude.{◌≡◌, ⊤, ℕ, Option, Some, None, Result, Ok, Err}
use Rattle.pl_backup.specs.BackupTree.{fault_number}
use Rattle.pl_base.specs.Refusal.{refusal_number}
use Rattle.pl_intake.specs.declared.error.IntakeError.{IntakeError}
use Rattle.pl_intake.specs.declared.error.IntakeError.TheVariants as intake
use Rattle.pl_store.specs.declared.ended.Ended.{Ended}
use Rattle.pl_store.specs.declared.ended.Ended.TheVariants as ended
use Rattle.places.specs.declared.answer_error.AnswerError.{AnswerError}
use Rattle.places.specs.declared.answer_error.AnswerError.TheVariants as answer
use Rattle.places.specs.declared.status.Status.{Status}
use Rattle.places.specs.declared.status.Status.TheVariants.{Done, Usage, ReadFault, SayFault}
use Rattle.places.specs.declared.status.Status.TheVariants.{DeviceFault, NoMemory, NotAStore}
use Rattle.places.specs.declared.status.Status.TheVariants.{NotEmpty, NotBookmarks, TooLong}
use Rattle.places.specs.declared.status.Status.TheVariants.{ImportRefused, NotBackup}
use Rattle.places.specs.declared.stop.Stop.{Stop}
use Rattle.places.specs.declared.stop.Stop.TheVariants as stop
use Rattle.pl_task.specs.Task.{script_limit}

-- the exit status of the program
abbrev pub status_number : Status → ℕ
status_number Done = 0
status_number Usage = 2
status_number ReadFault = 3
status_number SayFault = 4
status_number DeviceFault = 5
status_number NoMemory = 6
status_number NotAStore = 7
status_number (NotEmpty len) = 8
status_number (NotBookmarks at) = 9
status_number (TooLong read) = 10
status_number (ImportRefused refusal) = 11
status_number (NotBackup fault) = 13

-- the number that a status tells besides
abbrev pub status_value : Status → Option ℕ
status_value Done = None
status_value Usage = None
status_value ReadFault = None
status_value SayFault = None
status_value DeviceFault = None
status_value NoMemory = None
status_value NotAStore = None
status_value (NotEmpty len) = Some len
status_value (NotBookmarks at) = Some at
status_value (TooLong read) = Some read
status_value (ImportRefused refusal) = Some (refusal_number refusal)
status_value (NotBackup fault) = Some (fault_number fault)

-- the status of a run that stopped
abbrev pub EndsIn : Stop → Status → Type 0
EndsIn stop.ReadFault status = status ≡ ReadFault
EndsIn stop.SayFault status = status ≡ SayFault
EndsIn stop.DeviceFault status = status ≡ DeviceFault
EndsIn stop.NoMemory status = status ≡ NoMemory
EndsIn stop.TooLong status = status ≡ TooLong script_limit

-- the status of a run
abbrev pub EndsAs : Result ⊤ Stop → Status → Type 0
EndsAs (Ok done) status = status ≡ Done
EndsAs (Err stop) status = EndsIn stop status

-- the status of a run whose file gave no session
abbrev pub without_session : Ended → Status
without_session ended.DeviceFault = DeviceFault
without_session ended.NoMemory = NoMemory
without_session ended.NotAStore = NotAStore
without_session (ended.NotEmpty len) = NotEmpty len

-- the status of an intake whose input holds no tree
abbrev pub intake_status : IntakeError → Status
intake_status (intake.NotBookmarks at) = NotBookmarks at
intake_status (intake.NotBackup fault) = NotBackup fault
intake_status intake.NoMemory = NoMemory

-- the status of an intake whose answer failed
abbrev pub answer_status : AnswerError → Status
answer_status answer.SayFault = SayFault
answer_status answer.DeviceFault = DeviceFault
answer_status answer.NoMemory = NoMemory

-- the status that an intake stopped with, or Done
abbrev pub done_or : Result ⊤ Status → Status
done_or (Ok done) = Done
done_or (Err status) = status
