-- How the errors of the gate and of the check end an opening.
use Rattle.pl_base.specs.declared.check_error.CheckError.{CheckError}
use Rattle.pl_base.specs.declared.check_error.CheckError.TheVariants.{NoMemory, NotAStore}
use Rattle.pl_gate.specs.declared.error.GateError.{GateError}
use Rattle.pl_gate.specs.declared.error.GateError.TheVariants.{BadGate, DeviceFault}
use Rattle.pl_store.specs.declared.ended.Ended.{Ended}
use Rattle.pl_store.specs.declared.ended.Ended.TheVariants as ended

-- an error of the gate as the opening's end
abbrev pub ended_by_gate : GateError → Ended
ended_by_gate BadGate = ended.NotAStore
ended_by_gate DeviceFault = ended.DeviceFault

-- an error of the check as the opening's end
abbrev pub ended_by_check : CheckError → Ended
ended_by_check NotAStore = ended.NotAStore
ended_by_check NoMemory = ended.NoMemory
