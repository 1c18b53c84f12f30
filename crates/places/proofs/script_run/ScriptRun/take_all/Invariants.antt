use Rattle.std.proofs.Common.{◌≡◌}
use Rattle.places.proofs.PieceLemmas.{Taken}
use Rattle.places.proofs.script_run.ScriptRun.take_all.Given as goal

-- so many bytes of the piece are taken, and no call failed
abbrev pub invariant-loop-byte : goal.invariant-loop-byte
invariant-loop-byte g l = let desk = g.D.Desk in record {
  taken : Taken desk l.initial.run l.piece l.byte-index l.run l.initial.desk l.desk;
  no_say_fault : desk.line_faults l.desk ≡ desk.line_faults l.initial.desk;
  no_device_fault : desk.device_faults l.desk ≡ desk.device_faults l.initial.desk;
}
