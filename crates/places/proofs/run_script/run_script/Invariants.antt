use Rattle.std.proofs.Common.{◌≡◌, ◌≤◌, ◌-◌, false, take}
use Rattle.pl_base.specs.Live.{slot_limit}
use Rattle.pl_desk.specs.Shown.{ShowsOnly}
use Rattle.pl_desk.specs.Calls.{LeavesFile}
use Rattle.pl_store.specs.Keeper.{IsKept, is_file, keeper_store}
use Rattle.pl_script.specs.Script.{script}
use Rattle.places.specs.Bounded.{WritesFew}
use Rattle.places.specs.Ending.{IfTold}
use Rattle.pl_task.specs.Task.{script_limit}
use Rattle.places.specs.Progress.{ended_entries}
use Rattle.places.specs.Stops.{ShowsAnswered}
use Rattle.places.proofs.EndingLemmas.{IsBehind}
use Rattle.places.proofs.run_script.run_script.Given as goal

-- the bytes read so far are a front of the input, the run stands behind them, a stop since the
-- start shows some of the script's answers, and no more was written than the answers so far may
-- write
abbrev pub invariant-loop-read : goal.invariant-loop-read
invariant-loop-read g l = let input = g.S.Source in let desk = g.D.Desk in let keeper = l.initial.run.keeper in record {
  told : IfTold (input.left l.initial.input) (desk.said l.initial.desk)
      (λ bytes before. IsBehind (keeper_store keeper) l.read bytes before (input.left l.input) l.run
      (desk.said l.desk));
  shows : IfTold (input.left l.initial.input) (desk.said l.initial.desk) (λ bytes before. (first : g.row.D.Denot)
      → IsKept desk keeper first l.initial.desk
      → ShowsOnly desk l.initial.desk l.desk
      (ShowsAnswered desk (is_file keeper) first slot_limit (keeper_store keeper) (script bytes) before));
  writes : IfTold (input.left l.initial.input) (desk.said l.initial.desk) (λ bytes before.
      WritesFew slot_limit (keeper_store keeper) (ended_entries (take l.read bytes)) (desk.written l.initial.desk)
      (desk.written l.desk));
  kind : is_file l.run.keeper ≡ is_file keeper;
  kept : (first : g.row.D.Denot) → IsKept desk keeper first l.initial.desk
      → IsKept desk l.run.keeper first l.desk;
  in_limit : l.read ≤ script_limit;
  no_read_fault : input.faults l.input ≡ input.faults l.initial.input;
  no_say_fault : desk.line_faults l.desk ≡ desk.line_faults l.initial.desk;
  no_device_fault : desk.device_faults l.desk ≡ desk.device_faults l.initial.desk;
  alone : is_file keeper ≡ false → LeavesFile desk l.initial.desk l.desk;
}

abbrev pub decreases-loop-read : goal.decreases-loop-read
decreases-loop-read g l = script_limit - l.read
