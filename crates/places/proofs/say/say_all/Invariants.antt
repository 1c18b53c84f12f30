use Rattle.std.proofs.Common.{◌≡◌, ◌≤◌, ◌-◌, ℕ, List, Some, length, take}
use Rattle.pl_desk.specs.Shown.{ShowsOnly}
use Rattle.pl_desk.specs.Calls.{LeavesFile}
use Rattle.places.specs.Said.{Says}
use Rattle.places.specs.Stops.{ShowsFront}
use Rattle.places.proofs.say.say_all.Given as goal

-- the bytes said so far are a front
abbrev pub invariant-loop-said : goal.invariant-loop-said
invariant-loop-said g l = let desk = g.D.Desk in record {
  within : l.said ≤ length l.bytes;
  front : Says (desk.said l.initial.desk) (take l.said l.bytes) (desk.said l.desk);
  shows : (before : List ℕ) → desk.said l.initial.desk ≡ Some before
      → ShowsOnly desk l.initial.desk l.desk (ShowsFront desk l.initial.desk before l.bytes);
  no_fault : desk.line_faults l.desk ≡ desk.line_faults l.initial.desk;
  file : LeavesFile desk l.initial.desk l.desk;
}

abbrev pub decreases-loop-said : goal.decreases-loop-said
decreases-loop-said g l = length l.bytes - l.said
