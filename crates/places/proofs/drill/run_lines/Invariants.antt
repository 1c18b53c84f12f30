use Rattle.std.proofs.Common.{◌≡◌, ℕ, List, Some, true}
use Rattle.pl_base.specs.Live.{slot_limit}
use Rattle.pl_desk.specs.Calls.{KeepsLine}
use Rattle.pl_desk.specs.Shown.{AtAnyMoment}
use Rattle.pl_store.specs.Keeper.{IsKept, is_file, keeper_limit, keeper_store}
use Rattle.places.specs.Drilling.{StandsForSome, drilled, so_far}
use Rattle.places.specs.Progress.{StaysKept}
use Rattle.places.proofs.drill.run_lines.Given as goal

-- the drill stands behind the lines so far, and its keeper's file holds their store
abbrev pub invariant-loop-number : goal.invariant-loop-number
invariant-loop-number g l = let desk = g.D.Desk in let keeper = l.initial.drilling.keeper in record {
  done : so_far l.drilling ≡ drilled (keeper_store keeper) l.seed l.number;
  limit : keeper_limit l.drilling.keeper ≡ slot_limit;
  file : is_file l.drilling.keeper ≡ true;
  kept : StaysKept desk keeper l.initial.desk l.drilling.keeper l.desk;
  any_moment : (first : g.row.D.Denot) (before : List ℕ) → desk.said l.initial.desk ≡ Some before
      → IsKept desk keeper first l.initial.desk
      → AtAnyMoment desk l.initial.desk l.desk (StandsForSome l.count l.seed (keeper_store keeper));
  line : KeepsLine desk l.initial.desk l.desk;
  no_fault : desk.device_faults l.desk ≡ desk.device_faults l.initial.desk;
}
