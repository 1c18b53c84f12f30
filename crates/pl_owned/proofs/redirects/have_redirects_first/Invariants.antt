use Rattle.std.proofs.Common.{◌≤◌, ◌+◌, take}
use Rattle.pl_owned.specs.Redirects.{holds_redirect}
use Rattle.pl_owned.proofs.RedirectFronts.{IsSplit}
use Rattle.pl_owned.proofs.redirects.have_redirects_first.Given as goal

abbrev pub invariant-loop-slot : goal.invariant-loop-slot
invariant-loop-slot g l =
    record {
      split : IsSplit (holds_redirect l.arena) (take l.slot-index l.slots) l.all_so_far;
      few : l.steps ≤ l.initial.steps + l.slot-index;
    }
