use Rattle.std.proofs.Common.{◌≤◌, ◌+◌, take}
use Rattle.std.specs.List.{All, sum_by}
use Rattle.pl_owned.specs.Owned.{owned_by, reads}
use Rattle.pl_rail.specs.declared.owner.Owner.TheVariants.{At}
use Rattle.pl_rail.specs.Rails.{Lists}
use Rattle.pl_owned.proofs.in_order.are_listed.Given as goal

abbrev pub invariant-loop-owner : goal.invariant-loop-owner
invariant-loop-owner g l =
    record {
      lists : All (λ o. Lists l.rail (At o) (owned_by l.members o) l.arena) (take l.owner-index l.owners);
      few : l.steps ≤ l.initial.steps + sum_by (reads l.members) (take l.owner-index l.owners);
    }
