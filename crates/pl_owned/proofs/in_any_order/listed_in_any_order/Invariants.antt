use Rattle.std.proofs.Common.{◌≤◌, ◌+◌, map, take}
use Rattle.std.specs.List.{AllZip, sum_by}
use Rattle.std.specs.Vec.{vec_items}
use Rattle.pl_owned.specs.Owned.{IsListed, reads}
use Rattle.pl_owned.proofs.in_any_order.listed_in_any_order.Given as goal

abbrev pub invariant-loop-owner : goal.invariant-loop-owner
invariant-loop-owner g l =
    record {
      lists :
          AllZip (IsListed l.rail l.members l.arena) (take l.owner-index l.owners) (map vec_items l.lists.items);
      few : l.steps ≤ l.initial.steps + sum_by (reads l.members) (take l.owner-index l.owners);
    }
