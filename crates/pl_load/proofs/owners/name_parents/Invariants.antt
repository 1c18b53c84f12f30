use Rattle.std.proofs.Common.{◌≡◌, take, true}
use Rattle.std.specs.List.{list_all}
use Rattle.pl_load.specs.Owners.{names_parent}
use Rattle.pl_load.proofs.owners.name_parents.Given as goal

abbrev pub invariant-loop-item : goal.invariant-loop-item
invariant-loop-item g l = list_all (names_parent l.arena) (take l.item-index l.items) ≡ true
