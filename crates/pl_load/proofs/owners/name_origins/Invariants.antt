use Rattle.std.proofs.Common.{◌≡◌, take, true}
use Rattle.std.specs.List.{list_all}
use Rattle.pl_load.specs.Owners.{names_origin}
use Rattle.pl_load.proofs.owners.name_origins.Given as goal

abbrev pub invariant-loop-place : goal.invariant-loop-place
invariant-loop-place g l = list_all (names_origin l.arena) (take l.place-index l.places) ≡ true
