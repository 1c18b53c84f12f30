use Rattle.std.proofs.Common.{◌≡◌, [], map, replicate}
use Rattle.std.specs.Vec.{vec_items}
use Rattle.pl_owned.proofs.owned.Owned.none.Given as goal

abbrev pub invariant-loop-number : goal.invariant-loop-number
invariant-loop-number l = map vec_items l.lists.items ≡ replicate l._number []
