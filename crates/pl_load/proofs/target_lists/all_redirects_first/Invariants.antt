use Rattle.std.proofs.Common.{take}
use Rattle.std.specs.List.{All}
use Rattle.pl_owned.specs.Redirects.{HasRedirectsFirst}
use Rattle.pl_load.proofs.target_lists.all_redirects_first.Given as goal

abbrev pub invariant-loop-slots : goal.invariant-loop-slots
invariant-loop-slots g l = All (λ s. HasRedirectsFirst s.items l.arena) (take l.slots-index l.lists)
