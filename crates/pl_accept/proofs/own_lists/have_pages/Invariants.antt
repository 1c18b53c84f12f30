use Rattle.std.proofs.Common.{◌≡◌, take, true}
use Rattle.std.specs.List.{list_all}
use Rattle.pl_accept.specs.OwnLists.{names_first}
use Rattle.pl_accept.proofs.own_lists.have_pages.Given as goal

abbrev pub invariant-loop-origin : goal.invariant-loop-origin
invariant-loop-origin g l = list_all (names_first l.arena) (take l.origin-index l.origins) ≡ true
