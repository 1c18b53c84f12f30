use Rattle.std.proofs.Common.{◌≡◌, drop}
use Rattle.pl_known.specs.Changes.{after}
use Rattle.pl_known.proofs.KnownPages.{OnTheWay}
use Rattle.pl_known.proofs.known.Known.tell_all.Given as goal

abbrev pub invariant-loop-change : goal.invariant-loop-change
invariant-loop-change l =
    (l.self.views ≡ l.initial.self.views)
    × OnTheWay l.self (drop l.change-index l.changes) (after l.changes l.initial.self.views.items)
