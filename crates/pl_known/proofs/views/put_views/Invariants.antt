use Rattle.std.proofs.Common.{◌≡◌, drop}
use Rattle.pl_follow.specs.Changes.{AreInOrder}
use Rattle.pl_known.specs.Passes.{all_put}
use Rattle.pl_known.proofs.views.put_views.Given as goal

abbrev pub invariant-loop-change : goal.invariant-loop-change
invariant-loop-change l =
    AreInOrder l.views.items
    × (all_put (drop l.change-index l.changes) l.views.items ≡ all_put l.changes l.initial.views.items)
