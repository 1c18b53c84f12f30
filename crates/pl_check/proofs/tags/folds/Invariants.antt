use Rattle.std.proofs.Common.{Bor, ◌≡◌, map, take}
use Rattle.pl_base.specs.Fold.{folded}
use Rattle.pl_base.specs.Store.{Item}
use Rattle.pl_check.proofs.tags.folds.Given as goal

abbrev pub invariant-loop-tag : goal.invariant-loop-tag
invariant-loop-tag l = l.folds.items ≡ map (λ (r : Bor Item). folded r.now.title) (take l.tag-index l.tags)
