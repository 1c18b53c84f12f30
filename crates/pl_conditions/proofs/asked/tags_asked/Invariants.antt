use Rattle.std.proofs.Common.{◌≡◌, map, take}
use Rattle.pl_base.specs.Fold.{folded}
use Rattle.pl_conditions.proofs.asked.tags_asked.Given as goal

abbrev pub invariant-loop-tag : goal.invariant-loop-tag
invariant-loop-tag l = l.folds.items ≡ map folded (take l.tag-index l.tag-items)
