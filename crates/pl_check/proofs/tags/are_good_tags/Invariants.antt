use Rattle.std.proofs.Common.{Bor, take}
use Rattle.std.specs.List.{All}
use Rattle.pl_base.specs.Store.{Item}
use Rattle.pl_check.specs.Tags as good
use Rattle.pl_check.proofs.tags.are_good_tags.Given as goal

abbrev pub invariant-loop-tag : goal.invariant-loop-tag
invariant-loop-tag l = All (λ (r : Bor Item). good.IsGoodTag l.items r.now) (take l.tag-index l.tags)
