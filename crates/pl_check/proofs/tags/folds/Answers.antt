use Rattle.std.proofs.Common.{Bor, ◌∙◌, ap, arith, map, sym}
use Rattle.std.proofs.lemmas.List.{take_all}
use Rattle.pl_base.specs.Fold.{folded}
use Rattle.pl_base.specs.Store.{Item}
use Rattle.pl_base.proofs.ListLaws.{map-map}
use Rattle.pl_check.proofs.tags.folds.Goals as goal

pub returns : goal.returns
returns c =
    c.loop-tag.invariant
    ∙ ap (map (λ (r : Bor Item). folded r.now.title)) (take_all c.loop-tag.tag-index c.args.tags.now (omega arith))
    ∙ sym (map-map (λ (i : Item). folded i.title) (λ (r : Bor Item). r.now) c.args.tags.now)
