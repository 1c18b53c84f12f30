use Rattle.std.proofs.Common.{arith, sym}
use Rattle.std.proofs.lemmas.Bool.Decides.{nat_tests}
use Rattle.trials_views.proofs.InOrder.{all_before}
use Rattle.trials_views.proofs.places.is_before.Goals as goal

pub returns : goal.returns
returns c above =
    all_before c.args.views.now c.args.place c.args.id.0 c.index-views-place.result c.requires.order
    (omega (arith, c.requires.place, c.if-place-views.false)) (sym c.index-views-place.is)
    (grind (arith, nat_tests, above))
