use Rattle.std.proofs.Common.{arith, sym}
use Rattle.std.proofs.lemmas.Bool.Decides.{nat_tests}
use Rattle.trials_views.proofs.InOrder.{all_behind}
use Rattle.trials_views.proofs.places.is_behind.Goals as goal

pub returns : goal.returns
returns c below =
    all_behind c.args.views.now c.args.count c.args.id.0 c.index-views-count.result c.requires.order c.requires.count
    (omega (arith, c.if-count-eq0.false)) (sym c.index-views-count.is) (grind (arith, nat_tests, below))
