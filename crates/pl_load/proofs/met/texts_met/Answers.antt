use Rattle.std.proofs.Common.{arith, refl}
use Rattle.pl_load.proofs.MetTexts.{too_many}
use Rattle.pl_load.proofs.met.texts_met.Goals as goal

pub returns-in_default-clause-none : goal.returns-in_default-clause-none
returns-in_default-clause-none g c is held distinct =
    too_many c.args.arena.now c.args.texts.now held distinct
    (omega (arith, c.in_default.ensures.none refl, c.pages.ensures.arena.few))

pub returns-then-wanted-count-clause-none : goal.returns-then-wanted-count-clause-none
returns-then-wanted-count-clause-none g c is held distinct =
    too_many c.args.arena.now c.args.texts.now held distinct
    (omega (arith, c.in-Some.ensures.sum, c.if-wanted-count.true, c.pages.ensures.count))
