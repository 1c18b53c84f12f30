use Rattle.pl_owned.proofs.OneOrder.{not_listed, wanted_listed}
use Rattle.pl_rail.specs.declared.owner.Owner.TheVariants.{At}
use Rattle.pl_owned.proofs.in_order.is_listed.Goals as goal

pub returns-in-Some-clause-yes : goal.returns-in-Some-clause-yes
returns-in-Some-clause-yes g c =
    wanted_listed c.args.rail (At c.args.owner) c.as_slice.result.now c.args.wanted.now c.args.arena.now c.eq.result
    c.eq.ensures (rw c.as_slice.ensures.value (rw c.in-Some.is at c.in_ok-found.ensures.found))

pub returns-in-Some-clause-no : goal.returns-in-Some-clause-no
returns-in-Some-clause-no g c =
    not_listed c.args.rail (At c.args.owner) c.as_slice.result.now c.args.wanted.now c.args.arena.now c.eq.result
    c.eq.ensures (rw c.as_slice.ensures.value (rw c.in-Some.is at c.in_ok-found.ensures.found))
