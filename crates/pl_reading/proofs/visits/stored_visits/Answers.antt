use Rattle.std.proofs.Common.{arith, refl}
use Rattle.pl_owned.proofs.OwnersTold.{at_itself, zip_more}
use Rattle.pl_reading.specs.Read.{IsVisitRead}
use Rattle.pl_reading.proofs.Zips.{zip_none}
use Rattle.pl_reading.proofs.visits.stored_visits.Goals as goal

pub returns-in_default-clause-none : goal.returns-in_default-clause-none
returns-in_default-clause-none g c none stored zip =
    zip_none (IsVisitRead c.args.arena.now) c.args.visits.now stored c.loop-visit.visit-index _ (omega arith)
    (at_itself c.args.visits.now c.loop-visit.visit-index _ (omega arith))
    (λ visit is. c.in_default.ensures.none refl visit is) zip

pub loop-visit-preserved : goal.loop-visit-preserved
loop-visit-preserved g c =
    rw c.in_ok-push.ensures.items
    (zip_more (IsVisitRead c.args.arena.now) c.args.visits.now c.loop-visit.stored.items c.loop-visit.visit-index _
    c.in-Some.visit (omega arith) (at_itself c.args.visits.now c.loop-visit.visit-index _ (omega arith))
    c.loop-visit.invariant c.in-Some.ensures.read)
