use Rattle.std.proofs.Common.{arith, subst}
use Rattle.std.specs.List.{All}
use Rattle.std.proofs.lemmas.List.{take_all}
use Rattle.std.proofs.lemmas.List.Elements.{All-more}
use Rattle.pl_record.specs.Chains.{IsAlone}
use Rattle.pl_rail.specs.Rails.{none}
use Rattle.pl_owned.proofs.alone.are_alone.Goals as goal

pub loop-slot-preserved : goal.loop-slot-preserved
loop-slot-preserved g c =
    record {
      alone =
          All-more (λ s. IsAlone c.args.rail s c.args.arena.now) c.args.slots.now c.loop-slot.slot-index none
          (omega arith) c.loop-slot.invariant.alone (c.is_alone.ensures.yes c.if-not-is_alone.false);
      few = omega (arith, c.loop-slot.invariant.few, c.is_alone.ensures.counted);
    }

pub returns-clause-yes : goal.returns-clause-yes
returns-clause-yes g c is =
    subst (All (λ s. IsAlone c.args.rail s c.args.arena.now))
    (take_all c.loop-slot.slot-index c.args.slots.now (omega arith)) c.loop-slot.invariant.alone
