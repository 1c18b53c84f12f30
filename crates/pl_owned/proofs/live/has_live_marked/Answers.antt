use Rattle.std.proofs.Common.{arith}
use Rattle.pl_owned.proofs.Marks.{live_below, live_from_one}
use Rattle.pl_owned.proofs.live.has_live_marked.Goals as goal

pub loop-slot-init : goal.loop-slot-init
loop-slot-init g c =
    record {
      marked = λ n live low. absurd (omega (arith, low, live_from_one n c.args.arena.now live));
      some = omega arith;
      few = omega arith;
    }

pub returns-clause-yes : goal.returns-clause-yes
returns-clause-yes g c is n live =
    c.loop-slot.invariant.marked n live
    (omega (arith, live_below n c.args.arena.now live, c.slot_count-slot-end.ensures.count, c.loop-slot-test.false))
