use Rattle.std.proofs.Common.{arith}
use Rattle.pl_slot.proofs.Grown.{link_on}
use Rattle.pl_slot.proofs.taking.link.Goals as goal

pub overflow_add-slot-end : goal.overflow_add-slot-end
overflow_add-slot-end c = omega (arith, c.requires.arena.few, c.requires.arena.starts)

pub loop-slot-preserved : goal.loop-slot-preserved
loop-slot-preserved c =
    record {
      from = omega arith;
      linked =
          link_on c.loop-slot.slot c.args.first c.args.sheets.now c.loop-slot.sheets c.put_row.new.sheets
          c.requires.arena c.loop-slot.invariant.from (omega arith) c.loop-slot.invariant.linked
          (omega (arith, c.requires.arena.few, c.requires.arena.starts)) c.put_row.ensures;
    }
