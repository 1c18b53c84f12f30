use Rattle.std.proofs.Common.{arith, get_or}
use Rattle.pl_owned.proofs.OwnersTold.{at_itself, zip_more}
use Rattle.pl_rail.specs.Rails.{none}
use Rattle.pl_reading.specs.Live.{HoldsItem}
use Rattle.pl_reading.proofs.rows.read_items.Goals as goal

pub loop-slot-preserved : goal.loop-slot-preserved
loop-slot-preserved g c =
    rw c.in_ok-push.ensures.items
    (zip_more (HoldsItem c.args.arena.now) c.args.slots.now c.loop-slot.items.items c.loop-slot.slot-index
    (get_or c.args.slots.now c.loop-slot.slot-index none) c.read_item.result (omega arith)
    (at_itself c.args.slots.now c.loop-slot.slot-index none (omega arith)) c.loop-slot.invariant
    c.read_item.ensures.row)
