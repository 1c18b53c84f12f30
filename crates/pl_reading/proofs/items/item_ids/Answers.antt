use Rattle.std.proofs.Common.{◌∙◌, arith, get_or, sym}
use Rattle.pl_owned.proofs.OwnersTold.{at_itself}
use Rattle.pl_rail.specs.Rails.{none}
use Rattle.pl_record.specs.Rows.{item_in}
use Rattle.pl_reading.proofs.Zips.{some_more, some_none}
use Rattle.pl_reading.proofs.items.item_ids.Goals as goal

pub returns-in_default-clause-none : goal.returns-in_default-clause-none
returns-in_default-clause-none g c is ids same =
    some_none (item_in c.args.arena.now) c.args.slots.now ids c.loop-slot.slot-index
    (get_or c.args.slots.now c.loop-slot.slot-index none) (omega arith)
    (at_itself c.args.slots.now c.loop-slot.slot-index none (omega arith)) (sym c.item_in.ensures ∙ c.in_default.is)
    same

pub loop-slot-preserved : goal.loop-slot-preserved
loop-slot-preserved g c =
    rw c.in_ok-push.ensures.items
    (some_more (item_in c.args.arena.now) c.args.slots.now c.loop-slot.ids.items c.loop-slot.slot-index
    (get_or c.args.slots.now c.loop-slot.slot-index none) c.in-Some.id (omega arith)
    (at_itself c.args.slots.now c.loop-slot.slot-index none (omega arith)) c.loop-slot.invariant
    (sym c.item_in.ensures ∙ c.in-Some.is))
