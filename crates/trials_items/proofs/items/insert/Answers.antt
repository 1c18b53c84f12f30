use Rattle.std.proofs.Common.{arith}
use Rattle.pl_plain.specs.Flat.{kept_of}
use Rattle.trials_items.proofs.ItemLemmas.{room_for_item}
use Rattle.trials_items.proofs.items.insert.Goals as goal

pub insert_item-requires-clause-live : goal.insert_item-requires-clause-live
insert_item-requires-clause-live g c =
    room_for_item (kept_of c.args.flat.now) c.args.row.now c.args.title.now c.args.after (omega arith)
    (omega (arith, c.live.ensures.live))
