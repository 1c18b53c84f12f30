use Rattle.pl_editing.proofs.ItemTitled.{old_slots, retitled_slots}
use Rattle.pl_editing.proofs.change.slots_after.Goals as goal

pub overflow_sub-result : goal.overflow_sub-result
overflow_sub-result g c =
    old_slots (g.R.Rows.kept c.args.rows.now) c.args.item c.in_ok-old.old c.as_str.result.now c.live.result
    c.chunks.result (g.met.R.Rows.well_kept c.args.rows.now) c.in_ok-old.ensures.title c.as_str.ensures
    c.live.ensures.live c.chunks.ensures

pub returns : goal.returns
returns g c date =
    retitled_slots (g.R.Rows.kept c.args.rows.now) c.args.item c.args.title.now c.in_ok-old.old c.as_str.result.now date
    c.live.result c.chunks.result c.chunks-2.result (g.met.R.Rows.well_kept c.args.rows.now)
    c.in_ok-old.ensures.title c.as_str.ensures c.live.ensures.live c.chunks.ensures c.chunks-2.ensures
