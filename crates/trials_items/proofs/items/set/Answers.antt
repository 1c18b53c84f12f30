use Rattle.std.proofs.Common.{◌∙◌, ap, arith, length, sym}
use Rattle.std.specs.Result.{result_ok}
use Rattle.pl_plain.specs.Flat.{kept_of}
use Rattle.pl_base.proofs.ItemLookUps.{item_there}
use Rattle.trials_items.proofs.ItemLemmas.{room_for_name}
use Rattle.trials_items.proofs.items.set.Goals as goal

pub set_item-requires-clause-item : goal.set_item-requires-clause-item
set_item-requires-clause-item g c =
    item_there (kept_of c.args.flat.now).items c.args.item c.in_ok-ok_or.field-0
    (ap result_ok (sym c.in_ok-ok_or.was) ∙ sym c.ok_or.ensures.ok_part ∙ c.item_at.ensures.row)

pub set_item-requires-clause-live : goal.set_item-requires-clause-live
set_item-requires-clause-live g c =
    room_for_name (kept_of c.args.flat.now) (length c.args.flat.now.totals.items) c.args.flat.now.live c.args.item
    c.args.title.now c.args.modified c.in_ok-ok_or.field-0 c.args.flat.now.rows
    (ap result_ok (sym c.in_ok-ok_or.was) ∙ sym c.ok_or.ensures.ok_part ∙ c.item_at.ensures.row) (omega arith)
    (omega (arith, c.live.ensures.live))
