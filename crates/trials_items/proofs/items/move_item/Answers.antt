use Rattle.std.proofs.Common.{◌∙◌, ap, sym}
use Rattle.std.specs.Result.{result_ok}
use Rattle.pl_plain.specs.Flat.{kept_of}
use Rattle.pl_base.proofs.ItemLookUps.{item_there}
use Rattle.trials_items.proofs.items.move_item.Goals as goal

pub move_item-requires-clause-item : goal.move_item-requires-clause-item
move_item-requires-clause-item g c =
    item_there (kept_of c.args.flat.now).items c.args.item c.in_ok-ok_or.field-0
    (ap result_ok (sym c.in_ok-ok_or.was) ∙ sym c.ok_or.ensures.ok_part ∙ c.item_at.ensures.row)
