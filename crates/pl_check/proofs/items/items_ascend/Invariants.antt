use Rattle.std.proofs.Common.{◌≡◌, drop}
use Rattle.pl_base.specs.Touched.{ascends_above}
use Rattle.pl_check.specs.Items.{item_ids}
use Rattle.pl_check.proofs.items.items_ascend.Given as goal

abbrev pub invariant-loop-item : goal.invariant-loop-item
invariant-loop-item l =
    ascends_above 0 (item_ids l.items) ≡ ascends_above l.last (item_ids (drop l.item-index l.items))
