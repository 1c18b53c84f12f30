use Rattle.std.proofs.Common.{◌≡◌, ◌∙◌, ap, map, subst, sym}
use Rattle.std.specs.List.Sorted.{IsStrictlyIncreasing}
use Rattle.pl_base.proofs.ListLaws.{map-map}
use Rattle.pl_items.specs.TakenOut.{waiting_ids, waiting_row}
use Rattle.pl_items.proofs.PlantEnds.{item_key}
use Rattle.pl_items.proofs.WaitingRows.{waiting_key}
use Rattle.pl_items.proofs.items.Items.planted.Goals as goal

pub plant-requires-clause-ascending : goal.plant-requires-clause-ascending
plant-requires-clause-ascending c =
    let ids : waiting_ids c.in_ok-waiting_rows.field-0.items ≡ map item_key c.args.items.items =
    ap waiting_ids c.in_ok-waiting_rows.ensures ∙ map-map waiting_key waiting_row c.args.items.items
    in
    subst IsStrictlyIncreasing (sym ids) c.requires.ascending
