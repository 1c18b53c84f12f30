use Rattle.std.proofs.Common.{◌==◌}
use Rattle.pl_base.specs.Store.{Item}
use Rattle.pl_base.specs.Tree.{item_row}
use Rattle.pl_base.proofs.LookUps.{there_ok}
use Rattle.rows_main.proofs.known.known_item.Goals as goal

pub returns : goal.returns
returns g c =
    there_ok (λ (i : Item). i.id.0 == c.args.item.0) (item_row (g.R.Rows.kept c.args.rows.now).items)
    (g.R.Rows.kept c.args.rows.now).items c.item_at.result c.ok_or.result c.item_at.ensures.row c.ok_or.ensures.ok_part
