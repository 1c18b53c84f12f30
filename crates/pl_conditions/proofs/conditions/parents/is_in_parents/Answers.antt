use Rattle.std.proofs.Common.{◌==◌}
use Rattle.pl_base.specs.Store.{Item}
use Rattle.pl_base.specs.Tree.{item_row}
use Rattle.pl_base.proofs.LookUps.{found_where}
use Rattle.pl_conditions.proofs.conditions.parents.is_in_parents.Goals as goal

pub unwrap-requires : goal.unwrap-requires
unwrap-requires g c =
    found_where (λ (i : Item). i.id.0 == c.args.item.0) (item_row (g.R.Rows.kept c.args.rows.now).items)
    (g.R.Rows.kept c.args.rows.now).items c.item_at.result c.requires c.item_at.ensures.row
