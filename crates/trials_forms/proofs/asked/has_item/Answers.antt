use Rattle.std.proofs.Common.{◌==◌}
use Rattle.pl_base.specs.Store.{Item}
use Rattle.pl_base.specs.Tree.{item_row}
use Rattle.pl_base.proofs.LookUps.{there_some}
use Rattle.trials_forms.proofs.asked.has_item.Goals as goal

pub returns : goal.returns
returns g c told =
    there_some (λ (i : Item). i.id.0 == c.args.item.0) (item_row (g.R.Rows.kept c.args.rows.now).items)
    (g.R.Rows.kept c.args.rows.now).items c.item_at.result c.is_some.result c.item_at.ensures.row c.is_some.ensures
    told
