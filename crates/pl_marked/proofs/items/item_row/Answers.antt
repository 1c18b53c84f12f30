use Rattle.std.proofs.Common.{◌==◌, ◌∙◌, sym}
use Rattle.pl_base.specs.Store.{Item}
use Rattle.pl_base.specs.Tree as tree
use Rattle.pl_base.proofs.LookUps.{found_where}
use Rattle.pl_query.proofs.RowsShown.{item_is}
use Rattle.pl_marked.proofs.items.item_row.Goals as goal

pub unwrap-requires : goal.unwrap-requires
unwrap-requires g c =
    found_where (λ (i : Item). i.id.0 == c.args.item.0) (tree.item_row (g.R.Rows.kept c.args.rows.now).items)
    (g.R.Rows.kept c.args.rows.now).items c.item_at.result c.requires c.item_at.ensures.row

pub returns : goal.returns
returns g c i at =
    item_is (g.R.Rows.kept c.args.rows.now).items c.args.item i c.unwrap.result at
    (sym c.unwrap.ensures ∙ c.item_at.ensures.row)
