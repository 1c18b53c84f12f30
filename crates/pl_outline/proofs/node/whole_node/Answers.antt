use Rattle.std.proofs.Common.{◌==◌, ◌∙◌, sym}
use Rattle.pl_base.specs.Store.{Item}
use Rattle.pl_base.specs.Tree.{item_row}
use Rattle.pl_base.proofs.LookUps.{found_where}
use Rattle.pl_history.proofs.PagesTold.{page_there}
use Rattle.pl_outline.proofs.node.whole_node.Goals as goal

pub unwrap-row-requires : goal.unwrap-row-requires
unwrap-row-requires g c =
    found_where (λ (i : Item). i.id.0 == c.args.item.0) (item_row (g.R.Rows.kept c.args.rows.now).items)
    (g.R.Rows.kept c.args.rows.now).items c.item_at.result c.requires.item c.item_at.ensures.row

pub address-requires-clause-page : goal.address-requires-clause-page
address-requires-clause-page g c =
    page_there (g.R.Rows.kept c.args.rows.now) c.args.item c.unwrap-row.result c.requires.good
    (sym c.unwrap-row.ensures ∙ c.item_at.ensures.row)
