use Rattle.std.proofs.Common.{◌∙◌, sym}
use Rattle.pl_tree.proofs.TreeRows.{told_there}
use Rattle.pl_tree.proofs.removal.remove_leaf.Goals as goal
use Rattle.pl_base.proofs.ItemLookUps.{parent_told}

pub unwrap-row-requires : goal.unwrap-row-requires
unwrap-row-requires g c =
    told_there (g.R.Rows.kept c.args.rows.now).items c.args.leaf c.item_at.result c.item_at.ensures.row
    ∙ c.requires.there

pub returns-clause-parent : goal.returns-clause-parent
returns-clause-parent g c =
    parent_told (g.R.Rows.kept c.args.rows.now).items c.args.leaf c.unwrap-row.result
    (sym c.unwrap-row.ensures ∙ c.item_at.ensures.row)
