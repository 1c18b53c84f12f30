use Rattle.std.proofs.Common.{◌∙◌, sym}
use Rattle.pl_tree.proofs.TreeRows.{no_parent}
use Rattle.pl_tree.proofs.ancestors.parent.Goals as goal
use Rattle.pl_base.proofs.ItemLookUps.{parent_told}

pub returns-in_err-item_at : goal.returns-in_err-item_at
returns-in_err-item_at g c =
    c.from_residual.ensures ∙ sym (no_parent (g.R.Rows.kept c.args.rows.now).items c.args.item c.requires.tree
    (sym c.in_err-item_at.was ∙ c.item_at.ensures.row))

pub returns : goal.returns
returns g c =
    parent_told (g.R.Rows.kept c.args.rows.now).items c.args.item c.in_ok-item_at.field-0
    (sym c.in_ok-item_at.was ∙ c.item_at.ensures.row)
