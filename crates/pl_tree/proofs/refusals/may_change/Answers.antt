use Rattle.std.proofs.Common.{◌∙◌, ap, not, sym}
use Rattle.pl_base.specs.Rows.{Kept}
use Rattle.pl_tree.proofs.RefusalSteps.{item_fixed, item_free, item_none}
use Rattle.pl_tree.proofs.TreeRows.{told_there}
use Rattle.pl_tree.proofs.refusals.may_change.Goals as goal

pub returns-then-is_none : goal.returns-then-is_none
returns-then-is_none g c =
    let kept : Kept = g.R.Rows.kept c.args.rows.now in
    item_none kept.items c.args.item
    (sym (told_there kept.items c.args.item c.item_at.result c.item_at.ensures.row) ∙ c.is_none.ensures
    ∙ ap not c.if-is_none.true)

pub returns-then-is_fixed : goal.returns-then-is_fixed
returns-then-is_fixed g c =
    let kept : Kept = g.R.Rows.kept c.args.rows.now in
    item_fixed kept.items c.args.item
    (sym (told_there kept.items c.args.item c.item_at.result c.item_at.ensures.row) ∙ c.is_none.ensures
    ∙ ap not c.if-is_none.false)
    (sym c.is_fixed.ensures ∙ c.if-is_fixed.true)

pub returns : goal.returns
returns g c =
    let kept : Kept = g.R.Rows.kept c.args.rows.now in
    item_free kept.items c.args.item
    (sym (told_there kept.items c.args.item c.item_at.result c.item_at.ensures.row) ∙ c.is_none.ensures
    ∙ ap not c.if-is_none.false)
    (sym c.is_fixed.ensures ∙ c.if-is_fixed.false)
