use Rattle.std.proofs.Common.{◌==◌, ◌∙◌, sym}
use Rattle.std.proofs.lemmas.Bool.{false≢true}
use Rattle.pl_base.specs.Store.{Item}
use Rattle.pl_base.specs.Tree.{item_row}
use Rattle.pl_base.proofs.ItemLookUps.{parent_told}
use Rattle.pl_base.proofs.LookUps.{found_where}
use Rattle.pl_marks.proofs.tags.parent.Goals as goal

pub returns-in_err-item_at : goal.returns-in_err-item_at
returns-in_err-item_at g c =
    absurd (false≢true (rw c.in_err-item_at.was at (found_where (λ (i : Item). i.id.0 == c.args.item.0)
    (item_row (g.R.Rows.kept c.args.rows.now).items) (g.R.Rows.kept c.args.rows.now).items c.item_at.result c.requires
    c.item_at.ensures.row)))

pub returns-clause-parent : goal.returns-clause-parent
returns-clause-parent g c =
    parent_told (g.R.Rows.kept c.args.rows.now).items c.args.item c.in_ok-item_at.field-0
    (sym c.in_ok-item_at.was ∙ c.item_at.ensures.row)
