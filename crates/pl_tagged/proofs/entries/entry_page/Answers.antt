use Rattle.std.proofs.Common.{◌∙◌}
use Rattle.pl_base.specs.Tree.{item_at}
use Rattle.pl_tagged.proofs.EntryWalk.{no_page, page_told}
use Rattle.pl_tagged.proofs.entries.entry_page.Goals as goal

pub returns-in_err-item_at : goal.returns-in_err-item_at
returns-in_err-item_at g c =
    c.from_residual.ensures
    ∙ no_page (g.R.Rows.kept c.args.rows.now).items (item_at (g.R.Rows.kept c.args.rows.now).items c.args.entry)
    c.item_at.result c.item_at.ensures.row c.in_err-item_at.was

pub returns : goal.returns
returns g c =
    page_told (g.R.Rows.kept c.args.rows.now).items (item_at (g.R.Rows.kept c.args.rows.now).items c.args.entry)
    c.item_at.result c.item_at.ensures.row c.in_ok-item_at.field-0 c.in_ok-item_at.was
