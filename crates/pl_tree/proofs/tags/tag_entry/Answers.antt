use Rattle.std.proofs.Common.{◌∙◌, sym}
use Rattle.pl_tree.proofs.TagSteps.{entry_told}
use Rattle.pl_tree.proofs.tags.tag_entry.Goals as goal

pub returns-in-Some : goal.returns-in-Some
returns-in-Some g c =
    c.entry_in.ensures
    ∙ entry_told (g.R.Rows.kept c.args.rows.now).items c.args.page c.args.name.now c.in-Some.folder
    (sym c.in-Some.is ∙ c.in_ok-folder.ensures)
