use Rattle.std.proofs.Common.{◌∙◌}
use Rattle.std.proofs.lemmas.Bool.{false≢true}
use Rattle.pl_tree.proofs.TreeRows.{told_there}
use Rattle.pl_tree.proofs.tags.is_of_page.Goals as goal

pub returns-in-None : goal.returns-in-None
returns-in-None g c =
    absurd (false≢true (rw c.in-None.is at
    (told_there (g.R.Rows.kept c.args.rows.now).items c.args.item c.item_at.result c.item_at.ensures.row)
    ∙ c.requires))
