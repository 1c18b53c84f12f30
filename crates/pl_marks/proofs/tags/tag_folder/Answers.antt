use Rattle.std.proofs.Common.{◌∙◌, sym}
use Rattle.pl_marks.proofs.TagTree.{has_parent}
use Rattle.pl_marks.proofs.tags.tag_folder.Goals as goal

pub parent-requires-2 : goal.parent-requires-2
parent-requires-2 g c =
    has_parent (g.R.Rows.kept c.args.rows.now) c.args.item c.in_ok-folder.folder
    (g.met.R.Rows.well_kept c.args.rows.now) (sym c.parent.ensures.parent ∙ c.in_ok-folder.was)
