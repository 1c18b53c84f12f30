use Rattle.std.proofs.Common.{◌∙◌, sym}
use Rattle.pl_marks.proofs.TagTree.{has_folder}
use Rattle.pl_marks.proofs.tags.add_tag.Goals as goal

pub item_title-requires : goal.item_title-requires
item_title-requires g c =
    has_folder (g.R.Rows.kept c.args.rows.now) c.args.item c.in-Some.folder (g.met.R.Rows.well_kept c.args.rows.now)
    (sym c.tag_folder.ensures.folder ∙ c.in-Some.is)
