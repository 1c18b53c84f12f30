use Rattle.std.proofs.Common.{subst, sym}
use Rattle.std.specs.List.{All}
use Rattle.pl_base.specs.Good.{IsTagName}
use Rattle.pl_base.specs.Rows.{store_of}
use Rattle.pl_marks.proofs.TagNames.{names_of_tags}
use Rattle.pl_marks.proofs.tags.page_tags.Goals as goal

pub named-requires : goal.named-requires
named-requires g c =
    subst (All IsTagName) (sym c.in_ok-tags.ensures)
    (names_of_tags (store_of (g.R.Rows.kept c.args.rows.now)) c.args.page c.requires.tags)
