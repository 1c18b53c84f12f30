use Rattle.std.proofs.Common.{◌==◌, ◌∙◌, Some, ap, false, is_some, sym, true}
use Rattle.pl_base.specs.Store.{Item}
use Rattle.pl_base.specs.Tree.{item_row}
use Rattle.pl_base.proofs.LookUps.{found_where}
use Rattle.pl_marks.specs.declared.bookmarks.Dated.{Dated}
use Rattle.pl_marks.proofs.FreshestItem.{bookmark_is, dated_by_row}
use Rattle.pl_marks.proofs.bookmarks.dated_bookmark.Goals as goal

pub returns-then-is_some : goal.returns-then-is_some
returns-then-is_some g c i at =
    sym (bookmark_is (g.R.Rows.kept c.args.rows.now).items c.args.item i true at
    (ap is_some (sym c.tag_folder.ensures.folder) ∙ sym c.is_some.ensures ∙ c.if-is_some.true))

pub unwrap-row-requires : goal.unwrap-row-requires
unwrap-row-requires g c =
    found_where (λ (i : Item). i.id.0 == c.args.item.0) (item_row (g.R.Rows.kept c.args.rows.now).items)
    (g.R.Rows.kept c.args.rows.now).items c.item_at.result c.requires c.item_at.ensures.row

pub returns : goal.returns
returns g c i at =
    ap (λ (d : Dated). Some d)
    (dated_by_row (g.R.Rows.kept c.args.rows.now).items c.args.item i c.unwrap-row.result at
    (sym c.unwrap-row.ensures ∙ c.item_at.ensures.row))
    ∙ sym (bookmark_is (g.R.Rows.kept c.args.rows.now).items c.args.item i false at
    (ap is_some (sym c.tag_folder.ensures.folder) ∙ sym c.is_some.ensures ∙ c.if-is_some.false))
