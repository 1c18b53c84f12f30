use Rattle.pl_query.specs.declared.shown.Subject.TheVariants.{Page, Visit}
use Rattle.pl_query.proofs.RowsShown.{item_there}
use Rattle.pl_query.proofs.RowsShown.{page_there}
use Rattle.pl_query.proofs.shown.title.Goals as goal

pub title-requires : goal.title-requires
title-requires g c =
    page_there (g.R.Rows.kept c.args.rows.now) (Page c.in-Page.page) (rw c.in-Page.is at c.requires)

pub title-requires-in-Visit : goal.title-requires-in-Visit
title-requires-in-Visit g c =
    page_there (g.R.Rows.kept c.args.rows.now) (Visit c.in-Visit.field-0 c.in-Visit.page)
    (rw c.in-Visit.is at c.requires)

pub item_title-requires : goal.item_title-requires
item_title-requires g c =
    item_there (g.R.Rows.kept c.args.rows.now) c.in-Bookmark.item c.in-Bookmark.field-1
    (rw c.in-Bookmark.is at c.requires)
