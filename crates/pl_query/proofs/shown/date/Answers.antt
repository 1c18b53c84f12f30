use Rattle.std.proofs.Common.{◌∙◌, ap, sym}
use Rattle.pl_query.specs.Order.{Row}
use Rattle.pl_query.proofs.RowsShown.{IsMarkRow, IsPageRow, mark_row, page_date, page_row, visit_there}
use Rattle.pl_query.proofs.shown.date.Goals as goal

pub visit_date-requires : goal.visit_date-requires
visit_date-requires g c =
    visit_there (g.R.Rows.kept c.args.rows.now) c.in-Visit.visit c.in-Visit.field-1
    (rw c.in-Visit.is at c.requires)

pub returns-in-Page : goal.returns-in-Page
returns-in-Page g c row at =
    let r : IsPageRow (g.R.Rows.kept c.args.rows.now) c.in-Page.page row =
    page_row (g.R.Rows.kept c.args.rows.now) c.in-Page.page row (rw c.in-Page.is at at) in
    page_date (g.R.Rows.kept c.args.rows.now) c.in-Page.page r.p c.last_date.result r.page_is c.last_date.ensures
    ∙ sym (ap (λ (w : Row). w.date) r.is)

pub returns-in-Bookmark : goal.returns-in-Bookmark
returns-in-Bookmark g c row at =
    let r : IsMarkRow (g.R.Rows.kept c.args.rows.now) c.in-Bookmark.field-0 c.in-Bookmark.page row =
    mark_row (g.R.Rows.kept c.args.rows.now) c.in-Bookmark.field-0 c.in-Bookmark.page row (rw c.in-Bookmark.is at at)
    in
    page_date (g.R.Rows.kept c.args.rows.now) c.in-Bookmark.page r.p c.last_date-in-Bookmark.result r.page_is
    c.last_date-in-Bookmark.ensures
    ∙ sym (ap (λ (w : Row). w.date) r.is)
