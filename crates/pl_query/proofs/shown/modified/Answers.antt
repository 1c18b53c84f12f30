use Rattle.std.proofs.Common.{◌∙◌, ap, sym}
use Rattle.pl_base.specs.Rows.{Kept, store_of}
use Rattle.pl_base.proofs.PageLaws.{id_at}
use Rattle.pl_query.specs.Order.{Row}
use Rattle.pl_query.specs.QueryAnswer.{last_modified}
use Rattle.pl_query.proofs.RowsShown.{IsPageRow, IsVisitRow, page_row, visit_row}
use Rattle.pl_query.proofs.shown.modified.Goals as goal

pub returns-in-Page : goal.returns-in-Page
returns-in-Page g c row at =
    let kept : Kept = g.R.Rows.kept c.args.rows.now in
    let r : IsPageRow kept c.in-Page.page row = page_row kept c.in-Page.page row (rw c.in-Page.is at at) in
    c.mark_dates.ensures.modified
    ∙ ap (last_modified (store_of kept)) (sym (id_at kept c.in-Page.page r.p r.page_is))
    ∙ sym (ap (λ (w : Row). w.modified) r.is)

pub returns-in-Visit : goal.returns-in-Visit
returns-in-Visit g c row at =
    let kept : Kept = g.R.Rows.kept c.args.rows.now in
    let r : IsVisitRow kept c.in-Visit.field-0 c.in-Visit.page row =
    visit_row kept c.in-Visit.field-0 c.in-Visit.page row (rw c.in-Visit.is at at) in
    c.mark_dates-in-Visit.ensures.modified
    ∙ ap (last_modified (store_of kept)) (sym (id_at kept c.in-Visit.page r.p r.page_is))
    ∙ sym (ap (λ (w : Row). w.modified) r.is)
