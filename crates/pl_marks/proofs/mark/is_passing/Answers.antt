use Rattle.std.proofs.Common.{◌||◌, ◌==◌, ◌∙◌, Bool, ap, sym}
use Rattle.pl_base.specs.declared.row.VisitRow.{VisitRow}
use Rattle.pl_base.specs.Marks.{is_framed}
use Rattle.pl_base.specs.Redirects.{is_redirect_source}
use Rattle.pl_base.specs.Rows.{row_of, store_of}
use Rattle.pl_base.specs.Store.{Visit}
use Rattle.pl_base.proofs.LookUps.{found_where}
use Rattle.pl_base.proofs.VisitsRun.{row_is, visit_is}
use Rattle.pl_marks.proofs.mark.is_passing.Goals as goal

pub unwrap-row-requires : goal.unwrap-row-requires
unwrap-row-requires g c =
    found_where (λ (v : Visit). v.id.0 == c.args.visit.0) row_of (g.R.Rows.kept c.args.rows.now).visits
    c.visit_at.result c.requires c.visit_at.ensures.row

pub returns-else-is_framed : goal.returns-else-is_framed
returns-else-is_framed g c v at =
    c.is_redirect_source.ensures.is_source v (visit_is (g.R.Rows.kept c.args.rows.now) c.args.visit v at)
    ∙ ap (λ (b : Bool). b || is_redirect_source (store_of (g.R.Rows.kept c.args.rows.now)) v)
    (sym c.if-is_framed.false ∙ c.is_framed.ensures
    ∙ ap (λ (r : VisitRow). is_framed r.transition)
    (row_is (g.R.Rows.kept c.args.rows.now) c.args.visit c.unwrap-row.result v
    (sym c.unwrap-row.ensures ∙ c.visit_at.ensures.row) at))
