use Rattle.std.proofs.Common.{◌==◌, ◌∙◌, ap, sym}
use Rattle.pl_base.specs.declared.row.VisitRow.{VisitRow}
use Rattle.pl_base.specs.Rows.{row_of}
use Rattle.pl_base.specs.Store.{Visit}
use Rattle.pl_base.proofs.LookUps.{found_where}
use Rattle.pl_base.proofs.VisitsRun.{row_is}
use Rattle.pl_query.proofs.shown.visit_date.Goals as goal

pub unwrap-requires : goal.unwrap-requires
unwrap-requires g c =
    found_where (λ (v : Visit). v.id.0 == c.args.visit.0) row_of (g.R.Rows.kept c.args.rows.now).visits
    c.visit_at.result c.requires c.visit_at.ensures.row

pub returns : goal.returns
returns g c v at =
    ap (λ (r : VisitRow). r.date)
    (row_is (g.R.Rows.kept c.args.rows.now) c.args.visit c.unwrap.result v
    (sym c.unwrap.ensures ∙ c.visit_at.ensures.row) at)
