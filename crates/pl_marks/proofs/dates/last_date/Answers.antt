use Rattle.std.proofs.Common.{◌∙◌, sym}
use Rattle.pl_marks.proofs.LatestVisit.{latest_date, latest_found}
use Rattle.pl_marks.proofs.dates.last_date.Goals as goal

pub unwrap-row-requires : goal.unwrap-row-requires
unwrap-row-requires g c =
    latest_found (g.R.Rows.kept c.args.rows.now) c.args.page c.in_ok-latest.latest c.visit_at.result
    (g.met.R.Rows.well_kept c.args.rows.now) (sym c.in_ok-latest.was ∙ c.latest.ensures.latest)
    c.visit_at.ensures.row

pub returns : goal.returns
returns g c =
    latest_date (g.R.Rows.kept c.args.rows.now) c.args.page c.in_ok-latest.latest c.unwrap-row.result
    (g.met.R.Rows.well_kept c.args.rows.now) (sym c.in_ok-latest.was ∙ c.latest.ensures.latest)
    (sym c.unwrap-row.ensures ∙ c.visit_at.ensures.row)
