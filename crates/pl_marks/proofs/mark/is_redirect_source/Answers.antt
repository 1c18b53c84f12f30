use Rattle.std.proofs.Common.{◌∙◌, sym}
use Rattle.pl_marks.proofs.RedirectSources.{no_source, source_by_first, target_stands}
use Rattle.pl_marks.proofs.mark.is_redirect_source.Goals as goal

pub returns-in_default-clause-is_source : goal.returns-in_default-clause-is_source
returns-in_default-clause-is_source g c v same =
    no_source (g.R.Rows.kept c.args.rows.now) c.args.visit (g.R.Rows.targets c.args.rows.now c.args.visit)
    c.first_target.result v (g.met.R.Rows.targeted c.args.rows.now c.args.visit) c.first_target.ensures.first
    (λ id some. c.in_default.not-Some id some) same

pub unwrap-row-requires : goal.unwrap-row-requires
unwrap-row-requires g c =
    target_stands (g.R.Rows.kept c.args.rows.now) c.args.visit c.in-Some.target
    (g.R.Rows.targets c.args.rows.now c.args.visit) c.visit_at.result (g.met.R.Rows.well_kept c.args.rows.now)
    (g.met.R.Rows.targeted c.args.rows.now c.args.visit) (sym c.in-Some.is ∙ c.first_target.ensures.first)
    c.visit_at.ensures.row

pub returns-clause-is_source : goal.returns-clause-is_source
returns-clause-is_source g c v same =
    c.is_redirect.ensures
    ∙ source_by_first (g.R.Rows.kept c.args.rows.now) c.args.visit c.in-Some.target
    (g.R.Rows.targets c.args.rows.now c.args.visit) c.unwrap-row.result v (g.met.R.Rows.well_kept c.args.rows.now)
    (g.met.R.Rows.targeted c.args.rows.now c.args.visit) (sym c.in-Some.is ∙ c.first_target.ensures.first)
    (sym c.unwrap-row.ensures ∙ c.visit_at.ensures.row) same
