use Rattle.std.proofs.Common.{◌==◌, ◌∙◌, ap, sym}
use Rattle.pl_base.specs.Rows.{KeptPage, mark_of}
use Rattle.pl_base.proofs.LookUps.{found_where}
use Rattle.pl_marks.proofs.PageRows.{count_at}
use Rattle.pl_conditions.specs.AskedParts.{is_count_asked}
use Rattle.pl_conditions.proofs.conditions.visits.has_count_asked.Goals as goal

pub unwrap-mark-requires : goal.unwrap-mark-requires
unwrap-mark-requires g c =
    found_where (λ (p : KeptPage). p.page.id.0 == c.args.page.0) mark_of (g.R.Rows.kept c.args.rows.now).pages
    c.page_at.result c.requires.page c.page_at.ensures.mark

pub returns : goal.returns
returns g c =
    c.is_count_asked.ensures
    ∙ ap (is_count_asked c.args.query.now)
    (count_at (g.R.Rows.kept c.args.rows.now) c.args.page c.unwrap-mark.result c.requires.right
    (sym c.unwrap-mark.ensures ∙ c.page_at.ensures.mark))
