use Rattle.std.proofs.Common.{◌==◌, ◌∙◌, ap, sym}
use Rattle.pl_base.specs.declared.row.Mark.{Mark}
use Rattle.pl_base.specs.Rows.{Kept, KeptPage, mark_of}
use Rattle.pl_base.proofs.LookUps.{found_where}
use Rattle.pl_base.proofs.PageLaws.{mark_is}
use Rattle.pl_marks.proofs.PageRows.{right_mark}
use Rattle.pl_query.proofs.shown.mark.Goals as goal

pub unwrap-requires : goal.unwrap-requires
unwrap-requires g c =
    found_where (λ (p : KeptPage). p.page.id.0 == c.args.page.0) mark_of (g.R.Rows.kept c.args.rows.now).pages
    c.page_at.result c.requires.page c.page_at.ensures.mark

pub returns-clause-count : goal.returns-clause-count
returns-clause-count g c p at =
    let kept : Kept = g.R.Rows.kept c.args.rows.now in
    ap (λ (m : Mark). m.count)
    (mark_is kept c.args.page p c.unwrap.result at (sym c.unwrap.ensures ∙ c.page_at.ensures.mark)
    ∙ right_mark kept c.args.page p c.requires.right at)

pub returns-clause-frecency : goal.returns-clause-frecency
returns-clause-frecency g c p at =
    let kept : Kept = g.R.Rows.kept c.args.rows.now in
    ap (λ (m : Mark). m.frecency)
    (mark_is kept c.args.page p c.unwrap.result at (sym c.unwrap.ensures ∙ c.page_at.ensures.mark)
    ∙ right_mark kept c.args.page p c.requires.right at)
