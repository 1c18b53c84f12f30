use Rattle.std.proofs.Common.{◌==◌, ◌∙◌, ◌≡◌, sym}
use Rattle.pl_base.specs.Rows.{Kept, row_of, store_of}
use Rattle.pl_base.specs.Store.{Visit}
use Rattle.pl_base.proofs.LookUps.{found_where}
use Rattle.pl_base.proofs.VisitsRun.{row_is, visit_is}
use Rattle.pl_marks.proofs.PageScore.{sampled_is}
use Rattle.pl_marks.proofs.mark.sampled.Goals as goal

pub unwrap-row-requires : goal.unwrap-row-requires
unwrap-row-requires g c =
    found_where (λ (v : Visit). v.id.0 == c.args.visit.0) row_of (g.R.Rows.kept c.args.rows.now).visits
    c.visit_at.result c.requires c.visit_at.ensures.row

pub returns-clause-sampled : goal.returns-clause-sampled
returns-clause-sampled g c v at referenced =
    let kept : Kept = g.R.Rows.kept c.args.rows.now in
    let rows : c.unwrap-row.result ≡ row_of v =
    row_is kept c.args.visit c.unwrap-row.result v (sym c.unwrap-row.ensures ∙ c.visit_at.ensures.row) at in
    sampled_is (store_of kept) v c.unwrap-row.result c.source_transition-source.result
    c.is_redirect_source-is_source.result c.args.referenced c.bonus.result rows
    (c.source_transition-source.ensures.source v (sym rows))
    (c.is_redirect_source-is_source.ensures.is_source v (visit_is kept c.args.visit v at)) referenced
    c.bonus.ensures.exact
