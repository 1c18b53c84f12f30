use Rattle.std.proofs.Common.{◌≡◌, ◌==◌, ◌∙◌, IfSome, subst, sym, true}
use Rattle.pl_base.specs.Rows.{KeptPage, has_visit, mark_of, row_of}
use Rattle.pl_base.specs.Store.{Visit}
use Rattle.pl_base.proofs.LookUps.{found_where}
use Rattle.pl_history.proofs.KeptMark.{count_at, mark_at}
use Rattle.pl_history.proofs.SourcePage.{page_there, source_is, source_right, source_store}
use Rattle.pl_history.proofs.visiting.refresh_source.Goals as goal

pub unwrap-requires : goal.unwrap-requires
unwrap-requires g c =
    found_where (λ (v : Visit). v.id.0 == c.in-Some.source.0) row_of (g.R.Rows.kept c.args.rows.now).visits
    c.visit_at.result
    (subst (λ o. IfSome o (λ id. has_visit (g.R.Rows.kept c.args.rows.now) id ≡ true)) c.in-Some.is c.requires.source)
    c.visit_at.ensures.row

pub unwrap-mark-requires : goal.unwrap-mark-requires
unwrap-mark-requires g c =
    found_where (λ (p : KeptPage). p.page.id.0 == c.unwrap.result.page.0) mark_of (g.R.Rows.kept c.args.rows.now).pages
    c.page_at.result
    (page_there (g.R.Rows.kept c.args.rows.now) c.in-Some.source c.unwrap.result
    (g.met.R.Rows.well_kept c.args.rows.now) (sym c.unwrap.ensures ∙ c.visit_at.ensures.row)) c.page_at.ensures.mark

pub is_place-requires-clause-page : goal.is_place-requires-clause-page
is_place-requires-clause-page g c =
    page_there (g.R.Rows.kept c.args.rows.now) c.in-Some.source c.unwrap.result
    (g.met.R.Rows.well_kept c.args.rows.now) (sym c.unwrap.ensures ∙ c.visit_at.ensures.row)

pub refresh-requires-clause-page : goal.refresh-requires-clause-page
refresh-requires-clause-page g c =
    page_there (g.R.Rows.kept c.args.rows.now) c.in-Some.source c.unwrap.result
    (g.met.R.Rows.well_kept c.args.rows.now) (sym c.unwrap.ensures ∙ c.visit_at.ensures.row)

pub refresh-requires-clause-count : goal.refresh-requires-clause-count
refresh-requires-clause-count g c =
    count_at (g.R.Rows.kept c.args.rows.now) c.unwrap.result.page c.unwrap-mark.result c.requires.counts
    (mark_at (g.R.Rows.kept c.args.rows.now) c.unwrap.result.page c.unwrap-mark.result
    (sym c.unwrap-mark.ensures ∙ c.page_at.ensures.mark))

pub returns-clause-right : goal.returns-clause-right
returns-clause-right g c =
    source_right (g.R.Rows.kept c.args.rows.now) (g.R.Rows.kept c.refresh.new.rows) c.args.row.now c.unwrap.result
    c.in-Some.source c.unwrap-mark.result c.in_ok-is_place.is_place c.in_ok-refresh.field-0
    (g.met.R.Rows.well_kept c.args.rows.now) c.requires.counts c.requires.right
    (sym c.is_redirect.ensures ∙ c.if-not-is_redirect.false) c.in-Some.is
    (sym c.unwrap.ensures ∙ c.visit_at.ensures.row) (sym c.unwrap-mark.ensures ∙ c.page_at.ensures.mark)
    c.in_ok-is_place.ensures c.in_ok-refresh.ensures.refreshed

pub returns-clause-store : goal.returns-clause-store
returns-clause-store g c =
    source_store (g.R.Rows.kept c.args.rows.now) (g.R.Rows.kept c.refresh.new.rows) c.unwrap.result.page
    c.unwrap-mark.result c.in_ok-is_place.is_place c.in_ok-refresh.field-0 (g.met.R.Rows.well_kept c.args.rows.now)
    (sym c.unwrap-mark.ensures ∙ c.page_at.ensures.mark) c.in_ok-refresh.ensures.refreshed

pub returns-clause-source : goal.returns-clause-source
returns-clause-source g c =
    sym (source_is (g.R.Rows.kept c.args.rows.now) c.args.row.now c.unwrap.result c.in-Some.source
    (sym c.is_redirect.ensures ∙ c.if-not-is_redirect.false) c.in-Some.is
    (sym c.unwrap.ensures ∙ c.visit_at.ensures.row))
