use Rattle.std.proofs.Common.{◌==◌, ◌∙◌, ◌&&◌, ◌||◌, Bool, not, sym, ℕ}
use Rattle.pl_base.specs.Marks.{visit_count}
use Rattle.pl_base.specs.Rows.{Kept, KeptPage, mark_of, store_of}
use Rattle.pl_base.specs.Tags.{is_bookmarked, is_tagged}
use Rattle.pl_base.proofs.LookUps.{found_where}
use Rattle.pl_marks.proofs.PageRows.{count_at}
use Rattle.pl_bar.proofs.PagesKept.{not_asked, not_visited, visited}
use Rattle.pl_bar.proofs.tiers.is_kept.Goals as goal
use Rattle.pl_bar.proofs.tiers.is_kept.Goals.{else-marks-via-else-marks, else-marks-via-then-marks+else-unwrap-eq0}

pub unwrap-requires : goal.unwrap-requires
unwrap-requires g c =
    found_where (λ (p : KeptPage). p.page.id.0 == c.args.page.0) mark_of (g.R.Rows.kept c.args.rows.now).pages
    c.page_at.result c.requires.page c.page_at.ensures.mark

pub returns-then-unwrap-eq0-clause-kept : goal.returns-then-unwrap-eq0-clause-kept
returns-then-unwrap-eq0-clause-kept g c =
    let kept : Kept = g.R.Rows.kept c.args.rows.now in
    not_visited c.args.marks.history c.unwrap.result.count (visit_count (store_of kept) c.args.page)
    ((not c.args.marks.bookmark || is_bookmarked (store_of kept) c.args.page)
    && (not c.args.marks.tag || is_tagged (store_of kept) c.args.page)) c.if-marks.true
    (count_at kept c.args.page c.unwrap.result c.requires.right
    (sym c.unwrap.ensures ∙ c.page_at.ensures.mark)) c.if-unwrap-eq0.true

pub returns-clause-kept : goal.returns-clause-kept
returns-clause-kept g c =
    let kept : Kept = g.R.Rows.kept c.args.rows.now in
    let visits : ℕ = visit_count (store_of kept) c.args.page in
    let rest : Bool = (not c.args.marks.bookmark || is_bookmarked (store_of kept) c.args.page)
    && (not c.args.marks.tag || is_tagged (store_of kept) c.args.page) in
    c.has_wanted.ensures.found
    ∙ elim c.else-marks.branch [
      | else-marks-via-then-marks+else-unwrap-eq0 w ↦
          visited c.args.marks.history w.unwrap.result.count visits rest
          (count_at kept c.args.page w.unwrap.result c.requires.right
          (sym w.unwrap.ensures ∙ w.page_at.ensures.mark)) w.if-unwrap-eq0.false
      | else-marks-via-else-marks w ↦ not_asked c.args.marks.history visits rest w.if-marks.false
    ]
