use Rattle.std.proofs.Common.{◌≡◌, ◌==◌, ◌≤◌, ◌∙◌, ap, subst, sym}
use Rattle.std.specs.Option.{option_map}
use Rattle.pl_base.specs.declared.row.Mark.{Mark}
use Rattle.pl_base.specs.Rows.{Kept, KeptPage, has_page, mark_of, page_at, row_of, store_of, with_mark, with_origins}
use Rattle.pl_base.specs.Rows.{without_visit}
use Rattle.pl_base.specs.Store.{Visit}
use Rattle.pl_base.specs.Totals.{most_share, share}
use Rattle.pl_base.proofs.LookUps.{found_where}
use Rattle.pl_base.proofs.OriginSums.{sums_still}
use Rattle.pl_marks.specs.Refreshed.{unvisited_mark}
use Rattle.pl_history.proofs.RemovedRows.{count_suffices, small_share, unvisited_alike}
use Rattle.pl_history.proofs.RemovedRows.{unvisited_settled, unvisited_store}
use Rattle.pl_history.proofs.SourcePage.{page_there}
use Rattle.pl_history.proofs.removal.remove_visit.Given.{Over}
use Rattle.pl_history.proofs.removal.remove_visit.Goals as goal
use Rattle.pl_history.proofs.removal.remove_visit.Goals.{After-keep_mark}

pub unwrap-row-requires : goal.unwrap-row-requires
unwrap-row-requires g c =
    found_where (λ (v : Visit). v.id.0 == c.args.visit.0) row_of (g.R.Rows.kept c.args.rows.now).visits
    c.visit_at.result c.requires.there c.visit_at.ensures.row

pub unwrap-mark-requires : goal.unwrap-mark-requires
unwrap-mark-requires g c =
    found_where (λ (p : KeptPage). p.page.id.0 == c.unwrap-row.result.page.0) mark_of
    (g.R.Rows.kept c.args.rows.now).pages c.page_at.result
    (page_there (g.R.Rows.kept c.args.rows.now) c.args.visit c.unwrap-row.result
    (g.met.R.Rows.well_kept c.args.rows.now) (sym c.unwrap-row.ensures ∙ c.visit_at.ensures.row))
    (c.page_at.ensures.mark
    ∙ ap (λ (k : Kept). option_map mark_of (page_at k c.unwrap-row.result.page)) c.remove_visit.ensures.kept)

pub unvisited_mark-requires : goal.unvisited_mark-requires
unvisited_mark-requires g c =
    count_suffices (g.R.Rows.kept c.args.rows.now) c.args.visit c.unwrap-row.result c.unwrap-mark.result
    (g.met.R.Rows.well_kept c.args.rows.now) c.requires.settled.counts
    (sym c.unwrap-row.ensures ∙ c.visit_at.ensures.row)
    (sym c.unwrap-mark.ensures ∙ c.page_at.ensures.mark
    ∙ ap (λ (k : Kept). option_map mark_of (page_at k c.unwrap-row.result.page)) c.remove_visit.ensures.kept)

pub keep_mark-requires-clause-page : goal.keep_mark-requires-clause-page
keep_mark-requires-clause-page g c =
    ap (λ (k : Kept). has_page k c.unwrap-row.result.page) c.remove_visit.ensures.kept
    ∙ page_there (g.R.Rows.kept c.args.rows.now) c.args.visit c.unwrap-row.result
    (g.met.R.Rows.well_kept c.args.rows.now) (sym c.unwrap-row.ensures ∙ c.visit_at.ensures.row)

pub keep_mark-requires-clause-sums : goal.keep_mark-requires-clause-sums
keep_mark-requires-clause-sums g c =
    sums_still (g.R.Rows.kept c.args.rows.now) (g.R.Rows.kept c.remove_visit.new.self)
    (ap (λ (k : Kept). k.pages) c.remove_visit.ensures.kept) (ap (λ (k : Kept). k.origins) c.remove_visit.ensures.kept)
    c.requires.settled.sums

pub keep_mark-requires-clause-small : goal.keep_mark-requires-clause-small
keep_mark-requires-clause-small g c =
    subst (λ (m : Mark). share m.frecency ≤ most_share) (sym c.unvisited_mark.ensures)
    (small_share (g.R.Rows.kept c.args.rows.now) c.unwrap-row.result.page c.unwrap-mark.result
    c.requires.settled.sums
    (sym c.unwrap-mark.ensures ∙ c.page_at.ensures.mark
    ∙ ap (λ (k : Kept). option_map mark_of (page_at k c.unwrap-row.result.page)) c.remove_visit.ensures.kept))

-- the store is without the visit
without : (g : Over) (c : After-keep_mark g) → store_of (g.R.Rows.kept c.keep_mark.new.rows)
    ≡ store_of (without_visit c.args.visit (g.R.Rows.kept c.args.rows.now))
without g c =
    ap store_of c.keep_mark.ensures.kept
    ∙ ap (λ (m : Mark). store_of (with_mark c.unwrap-row.result.page m (g.R.Rows.kept c.remove_visit.new.self)))
    c.unvisited_mark.ensures
    ∙ ap (λ (k : Kept). store_of (with_mark c.unwrap-row.result.page
    (unvisited_mark c.unwrap-row.result.transition c.unwrap-mark.result) k)) c.remove_visit.ensures.kept
    ∙ unvisited_store (g.R.Rows.kept c.args.rows.now) c.args.visit c.unwrap-row.result c.unwrap-mark.result
    (g.met.R.Rows.well_kept c.args.rows.now) c.requires.settled.counts
    (sym c.unwrap-row.ensures ∙ c.visit_at.ensures.row)
    (sym c.unwrap-mark.ensures ∙ c.page_at.ensures.mark
    ∙ ap (λ (k : Kept). option_map mark_of (page_at k c.unwrap-row.result.page)) c.remove_visit.ensures.kept)

pub returns-clause-store : goal.returns-clause-store
returns-clause-store g c = without g c

pub returns-clause-alike : goal.returns-clause-alike
returns-clause-alike g c =
    unvisited_alike (g.R.Rows.kept c.args.rows.now) (g.R.Rows.kept c.keep_mark.new.rows) c.args.visit
    c.unwrap-row.result c.unwrap-mark.result c.args.pages.now.items c.push_own_pages.new.pages.items
    c.push_redirect_pages.new.pages.items (g.met.R.Rows.well_kept c.args.rows.now) c.requires.settled.counts
    (sym c.unwrap-row.ensures ∙ c.visit_at.ensures.row)
    (sym c.unwrap-mark.ensures ∙ c.page_at.ensures.mark
    ∙ ap (λ (k : Kept). option_map mark_of (page_at k c.unwrap-row.result.page)) c.remove_visit.ensures.kept)
    c.in_ok-push_own_pages.ensures c.in_ok-push_redirect_pages.ensures (without g c)

pub returns-clause-settled : goal.returns-clause-settled
returns-clause-settled g c =
    let new : Kept = g.R.Rows.kept c.keep_mark.new.rows in
    unvisited_settled (g.R.Rows.kept c.args.rows.now) new c.args.visit c.unwrap-row.result c.unwrap-mark.result
    c.args.pages.now.items c.push_own_pages.new.pages.items c.push_redirect_pages.new.pages.items
    (g.met.R.Rows.well_kept c.args.rows.now) (sym c.unwrap-row.ensures ∙ c.visit_at.ensures.row)
    (sym c.unwrap-mark.ensures ∙ c.page_at.ensures.mark
    ∙ ap (λ (k : Kept). option_map mark_of (page_at k c.unwrap-row.result.page)) c.remove_visit.ensures.kept)
    c.in_ok-push_own_pages.ensures c.in_ok-push_redirect_pages.ensures
    (c.keep_mark.ensures.kept
    ∙ ap (λ (m : Mark). with_origins new.origins
    (with_mark c.unwrap-row.result.page m (g.R.Rows.kept c.remove_visit.new.self))) c.unvisited_mark.ensures
    ∙ ap (λ (k : Kept). with_origins new.origins (with_mark c.unwrap-row.result.page
    (unvisited_mark c.unwrap-row.result.transition c.unwrap-mark.result) k)) c.remove_visit.ensures.kept)
    c.keep_mark.ensures.sums c.requires.settled
