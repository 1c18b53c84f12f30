use Rattle.std.proofs.Common.{◌+◌, ◌==◌, ◌∙◌, ℤ, ap, rules, subst, sym, w64}
use Rattle.std.proofs.lemmas.Int.{to_z-of_z}
use Rattle.pl_base.specs.declared.row.VisitRow.{VisitRow}
use Rattle.pl_base.specs.Marks.{visit_count}
use Rattle.pl_base.specs.Rows.{Kept, KeptPage, has_page, mark_of, store_of, with_visit}
use Rattle.pl_base.specs.Touched.{row_pages}
use Rattle.pl_base.proofs.LookUps.{found_where}
use Rattle.pl_base.proofs.PagesMore.{more_and_more}
use Rattle.pl_marks.specs.Refreshed.{Refreshes, mark_pages}
use Rattle.pl_history.specs.Added.{AddsVisit}
use Rattle.pl_history.proofs.KeptAddresses.{addresses_refreshed, addresses_same}
use Rattle.pl_history.proofs.RightAfter.{counts_refreshed, counts_visited}
use Rattle.pl_history.proofs.KeptMark.{count_told, few_counted, mark_made}
use Rattle.pl_history.proofs.VisitBears.{visit_bears, visit_source}
use Rattle.pl_history.proofs.VisitMade.{added_after, afresh_made, right_still, sound_after, sums_made}
use Rattle.pl_history.proofs.visiting.add_visit.Goals as goal

pub unwrap-mark-requires : goal.unwrap-mark-requires
unwrap-mark-requires g c =
    found_where (λ (p : KeptPage). p.page.id.0 == c.args.row.now.page.0) mark_of
    (g.R.Rows.kept c.insert_visit.new.self).pages c.page_at.result
    (ap (λ (k : Kept). has_page k c.args.row.now.page) c.in_ok-visit.ensures.kept ∙ c.requires.ready.there)
    c.page_at.ensures.mark

pub visited_mark-told-requires : goal.visited_mark-told-requires
visited_mark-told-requires g c =
    few_counted (g.R.Rows.kept c.args.rows.now) c.args.row.now c.unwrap-mark.result
    (g.met.R.Rows.well_kept c.args.rows.now) c.requires.ready.counts
    (mark_made (g.R.Rows.kept c.args.rows.now) (g.R.Rows.kept c.insert_visit.new.self) c.args.row.now
    c.unwrap-mark.result c.in_ok-visit.ensures.kept (sym c.unwrap-mark.ensures ∙ c.page_at.ensures.mark))

pub refresh-requires-clause-count : goal.refresh-requires-clause-count
refresh-requires-clause-count g c =
    count_told (g.R.Rows.kept c.args.rows.now) c.args.row.now c.unwrap-mark.result c.visited_mark-told.result
    c.requires.ready.counts
    (mark_made (g.R.Rows.kept c.args.rows.now) (g.R.Rows.kept c.insert_visit.new.self) c.args.row.now
    c.unwrap-mark.result c.in_ok-visit.ensures.kept (sym c.unwrap-mark.ensures ∙ c.page_at.ensures.mark))
    c.visited_mark-told.ensures
    ∙ ap (λ (k : Kept). visit_count (store_of k) c.args.row.now.page) (sym c.in_ok-visit.ensures.kept)

pub refresh-requires-clause-sums : goal.refresh-requires-clause-sums
refresh-requires-clause-sums g c =
    sums_made (g.R.Rows.kept c.args.rows.now) (g.R.Rows.kept c.insert_visit.new.self) c.args.row.now
    c.in_ok-visit.ensures.kept c.requires.ready.sums

pub refresh_source-requires-clause-counts : goal.refresh_source-requires-clause-counts
refresh_source-requires-clause-counts g c =
    let old : Kept = g.R.Rows.kept c.args.rows.now in
    let row : VisitRow = c.args.row.now in
    counts_refreshed row.page c.visited_mark-told.result c.args.is_place (with_visit row old)
    (g.R.Rows.kept c.refresh.new.rows) c.in_ok-frecency.frecency (counts_visited old row c.requires.ready.counts)
    (subst (λ (k : Kept). Refreshes row.page c.visited_mark-told.result c.args.is_place k
    (g.R.Rows.kept c.refresh.new.rows) c.in_ok-frecency.frecency) c.in_ok-visit.ensures.kept
    c.in_ok-frecency.ensures.refreshed)
    (count_told old row c.unwrap-mark.result c.visited_mark-told.result c.requires.ready.counts
    (mark_made old (g.R.Rows.kept c.insert_visit.new.self) row c.unwrap-mark.result c.in_ok-visit.ensures.kept
    (sym c.unwrap-mark.ensures ∙ c.page_at.ensures.mark)) c.visited_mark-told.ensures)

pub refresh_source-requires-clause-right : goal.refresh_source-requires-clause-right
refresh_source-requires-clause-right g c =
    right_still (g.R.Rows.kept c.args.rows.now) (g.R.Rows.kept c.insert_visit.new.self)
    (g.R.Rows.kept c.refresh.new.rows) c.args.row.now c.args.is_place c.unwrap-mark.result c.visited_mark-told.result
    c.in_ok-frecency.frecency c.requires.ready (g.met.R.Rows.well_kept c.args.rows.now)
    (g.met.R.Rows.well_kept c.insert_visit.new.self) c.in_ok-visit.ensures.kept
    (sym c.unwrap-mark.ensures ∙ c.page_at.ensures.mark) c.visited_mark-told.ensures
    c.in_ok-frecency.ensures.refreshed

pub returns-clause-added : goal.returns-clause-added
returns-clause-added g c =
    let old : Kept = g.R.Rows.kept c.args.rows.now in
    let new : Kept = g.R.Rows.kept c.refresh_source.new.rows in
    let row : VisitRow = c.args.row.now in
    subst
    (λ (z : ℤ). AddsVisit row (store_of old) (store_of new)
    (record { visit = c.in_ok-visit.visit; page = row.page; frecency = z; source = c.in_ok-source.source }))
    (sym (to_z-of_z w64 c.in_ok-frecency.frecency (search rules)))
    (added_after old (g.R.Rows.kept c.refresh.new.rows) new row c.in_ok-visit.visit c.in_ok-frecency.frecency
    c.in_ok-source.source
    (afresh_made old (g.R.Rows.kept c.insert_visit.new.self) (g.R.Rows.kept c.refresh.new.rows) row c.args.is_place
    c.unwrap-mark.result c.visited_mark-told.result c.in_ok-frecency.frecency c.requires.ready
    (g.met.R.Rows.well_kept c.insert_visit.new.self) c.in_ok-visit.ensures.kept
    (sym c.unwrap-mark.ensures ∙ c.page_at.ensures.mark) c.visited_mark-told.ensures
    c.in_ok-frecency.ensures.refreshed)
    c.in_ok-source.ensures.store c.in_ok-visit.ensures.visit)

pub returns-clause-sound : goal.returns-clause-sound
returns-clause-sound g c =
    sound_after (g.R.Rows.kept c.args.rows.now) (g.R.Rows.kept c.refresh.new.rows)
    (g.R.Rows.kept c.refresh_source.new.rows) c.args.row.now c.args.is_place c.in_ok-frecency.frecency c.requires.ready
    (afresh_made (g.R.Rows.kept c.args.rows.now) (g.R.Rows.kept c.insert_visit.new.self)
    (g.R.Rows.kept c.refresh.new.rows) c.args.row.now c.args.is_place c.unwrap-mark.result c.visited_mark-told.result
    c.in_ok-frecency.frecency c.requires.ready (g.met.R.Rows.well_kept c.insert_visit.new.self)
    c.in_ok-visit.ensures.kept (sym c.unwrap-mark.ensures ∙ c.page_at.ensures.mark) c.visited_mark-told.ensures
    c.in_ok-frecency.ensures.refreshed)
    (g.met.R.Rows.well_kept c.refresh_source.new.rows) c.in_ok-source.ensures.store
    c.in_ok-source.ensures.right c.in_ok-source.ensures.sums

pub returns-clause-pages : goal.returns-clause-pages
returns-clause-pages g c =
    more_and_more row_pages (mark_pages + mark_pages) (g.R.Rows.pending c.args.rows.now)
    (g.R.Rows.pending c.insert_visit.new.self) (g.R.Rows.pending c.refresh_source.new.rows)
    c.in_ok-visit.ensures.pages
    (more_and_more mark_pages mark_pages (g.R.Rows.pending c.insert_visit.new.self)
    (g.R.Rows.pending c.refresh.new.rows) (g.R.Rows.pending c.refresh_source.new.rows)
    c.in_ok-frecency.ensures.pages c.in_ok-source.ensures.pages)

pub refresh_source-requires-clause-views : goal.refresh_source-requires-clause-views
refresh_source-requires-clause-views g c =
    addresses_refreshed c.args.views.now (g.R.Rows.kept c.insert_visit.new.self) (g.R.Rows.kept c.refresh.new.rows)
    c.args.row.now.page c.visited_mark-told.result c.args.is_place c.in_ok-frecency.frecency
    c.in_ok-frecency.ensures.refreshed
    (addresses_same c.args.views.now (g.R.Rows.kept c.args.rows.now) (g.R.Rows.kept c.insert_visit.new.self)
    (ap (λ (k : Kept). (store_of k).pages) c.in_ok-visit.ensures.kept) c.requires.views)

pub returns-clause-borne : goal.returns-clause-borne
returns-clause-borne g c =
    visit_bears (g.R.Rows.kept c.args.rows.now) (g.R.Rows.kept c.insert_visit.new.self)
    (g.R.Rows.kept c.refresh.new.rows) (g.R.Rows.kept c.refresh_source.new.rows) c.args.row.now
    c.visited_mark-told.result c.args.is_place c.in_ok-frecency.frecency c.in_ok-source.source
    (g.met.R.Rows.well_kept c.args.rows.now) (g.met.R.Rows.well_kept c.insert_visit.new.self)
    c.in_ok-visit.ensures.kept c.in_ok-frecency.ensures.refreshed c.in_ok-source.ensures.source
    (c.in_ok-source.ensures.store
    ∙ (afresh_made (g.R.Rows.kept c.args.rows.now) (g.R.Rows.kept c.insert_visit.new.self)
    (g.R.Rows.kept c.refresh.new.rows) c.args.row.now c.args.is_place c.unwrap-mark.result c.visited_mark-told.result
    c.in_ok-frecency.frecency c.requires.ready (g.met.R.Rows.well_kept c.insert_visit.new.self)
    c.in_ok-visit.ensures.kept (sym c.unwrap-mark.ensures ∙ c.page_at.ensures.mark) c.visited_mark-told.ensures
    c.in_ok-frecency.ensures.refreshed).store)

pub returns-clause-source : goal.returns-clause-source
returns-clause-source g c =
    visit_source (g.R.Rows.kept c.args.rows.now) (g.R.Rows.kept c.insert_visit.new.self)
    (g.R.Rows.kept c.refresh.new.rows) c.args.row.now c.visited_mark-told.result c.args.is_place
    c.in_ok-frecency.frecency c.in_ok-source.source c.in_ok-visit.ensures.kept c.in_ok-frecency.ensures.refreshed
    c.requires.source c.in_ok-source.ensures.source
