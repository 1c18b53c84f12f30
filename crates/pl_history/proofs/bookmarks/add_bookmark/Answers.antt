use Rattle.std.proofs.Common.{◌+◌, ◌==◌, ◌∙◌, ap, List, refl, sym, ℕ}
use Rattle.pl_base.specs.Rows.{Kept, KeptPage, has_page, mark_of, store_of}
use Rattle.pl_base.specs.Store.{item_id}
use Rattle.pl_base.proofs.LookUps.{found_where}
use Rattle.pl_tree.specs.Changes.{with_inserted, with_new}
use Rattle.pl_history.specs.Marked.{page_item}
use Rattle.pl_history.proofs.GrownItems.{adds_new, mark_counted, sound_grown, sums_grown}
use Rattle.pl_history.proofs.SourcePage.{source_store}
use Rattle.pl_history.proofs.bookmarks.add_bookmark.Goals as goal

pub unwrap-mark-requires : goal.unwrap-mark-requires
unwrap-mark-requires g c =
    found_where (λ (p : KeptPage). p.page.id.0 == c.args.page.0) mark_of (g.R.Rows.kept c.insert_allowed.new.rows).pages
    c.page_at.result
    (ap (λ (k : Kept). has_page k c.args.page) c.in_ok-id.ensures.kept ∙ c.requires.ready.there) c.page_at.ensures.mark

pub refresh-requires-clause-count : goal.refresh-requires-clause-count
refresh-requires-clause-count g c =
    let kept : Kept = g.R.Rows.kept c.args.rows.now in
    mark_counted kept (g.R.Rows.kept c.insert_allowed.new.rows) (record kept.ids { item = kept.ids.item + 1 })
    (with_new (item_id kept.ids.item) c.args.parent c.args.place
    (page_item c.args.page c.in_ok-copied.field-0 c.args.date) kept.items)
    c.args.page c.args.is_place c.unwrap-mark.result c.requires.ready c.in_ok-id.ensures.kept
    (sym c.unwrap-mark.ensures ∙ c.page_at.ensures.mark)

pub refresh-requires-clause-sums : goal.refresh-requires-clause-sums
refresh-requires-clause-sums g c =
    let kept : Kept = g.R.Rows.kept c.args.rows.now in
    sums_grown kept (g.R.Rows.kept c.insert_allowed.new.rows) (record kept.ids { item = kept.ids.item + 1 })
    (with_new (item_id kept.ids.item) c.args.parent c.args.place
    (page_item c.args.page c.in_ok-copied.field-0 c.args.date) kept.items) c.in_ok-id.ensures.kept
    c.requires.ready.sums

pub returns-clause-store : goal.returns-clause-store
returns-clause-store g c =
    source_store (g.R.Rows.kept c.insert_allowed.new.rows) (g.R.Rows.kept c.refresh.new.rows) c.args.page
    c.unwrap-mark.result c.args.is_place c.in_ok-refresh.field-0 (g.met.R.Rows.well_kept c.insert_allowed.new.rows)
    (sym c.unwrap-mark.ensures ∙ c.page_at.ensures.mark) c.in_ok-refresh.ensures.refreshed
    ∙ ap store_of c.in_ok-id.ensures.kept
    ∙ ap (λ (title : List ℕ). store_of (with_inserted c.args.parent c.args.place
    (page_item c.args.page title c.args.date) (g.R.Rows.kept c.args.rows.now)))
    c.in_ok-copied.ensures

pub returns-clause-sound : goal.returns-clause-sound
returns-clause-sound g c =
    let kept : Kept = g.R.Rows.kept c.args.rows.now in
    sound_grown kept (g.R.Rows.kept c.insert_allowed.new.rows) (g.R.Rows.kept c.refresh.new.rows)
    (record kept.ids { item = kept.ids.item + 1 })
    (with_new (item_id kept.ids.item) c.args.parent c.args.place
    (page_item c.args.page c.in_ok-copied.field-0 c.args.date) kept.items)
    c.args.page c.args.is_place c.unwrap-mark.result c.in_ok-refresh.field-0
    (adds_new (item_id kept.ids.item) c.args.parent c.args.place
    (page_item c.args.page c.in_ok-copied.field-0 c.args.date) c.args.page kept.items kept.items refl (λ other. refl))
    c.requires.ready c.in_ok-id.ensures.kept (g.met.R.Rows.well_kept c.insert_allowed.new.rows) c.in_ok-id.ensures.good
    (sym c.unwrap-mark.ensures ∙ c.page_at.ensures.mark) c.in_ok-refresh.ensures.refreshed
    (g.met.R.Rows.well_kept c.refresh.new.rows) c.in_ok-refresh.ensures.sums
