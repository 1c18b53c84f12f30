use Rattle.std.proofs.Common.{◌∙◌, rules, w64}
use Rattle.std.proofs.lemmas.Int.{to_z-of_z}
use Rattle.pl_history.proofs.AgedPage.{aged_view, counted, page_there, referred, right_aged, store_aged}
use Rattle.pl_history.proofs.days.age_page.Goals as goal

pub aged_page-requires-clause-count : goal.aged_page-requires-clause-count
aged_page-requires-clause-count g c = counted (g.R.Rows.kept c.args.rows.now) c.args.view.now c.requires.had

pub aged_page-requires-clause-referenced : goal.aged_page-requires-clause-referenced
aged_page-requires-clause-referenced g c = referred (g.R.Rows.kept c.args.rows.now) c.args.view.now c.requires.had

pub keep_mark-requires-clause-page : goal.keep_mark-requires-clause-page
keep_mark-requires-clause-page g c = page_there (g.R.Rows.kept c.args.rows.now) c.args.view.now c.requires.had

pub returns-clause-aged : goal.returns-clause-aged
returns-clause-aged g c =
    aged_view (g.R.Rows.kept c.args.rows.now) c.args.view.now c.requires.had c.in_ok-aged.aged
    (λ p same typed place. c.in_ok-aged.ensures.frecency p same typed
    (c.has_place_prefix.ensures c.requires.had.1.page.url c.requires.had.1.seen.origin ∙ place))
    c.in_ok-aged.ensures.due

pub returns-clause-store : goal.returns-clause-store
returns-clause-store g c =
    store_aged (g.R.Rows.kept c.args.rows.now) c.args.view.now c.requires.had (g.met.R.Rows.well_kept c.args.rows.now)
    (g.R.Rows.kept c.keep_mark.new.rows) _ c.keep_mark.ensures.kept

pub returns-clause-right : goal.returns-clause-right
returns-clause-right g c ids =
    right_aged (g.R.Rows.kept c.args.rows.now) c.args.view.now c.requires.had (g.met.R.Rows.well_kept c.args.rows.now)
    ids (g.R.Rows.kept c.keep_mark.new.rows) _ c.keep_mark.ensures.kept
    (λ p same typed place. to_z-of_z w64 c.in_ok-aged.aged.frecency (search rules)
    ∙ c.in_ok-aged.ensures.frecency p same typed
    (c.has_place_prefix.ensures c.requires.had.1.page.url c.requires.had.1.seen.origin ∙ place))
