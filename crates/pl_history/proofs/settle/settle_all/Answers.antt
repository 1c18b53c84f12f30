use Rattle.std.proofs.Common.{◌∙◌, ◌+◌, arith, drop, get_or, length, sym}
use Rattle.pl_history.proofs.Settled.{next_there, none_next, page_next, settled_sound, settled_store, went_more}
use Rattle.pl_history.proofs.settle.settle_all.Goals as goal

pub settle_page-requires-clause-page : goal.settle_page-requires-clause-page
settle_page-requires-clause-page g c =
    next_there (g.R.Rows.kept c.loop-page.rows) (get_or c.args.pages.now c.loop-page.page-index (record { 0 = 0 }))
    (drop (c.loop-page.page-index + 1) c.args.pages.now)
    (page_next (g.R.Rows.kept c.loop-page.rows) c.args.pages.now c.loop-page.page-index (record { 0 = 0 })
    (omega arith) c.loop-page.invariant.settled)

pub settle_page-requires-clause-sums : goal.settle_page-requires-clause-sums
settle_page-requires-clause-sums g c = c.loop-page.invariant.settled.sums

pub loop-page-preserved : goal.loop-page-preserved
loop-page-preserved g c =
    record {
      settled =
          c.in_ok-settle_page.ensures.settled (drop (c.loop-page.page-index + 1) c.args.pages.now)
          (page_next (g.R.Rows.kept c.loop-page.rows) c.args.pages.now c.loop-page.page-index (record { 0 = 0 })
          (omega arith) c.loop-page.invariant.settled);
      store = c.in_ok-settle_page.ensures.store ∙ c.loop-page.invariant.store;
      went =
          c.loop-page.invariant.went
          ∙ went_more c.in_ok-settle_page.field-0 c.from.result (length (g.R.Rows.kept c.loop-page.rows).pages)
          (length (g.R.Rows.kept c.settle_page.new.rows).pages) c.loop-page.went c.in_ok-settle_page.ensures.went
          (λ is. rw is at c.from.ensures) (λ is. rw is at c.from.ensures);
      views = c.in_ok-settle_page.ensures.views;
      base = λ bytes was. c.in_ok-settle_page.ensures.base bytes (c.loop-page.invariant.base bytes was);
    }

pub returns-clause-store : goal.returns-clause-store
returns-clause-store g c =
    sym (settled_store (g.R.Rows.kept c.loop-page.rows)
    (none_next (g.R.Rows.kept c.loop-page.rows) c.args.pages.now c.loop-page.page-index (omega arith)
    c.loop-page.invariant.settled))
    ∙ c.loop-page.invariant.store

pub returns-clause-sound : goal.returns-clause-sound
returns-clause-sound g c =
    settled_sound (g.R.Rows.kept c.loop-page.rows) (g.met.R.Rows.well_kept c.loop-page.rows)
    (none_next (g.R.Rows.kept c.loop-page.rows) c.args.pages.now c.loop-page.page-index (omega arith)
    c.loop-page.invariant.settled)
