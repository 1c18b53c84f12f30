use Rattle.std.proofs.Common.{◌∙◌, ◌+◌, arith, drop, get_or, sym}
use Rattle.pl_editing.proofs.WaitingPages.{all_spared, next_of, next_there, none_left}
use Rattle.pl_editing.proofs.awaiting.settle_spared.Goals as goal

pub settle_unless_it_waits-requires-clause-page : goal.settle_unless_it_waits-requires-clause-page
settle_unless_it_waits-requires-clause-page g c =
    next_there c.args.tree.now (g.R.Rows.kept c.loop-page.rows)
    (get_or c.args.pages.now c.loop-page.page-index (record { 0 = 0 }))
    (drop (c.loop-page.page-index + 1) c.args.pages.now)
    (next_of c.args.tree.now (g.R.Rows.kept c.loop-page.rows) c.args.pages.now c.loop-page.page-index (record { 0 = 0 })
    (omega arith) c.loop-page.invariant.settled)

pub settle_unless_it_waits-requires-clause-counts : goal.settle_unless_it_waits-requires-clause-counts
settle_unless_it_waits-requires-clause-counts g c = c.loop-page.invariant.settled.settled.counts

pub settle_unless_it_waits-requires-clause-sums : goal.settle_unless_it_waits-requires-clause-sums
settle_unless_it_waits-requires-clause-sums g c = c.loop-page.invariant.settled.settled.sums

pub loop-page-preserved : goal.loop-page-preserved
loop-page-preserved g c =
    record {
      settled =
          c.in_ok-settle_unless_it_waits.ensures.settled c.args.tree.now
          (drop (c.loop-page.page-index + 1) c.args.pages.now) c.in_ok-named.ensures.named
          (next_of c.args.tree.now (g.R.Rows.kept c.loop-page.rows) c.args.pages.now c.loop-page.page-index
          (record { 0 = 0 }) (omega arith) c.loop-page.invariant.settled);
      store =
          c.in_ok-settle_unless_it_waits.ensures.store c.args.tree.now c.in_ok-named.ensures.named
          ∙ c.loop-page.invariant.store;
      views = c.in_ok-settle_unless_it_waits.ensures.views;
      base = λ bytes was. c.in_ok-settle_unless_it_waits.ensures.base bytes (c.loop-page.invariant.base bytes was);
    }

pub returns-clause-store : goal.returns-clause-store
returns-clause-store g c =
    sym (all_spared c.args.tree.now (g.R.Rows.kept c.loop-page.rows)
    (none_left c.args.tree.now (g.R.Rows.kept c.loop-page.rows) c.args.pages.now c.loop-page.page-index (omega arith)
    c.loop-page.invariant.settled))
    ∙ c.loop-page.invariant.store

pub returns-clause-settled : goal.returns-clause-settled
returns-clause-settled g c =
    none_left c.args.tree.now (g.R.Rows.kept c.loop-page.rows) c.args.pages.now c.loop-page.page-index (omega arith)
    c.loop-page.invariant.settled
