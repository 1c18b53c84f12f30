use Rattle.std.proofs.Common.{◌∙◌, sym}
use Rattle.pl_editing.proofs.WaitingPages.{settled_spared, settles_on, waits_here}
use Rattle.pl_editing.proofs.awaiting.settle_unless_it_waits.Goals as goal

pub returns-then-is_waiting-clause-settled : goal.returns-then-is_waiting-clause-settled
returns-then-is_waiting-clause-settled g c tree rest urls s =
    waits_here tree c.args.page rest c.args.named.now (g.R.Rows.kept c.args.rows.now)
    (g.met.R.Rows.well_kept c.args.rows.now) urls
    (λ p at. sym c.if-is_waiting.true ∙ c.in_ok-is_waiting.ensures.waits p at) s

pub returns-clause-store : goal.returns-clause-store
returns-clause-store g c tree urls =
    settled_spared tree c.args.page c.args.named.now (g.R.Rows.kept c.args.rows.now)
    (g.R.Rows.kept c.settle_page.new.rows) (g.met.R.Rows.well_kept c.args.rows.now) urls
    c.in_ok-settle_page.ensures.stays c.in_ok-settle_page.ensures.goes
    (λ p at. sym (c.in_ok-is_waiting.ensures.waits p at) ∙ c.if-is_waiting.false)

pub returns-clause-settled : goal.returns-clause-settled
returns-clause-settled g c tree rest urls s =
    settles_on tree c.args.page rest (g.R.Rows.kept c.args.rows.now) (g.R.Rows.kept c.settle_page.new.rows)
    c.in_ok-settle_page.ensures.stays c.in_ok-settle_page.ensures.goes c.in_ok-settle_page.ensures.settled s
