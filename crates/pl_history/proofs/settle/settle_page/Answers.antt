use Rattle.std.proofs.Common.{◌==◌, ◌∙◌, ap, sym}
use Rattle.std.proofs.lemmas.Bool.{false≢true}
use Rattle.pl_base.specs.Rows.{KeptPage, mark_of}
use Rattle.pl_base.specs.Removal.{without_idle_pages}
use Rattle.pl_base.proofs.LookUps.{found_where}
use Rattle.pl_history.proofs.Dropped.{dropped_fewer, dropped_settled, dropped_store}
use Rattle.pl_history.proofs.KeptAddresses.{addresses_dropped, addresses_refreshed}
use Rattle.pl_history.proofs.KeptMark.{count_at, mark_at}
use Rattle.pl_history.proofs.Settled.{refreshed_settled}
use Rattle.pl_history.proofs.SourcePage.{source_store}
use Rattle.pl_history.proofs.settle.settle_page.Goals as goal

pub returns-then-not-is_standing-clause-store : goal.returns-then-not-is_standing-clause-store
returns-then-not-is_standing-clause-store g c =
    dropped_store c.args.page (g.R.Rows.kept c.args.rows.now) (g.R.Rows.kept c.drop_page.new.rows)
    c.drop_page.ensures.dropped (sym c.is_standing.ensures ∙ c.if-not-is_standing.true)

pub returns-then-not-is_standing-clause-settled : goal.returns-then-not-is_standing-clause-settled
returns-then-not-is_standing-clause-settled g c rest s =
    dropped_settled c.args.page (g.R.Rows.kept c.args.rows.now) (g.R.Rows.kept c.drop_page.new.rows) rest
    c.drop_page.ensures.dropped c.drop_page.ensures.sums (sym c.is_standing.ensures ∙ c.if-not-is_standing.true) s

pub drop_page-requires-clause-idle : goal.drop_page-requires-clause-idle
drop_page-requires-clause-idle g c = sym c.is_standing.ensures ∙ c.if-not-is_standing.true

pub unwrap-mark-requires : goal.unwrap-mark-requires
unwrap-mark-requires g c =
    found_where (λ (p : KeptPage). p.page.id.0 == c.args.page.0) mark_of (g.R.Rows.kept c.args.rows.now).pages
    c.page_at.result c.requires.page c.page_at.ensures.mark

pub refresh-requires-clause-count : goal.refresh-requires-clause-count
refresh-requires-clause-count g c =
    count_at (g.R.Rows.kept c.args.rows.now) c.args.page c.unwrap-mark.result c.requires.counts
    (mark_at (g.R.Rows.kept c.args.rows.now) c.args.page c.unwrap-mark.result
    (sym c.unwrap-mark.ensures ∙ c.page_at.ensures.mark))

pub returns-clause-store : goal.returns-clause-store
returns-clause-store g c =
    ap without_idle_pages
    (source_store (g.R.Rows.kept c.args.rows.now) (g.R.Rows.kept c.refresh.new.rows) c.args.page c.unwrap-mark.result
    c.in_ok-is_place.is_place c.in_ok-refresh.field-0 (g.met.R.Rows.well_kept c.args.rows.now)
    (sym c.unwrap-mark.ensures ∙ c.page_at.ensures.mark) c.in_ok-refresh.ensures.refreshed)

pub returns-then-not-is_standing-clause-stays : goal.returns-then-not-is_standing-clause-stays
returns-then-not-is_standing-clause-stays g c stands =
    absurd (false≢true (sym (sym c.is_standing.ensures ∙ c.if-not-is_standing.true) ∙ stands))

pub returns-then-not-is_standing-clause-goes : goal.returns-then-not-is_standing-clause-goes
returns-then-not-is_standing-clause-goes g c idle = c.drop_page.ensures.dropped

pub returns-clause-stays : goal.returns-clause-stays
returns-clause-stays g c stands =
    source_store (g.R.Rows.kept c.args.rows.now) (g.R.Rows.kept c.refresh.new.rows) c.args.page c.unwrap-mark.result
    c.in_ok-is_place.is_place c.in_ok-refresh.field-0 (g.met.R.Rows.well_kept c.args.rows.now)
    (sym c.unwrap-mark.ensures ∙ c.page_at.ensures.mark) c.in_ok-refresh.ensures.refreshed

pub returns-clause-goes : goal.returns-clause-goes
returns-clause-goes g c idle =
    absurd (false≢true (sym idle ∙ (sym c.is_standing.ensures ∙ c.if-not-is_standing.false)))

pub returns-clause-settled : goal.returns-clause-settled
returns-clause-settled g c rest s =
    refreshed_settled (g.R.Rows.kept c.args.rows.now) (g.R.Rows.kept c.refresh.new.rows) c.args.page rest
    c.unwrap-mark.result c.in_ok-is_place.is_place c.in_ok-refresh.field-0 (g.met.R.Rows.well_kept c.args.rows.now)
    (sym c.unwrap-mark.ensures ∙ c.page_at.ensures.mark) c.in_ok-is_place.ensures
    (sym c.is_standing.ensures ∙ c.if-not-is_standing.false) c.in_ok-refresh.ensures.refreshed
    c.in_ok-refresh.ensures.sums s

pub returns-then-not-is_standing-clause-went : goal.returns-then-not-is_standing-clause-went
returns-then-not-is_standing-clause-went g c =
    dropped_fewer c.args.page (g.R.Rows.kept c.args.rows.now) (g.R.Rows.kept c.drop_page.new.rows)
    (g.met.R.Rows.well_kept c.args.rows.now) c.requires.page c.drop_page.ensures.dropped

pub returns-then-not-is_standing-clause-views : goal.returns-then-not-is_standing-clause-views
returns-then-not-is_standing-clause-views g c =
    addresses_dropped c.args.views.now c.args.page (g.R.Rows.kept c.args.rows.now) (g.R.Rows.kept c.drop_page.new.rows)
    c.drop_page.ensures.dropped c.requires.views

pub returns-clause-views : goal.returns-clause-views
returns-clause-views g c =
    addresses_refreshed c.args.views.now (g.R.Rows.kept c.args.rows.now) (g.R.Rows.kept c.refresh.new.rows) c.args.page
    c.unwrap-mark.result c.in_ok-is_place.is_place c.in_ok-refresh.field-0 c.in_ok-refresh.ensures.refreshed
    c.requires.views
