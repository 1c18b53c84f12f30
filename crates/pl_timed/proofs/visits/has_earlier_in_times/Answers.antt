use Rattle.std.proofs.Common.{◌∙◌, not, sym}
use Rattle.std.proofs.lemmas.Bool.{not-true}
use Rattle.pl_base.specs.Rows.{store_of}
use Rattle.pl_conditions.specs.Conditions.{in_times, is_not_before}
use Rattle.pl_timed.proofs.VisitWalk.{behind_latest, early_here, goes_further, in_here, nearer, none_at_end, visit_there}
use Rattle.pl_timed.proofs.visits.has_earlier_in_times.Goals as goal

pub loop-next-init : goal.loop-next-init
loop-next-init g c =
    behind_latest (g.R.Rows.kept c.args.rows.now) c.args.timed.now.query.now c.args.page
    (g.met.R.Rows.well_kept c.args.rows.now) c.second_latest-next.result c.requires.outside
    c.second_latest-next.ensures

pub unwrap-requires : goal.unwrap-requires
unwrap-requires g c =
    visit_there (g.R.Rows.kept c.args.rows.now) c.args.timed.now.query.now c.args.page
    (g.met.R.Rows.well_kept c.args.rows.now) c.loop-next.next c.in-Some.visit c.loop-next.invariant c.in-Some.is
    c.visit_at.result c.visit_at.ensures.row

pub returns-then-is_in_times : goal.returns-then-is_in_times
returns-then-is_in_times g c =
    sym
    (in_here (g.R.Rows.kept c.args.rows.now) c.args.timed.now.query.now c.args.page
    (g.met.R.Rows.well_kept c.args.rows.now) c.loop-next.next c.in-Some.visit c.loop-next.invariant c.in-Some.is
    c.visit_at.result c.visit_at.ensures.row c.unwrap.result c.unwrap.ensures
    (sym {b = in_times (store_of (g.R.Rows.kept c.args.rows.now)) c.args.timed.now.query.now c.unwrap.result.date}
    (c.is_in_times.ensures (store_of (g.R.Rows.kept c.args.rows.now)) c.requires.asked) ∙ c.if-is_in_times.true))

pub returns-then-is_too_early : goal.returns-then-is_too_early
returns-then-is_too_early g c =
    let store = store_of (g.R.Rows.kept c.args.rows.now) in
    let q = c.args.timed.now.query.now in
    sym
    (early_here (g.R.Rows.kept c.args.rows.now) q c.args.page (g.met.R.Rows.well_kept c.args.rows.now)
    c.loop-next.next c.in-Some.visit c.loop-next.invariant c.in-Some.is c.visit_at.result c.visit_at.ensures.row
    c.unwrap.result c.unwrap.ensures
    (not-true (is_not_before store q.begin_time q.begin_ref c.unwrap.result.date)
    (sym {b = not (is_not_before store q.begin_time q.begin_ref c.unwrap.result.date)}
    (c.is_too_early.ensures store c.requires.asked) ∙ c.if-is_too_early.true)))

pub loop-next-smaller : goal.loop-next-smaller
loop-next-smaller g c =
    nearer (g.R.Rows.kept c.args.rows.now) c.args.timed.now.query.now c.args.page
    (g.met.R.Rows.well_kept c.args.rows.now) c.loop-next.next c.in-Some.visit c.loop-next.invariant c.in-Some.is
    c.older-next.result c.older-next.ensures.older

pub loop-next-preserved : goal.loop-next-preserved
loop-next-preserved g c =
    goes_further (g.R.Rows.kept c.args.rows.now) c.args.timed.now.query.now c.args.page
    (g.met.R.Rows.well_kept c.args.rows.now) c.loop-next.next c.in-Some.visit c.loop-next.invariant c.in-Some.is
    c.visit_at.result c.visit_at.ensures.row c.unwrap.result c.unwrap.ensures c.older-next.result
    (sym {b = in_times (store_of (g.R.Rows.kept c.args.rows.now)) c.args.timed.now.query.now c.unwrap.result.date}
    (c.is_in_times.ensures (store_of (g.R.Rows.kept c.args.rows.now)) c.requires.asked) ∙ c.if-is_in_times.false)
    c.older-next.ensures.older

pub returns : goal.returns
returns g c =
    sym
    (none_at_end (g.R.Rows.kept c.args.rows.now) c.args.timed.now.query.now c.args.page
    (g.met.R.Rows.well_kept c.args.rows.now) c.loop-next.next c.loop-next.invariant c.in_default.not-Some)
