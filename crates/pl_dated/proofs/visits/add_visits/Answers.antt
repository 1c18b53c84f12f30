use Rattle.std.proofs.Common.{◌∙◌, sym}
use Rattle.pl_base.specs.Rows.{store_of, page_visits}
use Rattle.pl_base.proofs.VisitsRun.{visit_names}
use Rattle.pl_base.proofs.Walk.{ends, starts}
use Rattle.pl_dated.proofs.OverVisits.{Joins, none_joined}
use Rattle.pl_dated.proofs.VisitsWalk.{joins_here, nearer, over_here, visit_there}
use Rattle.pl_dated.proofs.visits.add_visits.Goals as goal

pub loop-next-init : goal.loop-next-init
loop-next-init g c =
    starts visit_names (page_visits (g.R.Rows.kept c.args.rows.now) c.args.view.now.id)
    (Joins (g.R.Rows.kept c.args.rows.now) c.args.timed.now.query.now c.args.view.now c.args.first.now
    c.args.first.now) c.latest-next.result c.latest-next.ensures.latest
    (none_joined (g.R.Rows.kept c.args.rows.now) c.args.timed.now.query.now c.args.view.now c.args.first.now)

pub unwrap-requires : goal.unwrap-requires
unwrap-requires g c =
    visit_there (g.R.Rows.kept c.args.rows.now) c.args.timed.now.query.now c.args.view.now
    (g.met.R.Rows.well_kept c.args.rows.now) c.args.first.now c.loop-next.first c.loop-next.next c.in-Some.visit
    c.loop-next.invariant c.in-Some.is c.visit_at.result c.visit_at.ensures.row

pub returns-then-is_over : goal.returns-then-is_over
returns-then-is_over g c =
    over_here (g.R.Rows.kept c.args.rows.now) c.args.timed.now.query.now c.args.view.now
    (g.met.R.Rows.well_kept c.args.rows.now) c.args.first.now c.loop-next.first c.loop-next.next c.in-Some.visit
    c.loop-next.invariant c.in-Some.is c.visit_at.result c.visit_at.ensures.row c.unwrap.result c.unwrap.ensures
    (sym (c.is_over.ensures.over (store_of (g.R.Rows.kept c.args.rows.now)) c.requires) ∙ c.if-is_over.true)

pub loop-next-smaller : goal.loop-next-smaller
loop-next-smaller g c =
    nearer (g.R.Rows.kept c.args.rows.now) c.args.timed.now.query.now c.args.view.now
    (g.met.R.Rows.well_kept c.args.rows.now) c.args.first.now c.loop-next.first c.loop-next.next c.in-Some.visit
    c.loop-next.invariant c.in-Some.is c.older-next.result c.older-next.ensures.older

pub loop-next-preserved : goal.loop-next-preserved
loop-next-preserved g c =
    joins_here (g.R.Rows.kept c.args.rows.now) c.args.timed.now.query.now c.args.view.now
    (g.met.R.Rows.well_kept c.args.rows.now) c.args.first.now c.loop-next.first c.loop-next.next c.in-Some.visit
    c.loop-next.invariant c.in-Some.is c.visit_at.result c.visit_at.ensures.row c.unwrap.result c.unwrap.ensures
    c.add_in_times.new.first c.older-next.result
    (c.in_ok-add_in_times.ensures (store_of (g.R.Rows.kept c.args.rows.now)) c.requires) c.older-next.ensures.older

pub returns : goal.returns
returns g c =
    ends visit_names (page_visits (g.R.Rows.kept c.args.rows.now) c.args.view.now.id)
    (Joins (g.R.Rows.kept c.args.rows.now) c.args.timed.now.query.now c.args.view.now c.args.first.now
    c.loop-next.first) c.loop-next.next c.loop-next.invariant c.in_default.not-Some
