use Rattle.std.proofs.Common.{◌+◌, ◌==◌, ◌∙◌, ◌≡◌, Some, arith, sym}
use Rattle.pl_base.specs.declared.row.VisitRow.{VisitRow}
use Rattle.pl_base.specs.Rows.{Kept, older_visit, page_visits, row_of}
use Rattle.pl_base.specs.Store.{Visit}
use Rattle.pl_base.proofs.LookUps.{found_where}
use Rattle.pl_base.proofs.VisitsRun.{has_visit_here, row_is, visit_here, visit_names, visits_run}
use Rattle.pl_base.proofs.Walk.{StandsAt, goes_on, stands}
use Rattle.pl_marks.specs.declared.dates.Dates.{Dates}
use Rattle.pl_marks.proofs.DatedVisits.{AreDates, AreDatesOf, dated_all, dated_here, dated_ten, dated_young}
use Rattle.pl_marks.proofs.dates.page_dates.Given.{Over}
use Rattle.pl_marks.proofs.dates.page_dates.Goals as goal
use Rattle.pl_marks.proofs.dates.page_dates.Goals.{After-visit_at}

standing : (g : Over) (c : After-visit_at g)
    → StandsAt visit_names (page_visits (g.R.Rows.kept c.args.rows.now) c.args.page)
    (AreDatesOf (g.R.Rows.kept c.args.rows.now).day c.loop.dates c.loop.counter) c.in-Some.visit
standing g c =
    let kept : Kept = g.R.Rows.kept c.args.rows.now in
    stands visit_names (page_visits kept c.args.page) (AreDatesOf kept.day c.loop.dates c.loop.counter) c.loop.next
    c.in-Some.visit c.loop.invariant c.in-Some.is

row_here : (g : Over) (c : After-visit_at g) (row : VisitRow) → c.visit_at.result ≡ Some row
    → row ≡ row_of (standing g c).element
row_here g c row is =
    let kept : Kept = g.R.Rows.kept c.args.rows.now in
    row_is kept c.in-Some.visit row (standing g c).element (sym is ∙ c.visit_at.ensures.row)
    (visit_here kept c.args.page (AreDatesOf kept.day c.loop.dates c.loop.counter) c.in-Some.visit
    (g.met.R.Rows.well_kept c.args.rows.now) (standing g c))

pub unwrap-requires : goal.unwrap-requires
unwrap-requires g c =
    let kept : Kept = g.R.Rows.kept c.args.rows.now in
    found_where (λ (v : Visit). v.id.0 == c.in-Some.visit.0) row_of kept.visits c.visit_at.result
    (has_visit_here kept c.args.page (AreDatesOf kept.day c.loop.dates c.loop.counter) c.in-Some.visit
    (g.met.R.Rows.well_kept c.args.rows.now) (standing g c)) c.visit_at.ensures.row

pub returns-in_default : goal.returns-in_default
returns-in_default g c =
    let are : AreDates (g.R.Rows.kept c.args.rows.now) c.args.page c.loop.dates =
    dated_all (g.R.Rows.kept c.args.rows.now) c.args.page c.loop.counter c.loop.dates c.loop.next
    c.loop.invariant c.loop.auto.counter-end c.in_default.not-Some in
    record { last = are.last; due = are.due }

pub returns : goal.returns
returns g c =
    let are : AreDates (g.R.Rows.kept c.args.rows.now) c.args.page c.loop.dates =
    dated_ten (g.R.Rows.kept c.args.rows.now) c.args.page c.loop.counter c.loop.dates c.loop.next
    c.loop.invariant (omega arith) in
    record { last = are.last; due = are.due }

pub loop-preserved : goal.loop-preserved
loop-preserved g c =
    let kept : Kept = g.R.Rows.kept c.args.rows.now in
    let at : After-visit_at g = c.before.before.before.before.before.before.before.before.before in
    let more : Dates = record { last = c.or-dates.result; due = c.earlier-dates.result } in
    goes_on visit_names (older_visit kept) (page_visits kept c.args.page)
    (AreDatesOf kept.day c.loop.dates c.loop.counter) (AreDatesOf kept.day more (c.loop.counter + 1))
    c.in-Some.visit c.older-next.result (visits_run kept c.args.page (g.met.R.Rows.well_kept c.args.rows.now))
    (standing g at) c.older-next.ensures.older
    (dated_here kept c.args.page c.in-Some.visit c.loop.dates more c.loop.counter c.day-day.result c.unwrap.result
    c.next_change.result (standing g at) c.day-day.ensures.day (row_here g at c.unwrap.result c.unwrap.ensures)
    c.next_change.ensures c.or-dates.ensures c.earlier-dates.ensures)

pub returns-then-keeps_weight : goal.returns-then-keeps_weight
returns-then-keeps_weight g c =
    let kept : Kept = g.R.Rows.kept c.args.rows.now in
    let at : After-visit_at g = c.before.before.before.before.before.before.before in
    let more : Dates = record { last = c.or-dates.result; due = c.earlier-dates.result } in
    let row : c.unwrap.result ≡ row_of (standing g at).element = row_here g at c.unwrap.result c.unwrap.ensures in
    let are : AreDates kept c.args.page more =
    dated_young kept c.args.page c.in-Some.visit c.loop.dates more c.loop.counter c.day-day.result c.unwrap.result
    (g.met.R.Rows.well_kept c.args.rows.now) (standing g at) c.day-day.ensures.day row c.loop-test.true
    (dated_here kept c.args.page c.in-Some.visit c.loop.dates more c.loop.counter c.day-day.result c.unwrap.result
    c.next_change.result (standing g at) c.day-day.ensures.day row c.next_change.ensures c.or-dates.ensures
    c.earlier-dates.ensures) (c.keeps_weight.ensures.0 c.if-keeps_weight.true) in
    record { last = are.last; due = are.due }
