use Rattle.pl_base.specs.Rows.{Kept, older_visit, page_visits}
use Rattle.pl_base.proofs.VisitsRun.{has_visit_here, visit_here, visit_names, visits_run}
use Rattle.pl_base.proofs.Walk.{StandsAt, ends, goes_on, nears, stands}
use Rattle.pl_history.specs.Taken.{is_before}
use Rattle.pl_history.proofs.TakenVisits.{AreAdded, added_more}
use Rattle.pl_history.proofs.expiration.add_visits_before.Goals as goal

pub add_if_before-requires : goal.add_if_before-requires
add_if_before-requires g c =
    let kept : Kept = g.R.Rows.kept c.args.rows.now in
    let added = AreAdded (is_before c.args.day) c.args.visits.now.items c.loop-next.visits.items in
    has_visit_here kept c.args.page added c.in-Some.visit (g.met.R.Rows.well_kept c.args.rows.now)
    (stands visit_names (page_visits kept c.args.page) added c.loop-next.next c.in-Some.visit c.loop-next.invariant
    c.in-Some.is)

pub loop-next-smaller : goal.loop-next-smaller
loop-next-smaller g c =
    let kept : Kept = g.R.Rows.kept c.args.rows.now in
    let added = AreAdded (is_before c.args.day) c.args.visits.now.items c.loop-next.visits.items in
    nears visit_names (older_visit kept) (page_visits kept c.args.page) added c.loop-next.next c.older-next.result
    c.in-Some.visit (visits_run kept c.args.page (g.met.R.Rows.well_kept c.args.rows.now))
    (stands visit_names (page_visits kept c.args.page) added c.loop-next.next c.in-Some.visit c.loop-next.invariant
    c.in-Some.is) c.in-Some.is c.older-next.ensures.older

pub loop-next-preserved : goal.loop-next-preserved
loop-next-preserved g c =
    let kept : Kept = g.R.Rows.kept c.args.rows.now in
    let added = AreAdded (is_before c.args.day) c.args.visits.now.items c.loop-next.visits.items in
    let w : StandsAt visit_names (page_visits kept c.args.page) added c.in-Some.visit =
    stands visit_names (page_visits kept c.args.page) added c.loop-next.next c.in-Some.visit c.loop-next.invariant
    c.in-Some.is in
    goes_on visit_names (older_visit kept) (page_visits kept c.args.page) added
    (AreAdded (is_before c.args.day) c.args.visits.now.items c.add_if_before.new.visits.items) c.in-Some.visit
    c.older-next.result (visits_run kept c.args.page (g.met.R.Rows.well_kept c.args.rows.now)) w
    c.older-next.ensures.older (added_more (is_before c.args.day) c.args.visits.now.items c.loop-next.visits.items
    c.add_if_before.new.visits.items w.front w.element w.so_far
    (c.in_ok-add_if_before.ensures w.element
    (visit_here kept c.args.page added c.in-Some.visit (g.met.R.Rows.well_kept c.args.rows.now) w)))

pub returns : goal.returns
returns g c =
    ends visit_names (page_visits (g.R.Rows.kept c.args.rows.now) c.args.page)
    (AreAdded (is_before c.args.day) c.args.visits.now.items c.loop-next.visits.items) c.loop-next.next
    c.loop-next.invariant (λ id some. c.in_default.not-Some id some)
