use Rattle.pl_base.specs.Rows.{Kept, older_visit, page_visits}
use Rattle.pl_base.proofs.VisitsRun.{visit_here, visit_names, visits_run}
use Rattle.pl_base.proofs.Walk.{StandsAt, goes_on, nears, stands}
use Rattle.pl_query.proofs.PageParts.{HasVisits, visit_subject_there, visits_more}
use Rattle.pl_query.proofs.candidates.visits.add_visits_in_times.Goals as goal

pub add_visit-requires-clause-there : goal.add_visit-requires-clause-there
add_visit-requires-clause-there g c =
    let kept : Kept = g.R.Rows.kept c.args.rows.now in
    let has =
    HasVisits kept c.args.asked.now.query.now c.args.page c.args.candidates.now.items c.loop-next.candidates.items in
    let w : StandsAt visit_names (page_visits kept c.args.page) has c.in-Some.visit =
    stands visit_names (page_visits kept c.args.page) has c.loop-next.next c.in-Some.visit c.loop-next.invariant
    c.in-Some.is in
    visit_subject_there kept c.args.page c.in-Some.visit w.element c.requires.page
    (visit_here kept c.args.page has c.in-Some.visit (g.met.R.Rows.well_kept c.args.rows.now) w)

pub loop-next-smaller : goal.loop-next-smaller
loop-next-smaller g c =
    let kept : Kept = g.R.Rows.kept c.args.rows.now in
    let has =
    HasVisits kept c.args.asked.now.query.now c.args.page c.args.candidates.now.items c.loop-next.candidates.items in
    nears visit_names (older_visit kept) (page_visits kept c.args.page) has c.loop-next.next c.older-next.result
    c.in-Some.visit (visits_run kept c.args.page (g.met.R.Rows.well_kept c.args.rows.now))
    (stands visit_names (page_visits kept c.args.page) has c.loop-next.next c.in-Some.visit c.loop-next.invariant
    c.in-Some.is) c.in-Some.is c.older-next.ensures.older

pub loop-next-preserved : goal.loop-next-preserved
loop-next-preserved g c =
    let kept : Kept = g.R.Rows.kept c.args.rows.now in
    let q = c.args.asked.now.query.now in
    let old = c.args.candidates.now.items in
    let has = HasVisits kept q c.args.page old c.loop-next.candidates.items in
    let w : StandsAt visit_names (page_visits kept c.args.page) has c.in-Some.visit =
    stands visit_names (page_visits kept c.args.page) has c.loop-next.next c.in-Some.visit c.loop-next.invariant
    c.in-Some.is in
    let at = visit_here kept c.args.page has c.in-Some.visit (g.met.R.Rows.well_kept c.args.rows.now) w in
    goes_on visit_names (older_visit kept) (page_visits kept c.args.page) has
    (HasVisits kept q c.args.page old c.add_visit.new.candidates.items) c.in-Some.visit c.older-next.result
    (visits_run kept c.args.page (g.met.R.Rows.well_kept c.args.rows.now)) w c.older-next.ensures.older
    (visits_more kept q c.args.page old c.loop-next.candidates.items c.add_visit.new.candidates.items w.front w.element
    w.so_far (λ p page_is. c.in_ok-add_visit.ensures p w.element page_is at))
