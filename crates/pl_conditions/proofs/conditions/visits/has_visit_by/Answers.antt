use Rattle.std.proofs.Common.{◌==◌, ◌∙◌, Bool, sym}
use Rattle.pl_base.specs.Rows.{Kept, older_visit, page_visits}
use Rattle.pl_base.specs.Store.{Visit}
use Rattle.pl_base.specs.Transition.{transition_number}
use Rattle.pl_base.proofs.VisitsRun.{has_visit_here, visit_here, visit_names, visits_run}
use Rattle.pl_base.proofs.Walk.{StandsAt, goes_on, nears, stands}
use Rattle.pl_conditions.proofs.ItemSearch.{NonePasses, none_more}
use Rattle.pl_conditions.proofs.VisitSearch.{no_visit, visit_passes}
use Rattle.pl_conditions.proofs.conditions.visits.has_visit_by.Goals as goal

pub has_transition-requires : goal.has_transition-requires
has_transition-requires g c =
    let kept : Kept = g.R.Rows.kept c.args.rows.now in
    let test : Visit → Bool = λ v. transition_number v.transition == transition_number c.args.transition in
    has_visit_here kept c.args.page (NonePasses test) c.in-Some.visit (g.met.R.Rows.well_kept c.args.rows.now)
    (stands visit_names (page_visits kept c.args.page) (NonePasses test) c.loop-next.next c.in-Some.visit
    c.loop-next.invariant c.in-Some.is)

pub returns-then-has_transition : goal.returns-then-has_transition
returns-then-has_transition g c =
    let kept : Kept = g.R.Rows.kept c.args.rows.now in
    let test : Visit → Bool = λ v. transition_number v.transition == transition_number c.args.transition in
    let w : StandsAt visit_names (page_visits kept c.args.page) (NonePasses test) c.in-Some.visit =
    stands visit_names (page_visits kept c.args.page) (NonePasses test) c.loop-next.next c.in-Some.visit
    c.loop-next.invariant c.in-Some.is in
    visit_passes kept c.args.page test (NonePasses test) c.in-Some.visit w
    (sym (c.has_transition.ensures w.element
    (visit_here kept c.args.page (NonePasses test) c.in-Some.visit (g.met.R.Rows.well_kept c.args.rows.now) w))
    ∙ c.if-has_transition.true)

pub loop-next-smaller : goal.loop-next-smaller
loop-next-smaller g c =
    let kept : Kept = g.R.Rows.kept c.args.rows.now in
    let test : Visit → Bool = λ v. transition_number v.transition == transition_number c.args.transition in
    nears visit_names (older_visit kept) (page_visits kept c.args.page) (NonePasses test) c.loop-next.next
    c.older-next.result c.in-Some.visit (visits_run kept c.args.page (g.met.R.Rows.well_kept c.args.rows.now))
    (stands visit_names (page_visits kept c.args.page) (NonePasses test) c.loop-next.next c.in-Some.visit
    c.loop-next.invariant c.in-Some.is) c.in-Some.is c.older-next.ensures.older

pub loop-next-preserved : goal.loop-next-preserved
loop-next-preserved g c =
    let kept : Kept = g.R.Rows.kept c.args.rows.now in
    let test : Visit → Bool = λ v. transition_number v.transition == transition_number c.args.transition in
    let w : StandsAt visit_names (page_visits kept c.args.page) (NonePasses test) c.in-Some.visit =
    stands visit_names (page_visits kept c.args.page) (NonePasses test) c.loop-next.next c.in-Some.visit
    c.loop-next.invariant c.in-Some.is in
    goes_on visit_names (older_visit kept) (page_visits kept c.args.page) (NonePasses test) (NonePasses test)
    c.in-Some.visit c.older-next.result (visits_run kept c.args.page (g.met.R.Rows.well_kept c.args.rows.now)) w
    c.older-next.ensures.older (none_more test w.front w.element w.so_far
    (sym (c.has_transition.ensures w.element
    (visit_here kept c.args.page (NonePasses test) c.in-Some.visit (g.met.R.Rows.well_kept c.args.rows.now) w))
    ∙ c.if-has_transition.false))

pub returns : goal.returns
returns g c =
    no_visit (g.R.Rows.kept c.args.rows.now) c.args.page
    (λ (v : Visit). transition_number v.transition == transition_number c.args.transition) c.loop-next.next
    c.loop-next.invariant (λ id some. c.in_default.not-Some id some)
