use Rattle.std.proofs.Common.{◌||◌, ◌∙◌, Bool, ap, sym}
use Rattle.pl_base.specs.Address.{is_place_url}
use Rattle.pl_base.specs.Rows.{Kept, older_visit, page_visits, store_of}
use Rattle.pl_base.proofs.VisitsRun.{has_visit_here, visit_here, visit_names, visits_run}
use Rattle.pl_base.proofs.Walk.{StandsAt, goes_on, nears, stands}
use Rattle.pl_marks.proofs.SeenVisits.{AllPassing, hidden_at_end, passing_more}
use Rattle.pl_marks.proofs.SeenVisits.{shown_here}
use Rattle.pl_marks.proofs.mark.is_hidden_by_visits.Goals as goal

pub is_passing-requires : goal.is_passing-requires
is_passing-requires g c =
    let kept : Kept = g.R.Rows.kept c.args.rows.now in
    has_visit_here kept c.args.page (AllPassing (store_of kept)) c.in-Some.visit
    (g.met.R.Rows.well_kept c.args.rows.now) (stands visit_names (page_visits kept c.args.page)
    (AllPassing (store_of kept)) c.loop-next.next c.in-Some.visit c.loop-next.invariant c.in-Some.is)

pub returns-then-not-is_passing : goal.returns-then-not-is_passing
returns-then-not-is_passing g c p same =
    let kept : Kept = g.R.Rows.kept c.args.rows.now in
    let w : StandsAt visit_names (page_visits kept c.args.page) (AllPassing (store_of kept)) c.in-Some.visit =
    stands visit_names (page_visits kept c.args.page) (AllPassing (store_of kept)) c.loop-next.next c.in-Some.visit
    c.loop-next.invariant c.in-Some.is in
    shown_here kept c.args.page c.in-Some.visit p same w
    (sym (c.is_passing.ensures w.element
    (visit_here kept c.args.page (AllPassing (store_of kept)) c.in-Some.visit (g.met.R.Rows.well_kept c.args.rows.now)
    w))
    ∙ c.if-not-is_passing.true)

pub loop-next-smaller : goal.loop-next-smaller
loop-next-smaller g c =
    let kept : Kept = g.R.Rows.kept c.args.rows.now in
    nears visit_names (older_visit kept) (page_visits kept c.args.page) (AllPassing (store_of kept)) c.loop-next.next
    c.older-next.result c.in-Some.visit (visits_run kept c.args.page (g.met.R.Rows.well_kept c.args.rows.now))
    (stands visit_names (page_visits kept c.args.page) (AllPassing (store_of kept)) c.loop-next.next c.in-Some.visit
    c.loop-next.invariant c.in-Some.is) c.in-Some.is c.older-next.ensures.older

pub loop-next-preserved : goal.loop-next-preserved
loop-next-preserved g c =
    let kept : Kept = g.R.Rows.kept c.args.rows.now in
    let w : StandsAt visit_names (page_visits kept c.args.page) (AllPassing (store_of kept)) c.in-Some.visit =
    stands visit_names (page_visits kept c.args.page) (AllPassing (store_of kept)) c.loop-next.next c.in-Some.visit
    c.loop-next.invariant c.in-Some.is in
    goes_on visit_names (older_visit kept) (page_visits kept c.args.page) (AllPassing (store_of kept))
    (AllPassing (store_of kept)) c.in-Some.visit c.older-next.result
    (visits_run kept c.args.page (g.met.R.Rows.well_kept c.args.rows.now)) w c.older-next.ensures.older
    (passing_more (store_of kept) w.front w.element w.so_far
    (sym (c.is_passing.ensures w.element
    (visit_here kept c.args.page (AllPassing (store_of kept)) c.in-Some.visit (g.met.R.Rows.well_kept c.args.rows.now)
    w))
    ∙ c.if-not-is_passing.false))

pub returns : goal.returns
returns g c p same =
    let kept : Kept = g.R.Rows.kept c.args.rows.now in
    hidden_at_end kept c.args.page c.latest-latest.result c.loop-next.next p same c.latest-latest.ensures.latest
    c.loop-next.invariant (λ id some. c.in_default.not-Some id some)
    ∙ ap (λ (b : Bool). is_place_url p.url || b) (sym c.is_some.ensures)
