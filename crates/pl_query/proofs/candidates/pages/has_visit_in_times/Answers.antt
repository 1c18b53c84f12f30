use Rattle.std.proofs.Common.{◌∙◌, ap, sym}
use Rattle.std.specs.List.{list_any}
use Rattle.pl_base.specs.Rows.{Kept, older_visit, page_visits, store_of}
use Rattle.pl_base.specs.Store.{Visit}
use Rattle.pl_base.proofs.PagesRun.{there}
use Rattle.pl_base.proofs.VisitsRun.{has_visit_here, visit_here, visit_names, visits_run}
use Rattle.pl_base.proofs.Walk.{StandsAt, ends, goes_on, nears, stands}
use Rattle.pl_conditions.specs.Conditions.{in_times}
use Rattle.pl_query.proofs.PageParts.{NoneInTimes, any_of_page, none_more}
use Rattle.pl_query.proofs.candidates.pages.has_visit_in_times.Goals as goal

pub is_in_times-requires-clause-visit : goal.is_in_times-requires-clause-visit
is_in_times-requires-clause-visit g c =
    let kept : Kept = g.R.Rows.kept c.args.rows.now in
    let none = NoneInTimes (store_of kept) c.args.asked.now.query.now in
    has_visit_here kept c.args.page none c.in-Some.visit (g.met.R.Rows.well_kept c.args.rows.now)
    (stands visit_names (page_visits kept c.args.page) none c.loop-next.next c.in-Some.visit c.loop-next.invariant
    c.in-Some.is)

pub returns-then-is_in_times : goal.returns-then-is_in_times
returns-then-is_in_times g c =
    let kept : Kept = g.R.Rows.kept c.args.rows.now in
    let none = NoneInTimes (store_of kept) c.args.asked.now.query.now in
    let w : StandsAt visit_names (page_visits kept c.args.page) none c.in-Some.visit =
    stands visit_names (page_visits kept c.args.page) none c.loop-next.next c.in-Some.visit c.loop-next.invariant
    c.in-Some.is in
    sym (sym (any_of_page kept c.args.asked.now.query.now c.args.page)
    ∙ ap (list_any (λ (v : Visit). in_times (store_of kept) c.args.asked.now.query.now v.date)) w.whole
    ∙ there (λ (v : Visit). in_times (store_of kept) c.args.asked.now.query.now v.date) w.front w.element w.rest
    (sym (c.is_in_times.ensures w.element
    (visit_here kept c.args.page none c.in-Some.visit (g.met.R.Rows.well_kept c.args.rows.now) w))
    ∙ c.if-is_in_times.true))

pub loop-next-smaller : goal.loop-next-smaller
loop-next-smaller g c =
    let kept : Kept = g.R.Rows.kept c.args.rows.now in
    let none = NoneInTimes (store_of kept) c.args.asked.now.query.now in
    nears visit_names (older_visit kept) (page_visits kept c.args.page) none c.loop-next.next c.older-next.result
    c.in-Some.visit (visits_run kept c.args.page (g.met.R.Rows.well_kept c.args.rows.now))
    (stands visit_names (page_visits kept c.args.page) none c.loop-next.next c.in-Some.visit c.loop-next.invariant
    c.in-Some.is) c.in-Some.is c.older-next.ensures.older

pub loop-next-preserved : goal.loop-next-preserved
loop-next-preserved g c =
    let kept : Kept = g.R.Rows.kept c.args.rows.now in
    let none = NoneInTimes (store_of kept) c.args.asked.now.query.now in
    let w : StandsAt visit_names (page_visits kept c.args.page) none c.in-Some.visit =
    stands visit_names (page_visits kept c.args.page) none c.loop-next.next c.in-Some.visit c.loop-next.invariant
    c.in-Some.is in
    goes_on visit_names (older_visit kept) (page_visits kept c.args.page) none none c.in-Some.visit c.older-next.result
    (visits_run kept c.args.page (g.met.R.Rows.well_kept c.args.rows.now)) w c.older-next.ensures.older
    (none_more (store_of kept) c.args.asked.now.query.now w.front w.element w.so_far
    (sym (c.is_in_times.ensures w.element
    (visit_here kept c.args.page none c.in-Some.visit (g.met.R.Rows.well_kept c.args.rows.now) w))
    ∙ c.if-is_in_times.false))

pub returns : goal.returns
returns g c =
    let kept : Kept = g.R.Rows.kept c.args.rows.now in
    sym (sym (any_of_page kept c.args.asked.now.query.now c.args.page)
    ∙ ends visit_names (page_visits kept c.args.page) (NoneInTimes (store_of kept) c.args.asked.now.query.now)
    c.loop-next.next c.loop-next.invariant (λ id some. c.in_default.not-Some id some))
