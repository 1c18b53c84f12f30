use Rattle.std.proofs.Common.{◌++◌, ◌∷◌, [], ◌∙◌, List, ap, sym, true}
use Rattle.pl_base.specs.declared.id.VisitId.{VisitId}
use Rattle.pl_base.specs.Rows.{Kept, older_visit, page_visits}
use Rattle.pl_base.specs.Store.{Visit}
use Rattle.pl_base.proofs.VisitsRun.{visit_names, visits_run}
use Rattle.pl_base.proofs.Walk.{StandsAt, ends, goes_on, nears, stands}
use Rattle.pl_history.specs.Taken.{ids_of}
use Rattle.pl_history.proofs.TakenVisits.{AreAdded, added_more, filter_all}
use Rattle.pl_history.proofs.expiration.add_visits.Goals as goal

pub loop-next-smaller : goal.loop-next-smaller
loop-next-smaller g c =
    let kept : Kept = g.R.Rows.kept c.args.rows.now in
    let added = AreAdded (λ _. true) c.args.visits.now.items c.loop-next.visits.items in
    nears visit_names (older_visit kept) (page_visits kept c.args.page) added c.loop-next.next c.older-next.result
    c.in-Some.visit (visits_run kept c.args.page (g.met.R.Rows.well_kept c.args.rows.now))
    (stands visit_names (page_visits kept c.args.page) added c.loop-next.next c.in-Some.visit c.loop-next.invariant
    c.in-Some.is) c.in-Some.is c.older-next.ensures.older

pub loop-next-preserved : goal.loop-next-preserved
loop-next-preserved g c =
    let kept : Kept = g.R.Rows.kept c.args.rows.now in
    let added = AreAdded (λ _. true) c.args.visits.now.items c.loop-next.visits.items in
    let w : StandsAt visit_names (page_visits kept c.args.page) added c.in-Some.visit =
    stands visit_names (page_visits kept c.args.page) added c.loop-next.next c.in-Some.visit c.loop-next.invariant
    c.in-Some.is in
    goes_on visit_names (older_visit kept) (page_visits kept c.args.page) added
    (AreAdded (λ _. true) c.args.visits.now.items c.push.new.self.items) c.in-Some.visit c.older-next.result
    (visits_run kept c.args.page (g.met.R.Rows.well_kept c.args.rows.now)) w c.older-next.ensures.older
    (added_more (λ _. true) c.args.visits.now.items c.loop-next.visits.items c.push.new.self.items w.front w.element
    w.so_far
    (c.in_ok-push.ensures.items ∙ ap (λ (id : VisitId). c.loop-next.visits.items ++ id ∷ []) (sym w.is)))

pub returns : goal.returns
returns g c =
    let kept : Kept = g.R.Rows.kept c.args.rows.now in
    ends visit_names (page_visits kept c.args.page) (AreAdded (λ _. true) c.args.visits.now.items
    c.loop-next.visits.items) c.loop-next.next c.loop-next.invariant (λ id some. c.in_default.not-Some id some)
    ∙ ap (λ (vs : List Visit). c.args.visits.now.items ++ ids_of vs) (filter_all (page_visits kept c.args.page))
