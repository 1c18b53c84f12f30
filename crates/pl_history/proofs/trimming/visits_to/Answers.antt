use Rattle.std.proofs.Common.{◌++◌, ◌∷◌, [], ◌∙◌, List, None, ap, get_or, sym, take, true}
use Rattle.std.proofs.lemmas.List.{map-append, take_all, take_more}
use Rattle.pl_base.specs.declared.id.PageId.{PageId}
use Rattle.pl_base.specs.Rows.{Kept, page_visits}
use Rattle.pl_base.specs.Store.{Visit}
use Rattle.pl_history.specs.declared.trimming.StalePage.{StalePage}
use Rattle.pl_history.specs.Taken.{ids_of}
use Rattle.pl_history.proofs.StalePages.{stale_ids}
use Rattle.pl_history.proofs.TakenVisits.{filter_all, taken, taken_more}
use Rattle.pl_history.proofs.TrimmedPages.{stale_these}
use Rattle.pl_history.proofs.trimming.visits_to.Goals as goal

pub loop-stale-preserved : goal.loop-stale-preserved
loop-stale-preserved g c =
    let kept : Kept = g.R.Rows.kept c.args.rows.now in
    let page : StalePage =
    get_or c.args.pages.now c.loop-stale.stale-index (record { last = None; page = record { 0 = 0 } }) in
    let front : List StalePage = take c.loop-stale.stale-index c.args.pages.now in
    taken_more (λ _. true) kept (stale_ids front) page.page c.loop-stale.visits.items c.add_visits.new.visits.items
    c.loop-stale.invariant
    (c.in_ok-add_visits.ensures
    ∙ ap (λ (vs : List Visit). c.loop-stale.visits.items ++ ids_of vs) (sym (filter_all (page_visits kept page.page))))
    ∙ ap (λ (ids : List PageId). ids_of (taken (λ _. true) kept ids))
    (sym (ap stale_ids
    (take_more c.args.pages.now c.loop-stale.stale-index (record { last = None; page = record { 0 = 0 } })
    c.loop-stale-test.true)
    ∙ map-append (λ (p : StalePage). p.page) front (page ∷ [])))

pub returns : goal.returns
returns g c =
    let kept : Kept = g.R.Rows.kept c.args.rows.now in
    stale_these kept c.args.pages.now c.loop-stale.visits.items (g.met.R.Rows.well_kept c.args.rows.now)
    c.requires
    (c.loop-stale.invariant
    ∙ ap (λ (pages : List StalePage). ids_of (taken (λ _. true) kept (stale_ids pages)))
    (take_all c.loop-stale.stale-index c.args.pages.now c.loop-stale-test.false))
