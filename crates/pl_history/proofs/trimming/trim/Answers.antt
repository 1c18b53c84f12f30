use Rattle.std.proofs.Common.{◌∙◌, List, subst, sym}
use Rattle.std.proofs.lemmas.Result.{on_ok_weaker}
use Rattle.pl_base.specs.declared.id.VisitId.{VisitId}
use Rattle.pl_base.specs.Expiration.{trimmed_pages, visits_to}
use Rattle.pl_base.specs.Rows.{Kept, store_of}
use Rattle.pl_history.specs.Taken.{AreThese}
use Rattle.pl_history.proofs.TakenVisits.{these_gone}
use Rattle.pl_history.proofs.TrimmedPages.{trimmed_apart, trimmed_are, trimmed_visits}
use Rattle.pl_history.proofs.trimming.trim.Goals as goal

pub visits_to-requires : goal.visits_to-requires
visits_to-requires g c =
    let kept : Kept = g.R.Rows.kept c.args.rows.now in
    trimmed_apart kept c.args.most c.deref.result.now (g.met.R.Rows.well_kept c.args.rows.now)
    (trimmed_are kept c.args.most c.page_count.result c.saturating_sub-excess.result c.in_ok-pages.pages.items
    c.deref.result.now c.in_ok-pages.ensures (c.deref.ensures.value ∙ c.truncate.ensures.items) c.page_count.ensures
    c.saturating_sub-excess.ensures)

pub returns-clause-store : goal.returns-clause-store
returns-clause-store g c =
    let kept : Kept = g.R.Rows.kept c.args.rows.now in
    let wanted : List VisitId = visits_to (trimmed_pages c.args.most (store_of kept)) (store_of kept) in
    let named : AreThese wanted kept c.in_ok-visits.visits.items =
    subst (λ (ids : List VisitId). AreThese ids kept c.in_ok-visits.visits.items)
    (trimmed_visits c.args.most (store_of kept) c.deref.result.now
    (trimmed_are kept c.args.most c.page_count.result c.saturating_sub-excess.result c.in_ok-pages.pages.items
    c.deref.result.now c.in_ok-pages.ensures (c.deref.ensures.value ∙ c.truncate.ensures.items) c.page_count.ensures
    c.saturating_sub-excess.ensures))
    c.in_ok-visits.ensures in
    let these : AreThese wanted kept c.deref-2.result.now =
    subst (AreThese wanted kept) (sym c.deref-2.ensures.value) named in
    on_ok_weaker c.remove_visits.result
    (these_gone wanted c.deref-2.result.now kept (store_of (g.R.Rows.kept c.remove_visits.new.rows)) these)
    c.remove_visits.ensures.store
