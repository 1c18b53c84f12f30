use Rattle.std.proofs.Common.{List, subst, sym}
use Rattle.std.proofs.lemmas.Result.{on_ok_weaker}
use Rattle.pl_base.specs.declared.id.VisitId.{VisitId}
use Rattle.pl_base.specs.Expiration.{visits_before}
use Rattle.pl_base.specs.Rows.{Kept, store_of}
use Rattle.pl_history.specs.Taken.{AreThese}
use Rattle.pl_history.proofs.TakenVisits.{these_gone}
use Rattle.pl_history.proofs.expiration.expire.Goals as goal

pub returns-clause-store : goal.returns-clause-store
returns-clause-store g c =
    let kept : Kept = g.R.Rows.kept c.args.rows.now in
    let wanted : List VisitId = visits_before c.args.day (store_of kept) in
    let these : AreThese wanted kept c.deref.result.now =
    subst (AreThese wanted kept) (sym c.deref.ensures.value) c.in_ok-visits.ensures in
    on_ok_weaker c.remove_visits.result
    (these_gone wanted c.deref.result.now kept (store_of (g.R.Rows.kept c.remove_visits.new.rows)) these)
    c.remove_visits.ensures.store
