use Rattle.std.proofs.Common.{◌∙◌}
use Rattle.std.proofs.lemmas.Result.{on_ok_weaker}
use Rattle.pl_base.specs.Rows.{Kept, store_of}
use Rattle.pl_base.specs.Visits.{visits_of}
use Rattle.pl_history.specs.Taken.{ids_of}
use Rattle.pl_history.proofs.TakenVisits.{page_these, these_gone}
use Rattle.pl_history.proofs.expiration.forget.Goals as goal

pub remove_visits-requires-clause-there : goal.remove_visits-requires-clause-there
remove_visits-requires-clause-there g c =
    (page_these (g.R.Rows.kept c.args.rows.now) c.args.page c.new-visits.result.items c.deref.result.now
    (g.met.R.Rows.well_kept c.args.rows.now) c.new-visits.ensures.items
    (c.deref.ensures.value ∙ c.in_ok-add_visits.ensures)).there

pub remove_visits-requires-clause-apart : goal.remove_visits-requires-clause-apart
remove_visits-requires-clause-apart g c =
    (page_these (g.R.Rows.kept c.args.rows.now) c.args.page c.new-visits.result.items c.deref.result.now
    (g.met.R.Rows.well_kept c.args.rows.now) c.new-visits.ensures.items
    (c.deref.ensures.value ∙ c.in_ok-add_visits.ensures)).apart

pub returns-clause-store : goal.returns-clause-store
returns-clause-store g c =
    let kept : Kept = g.R.Rows.kept c.args.rows.now in
    on_ok_weaker c.remove_visits.result
    (these_gone (ids_of (visits_of (store_of kept) c.args.page)) c.deref.result.now kept
    (store_of (g.R.Rows.kept c.remove_visits.new.rows))
    (page_these kept c.args.page c.new-visits.result.items c.deref.result.now
    (g.met.R.Rows.well_kept c.args.rows.now) c.new-visits.ensures.items
    (c.deref.ensures.value ∙ c.in_ok-add_visits.ensures)))
    c.remove_visits.ensures.store
