use Rattle.std.proofs.Common.{◌≡◌, take, true}
use Rattle.pl_history.specs.Taken.{ids_of}
use Rattle.pl_history.proofs.StalePages.{stale_ids}
use Rattle.pl_history.proofs.TakenVisits.{taken}
use Rattle.pl_history.proofs.trimming.visits_to.Given as goal

abbrev pub invariant-loop-stale : goal.invariant-loop-stale
invariant-loop-stale g l =
    l.visits.items ≡ ids_of (taken (λ _. true) (g.R.Rows.kept l.rows) (stale_ids (take l.stale-index l.pages)))
