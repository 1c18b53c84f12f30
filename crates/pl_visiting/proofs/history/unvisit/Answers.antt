use Rattle.pl_done.proofs.KnownAddresses.{views_told}
use Rattle.pl_visiting.proofs.Removals.{stands_alone}
use Rattle.pl_visiting.proofs.history.unvisit.Goals as goal

pub remove_visits-requires-clause-there : goal.remove_visits-requires-clause-there
remove_visits-requires-clause-there g c =
    stands_alone (g.R.Rows.kept c.args.rows.now) c.args.visit c.visit_at.result c.is_none.result
    c.visit_at.ensures.row c.is_none.ensures c.if-is_none.false

pub remove_visits-requires-clause-views : goal.remove_visits-requires-clause-views
remove_visits-requires-clause-views g c =
    views_told (g.R.Rows.kept c.args.rows.now) c.args.known.now c.deref.result.now c.deref.ensures.value
    c.requires.knows (g.met.R.Rows.well_kept c.args.rows.now)
