use Rattle.pl_done.proofs.KnownAddresses.{views_told}
use Rattle.pl_visiting.proofs.history.expire.Goals as goal

pub expire-requires-clause-views : goal.expire-requires-clause-views
expire-requires-clause-views g c =
    views_told (g.R.Rows.kept c.args.rows.now) c.args.known.now c.deref.result.now c.deref.ensures.value
    c.requires.knows (g.met.R.Rows.well_kept c.args.rows.now)
