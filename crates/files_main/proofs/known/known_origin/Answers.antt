use Rattle.pl_base.proofs.OriginSums.{origin_named}
use Rattle.files_main.proofs.known.known_origin.Goals as goal

pub returns : goal.returns
returns g c =
    origin_named (g.R.Rows.kept c.args.rows.now) c.args.page c.origin_of.result (g.met.R.Rows.well_kept c.args.rows.now)
    c.origin_of.ensures.origin
