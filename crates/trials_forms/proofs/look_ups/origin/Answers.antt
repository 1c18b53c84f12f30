use Rattle.pl_base.proofs.OriginSums.{origin_named}
use Rattle.trials_forms.proofs.look_ups.origin.Goals as goal

pub origin_at-total-requires : goal.origin_at-total-requires
origin_at-total-requires g c =
    origin_named (g.R.Rows.kept c.args.rows.now) c.args.page c.origin_of-origin.result
    (g.met.R.Rows.well_kept c.args.rows.now) c.origin_of-origin.ensures.origin
