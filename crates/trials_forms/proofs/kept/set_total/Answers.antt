use Rattle.std.proofs.Common.{refl}
use Rattle.pl_base.specs.Rows.{with_total}
use Rattle.pl_base.proofs.OriginSums.{origin_named}
use Rattle.trials_forms.proofs.GoodItems.{good_still}
use Rattle.trials_forms.proofs.kept.set_total.Goals as goal

pub set_total-requires : goal.set_total-requires
set_total-requires g c =
    origin_named (g.R.Rows.kept c.args.rows.now) c.args.page c.origin_of-origin.result
    (g.met.R.Rows.well_kept c.args.rows.now) c.origin_of-origin.ensures.origin

pub returns : goal.returns
returns g c =
    good_still (g.R.Rows.kept c.args.rows.now)
    (with_total c.origin_of-origin.result c.args.total (g.R.Rows.kept c.args.rows.now))
    (g.R.Rows.kept c.set_total.new.self) c.set_total.ensures.kept refl (λ id there. there) c.requires.good
