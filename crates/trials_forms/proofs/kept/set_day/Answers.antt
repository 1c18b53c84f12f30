use Rattle.std.proofs.Common.{refl}
use Rattle.pl_base.specs.Rows.{with_day}
use Rattle.trials_forms.proofs.GoodItems.{good_still}
use Rattle.trials_forms.proofs.kept.set_day.Goals as goal

pub returns : goal.returns
returns g c =
    good_still (g.R.Rows.kept c.args.rows.now) (with_day c.args.day (g.R.Rows.kept c.args.rows.now))
    (g.R.Rows.kept c.set_day.new.self) c.set_day.ensures.kept refl (λ id there. there) c.requires.good
