use Rattle.std.proofs.Common.{refl}
use Rattle.pl_base.specs.Rows.{without_visit}
use Rattle.trials_forms.proofs.GoodItems.{good_still}
use Rattle.trials_forms.proofs.kept.remove_visit.Goals as goal

pub returns : goal.returns
returns g c =
    good_still (g.R.Rows.kept c.args.rows.now) (without_visit c.args.visit (g.R.Rows.kept c.args.rows.now))
    (g.R.Rows.kept c.remove_visit.new.self) c.remove_visit.ensures.kept refl (λ id there. there) c.requires.good
