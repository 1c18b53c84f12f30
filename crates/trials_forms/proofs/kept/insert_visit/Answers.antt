use Rattle.std.proofs.Common.{refl}
use Rattle.pl_base.specs.Rows.{with_visit}
use Rattle.trials_forms.proofs.GoodItems.{good_still}
use Rattle.trials_forms.proofs.kept.insert_visit.Goals as goal

pub returns : goal.returns
returns g c =
    good_still (g.R.Rows.kept c.args.rows.now) (with_visit c.args.row.now (g.R.Rows.kept c.args.rows.now))
    (g.R.Rows.kept c.insert_visit.new.self) c.in_ok-visit.ensures.kept refl (λ id there. there) c.requires.good
