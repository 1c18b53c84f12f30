use Rattle.std.proofs.Common.{◌∙◌, refl}
use Rattle.pl_base.specs.Rows.{with_mark}
use Rattle.pl_history.proofs.RemovedRows.{has_marked}
use Rattle.trials_forms.proofs.GoodItems.{good_still}
use Rattle.trials_forms.proofs.kept.set_mark.Goals as goal

pub returns : goal.returns
returns g c =
    good_still (g.R.Rows.kept c.args.rows.now) (with_mark c.args.page c.args.mark (g.R.Rows.kept c.args.rows.now))
    (g.R.Rows.kept c.set_mark.new.self) c.set_mark.ensures.kept refl
    (λ id there. has_marked (g.R.Rows.kept c.args.rows.now) c.args.page c.args.mark id ∙ there) c.requires.good
