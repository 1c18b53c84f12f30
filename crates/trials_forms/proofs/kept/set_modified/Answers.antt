use Rattle.std.proofs.Common.{subst, sym}
use Rattle.pl_base.specs.Good.{HasGoodItems}
use Rattle.pl_base.specs.Rows.{Kept, store_of}
use Rattle.trials_forms.proofs.GoodItems.{good_redated}
use Rattle.trials_forms.proofs.kept.set_modified.Goals as goal

pub returns : goal.returns
returns g c =
    subst (λ (k : Kept). HasGoodItems (store_of k)) (sym c.set_modified.ensures.kept)
    (good_redated (g.R.Rows.kept c.args.rows.now) c.args.item c.args.modified
    (g.met.R.Rows.well_kept c.args.rows.now) c.requires.item c.requires.allowed c.requires.modified c.requires.good)
