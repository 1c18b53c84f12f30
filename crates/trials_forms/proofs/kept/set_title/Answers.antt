use Rattle.std.proofs.Common.{◌∙◌, refl}
use Rattle.pl_base.specs.Rows.{with_title}
use Rattle.trials_forms.proofs.GoodItems.{good_still, has_titled}
use Rattle.trials_forms.proofs.Room.{room_title}
use Rattle.trials_forms.proofs.kept.set_title.Goals as goal

pub set_title-requires-clause-live : goal.set_title-requires-clause-live
set_title-requires-clause-live g c =
    room_title (g.R.Rows.kept c.args.rows.now) c.args.page c.args.title.now
    (g.met.R.Rows.well_kept c.args.rows.now) c.requires.page c.requires.live

pub returns : goal.returns
returns g c =
    good_still (g.R.Rows.kept c.args.rows.now)
    (with_title c.args.page c.args.title.now (g.R.Rows.kept c.args.rows.now)) (g.R.Rows.kept c.set_title.new.self)
    c.in_ok-set_title.ensures.kept refl
    (λ id there. has_titled (g.R.Rows.kept c.args.rows.now) c.args.page c.args.title.now id ∙ there) c.requires.good
