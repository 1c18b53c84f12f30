use Rattle.trials_forms.proofs.Room.{room_item}
use Rattle.trials_forms.proofs.kept.set_item.Goals as goal

pub retitle-requires-clause-live : goal.retitle-requires-clause-live
retitle-requires-clause-live g c none =
    room_item (g.R.Rows.kept c.args.rows.now) c.args.item c.args.title.now c.args.date
    (g.met.R.Rows.well_kept c.args.rows.now) c.requires.item c.requires.live
