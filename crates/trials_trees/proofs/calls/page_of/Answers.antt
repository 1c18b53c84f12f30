use Rattle.trials_trees.proofs.Asked.{room_page}
use Rattle.trials_trees.proofs.calls.page_of.Goals as goal

pub page_for-requires-clause-room : goal.page_for-requires-clause-room
page_for-requires-clause-room g c =
    room_page c.args.url.now c.args.target (g.R.Rows.kept c.args.rows.now) c.requires.id c.requires.live
