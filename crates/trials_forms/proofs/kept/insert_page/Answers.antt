use Rattle.trials_forms.proofs.GoodItems.{good_target}
use Rattle.trials_trees.proofs.Asked.{room_page}
use Rattle.trials_forms.proofs.kept.insert_page.Goals as goal

pub page_for-requires-clause-room : goal.page_for-requires-clause-room
page_for-requires-clause-room g c =
    room_page c.args.url.now c.args.target (g.R.Rows.kept c.args.rows.now) c.requires.id c.requires.live

pub returns : goal.returns
returns g c =
    good_target c.args.url.now c.args.target (g.R.Rows.kept c.args.rows.now) (g.R.Rows.kept c.page_for.new.rows)
    c.in_ok-page.page c.in_ok-page.ensures.page c.requires.good
