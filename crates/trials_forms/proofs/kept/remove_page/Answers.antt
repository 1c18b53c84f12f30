use Rattle.trials_forms.proofs.GoodItems.{good_left}
use Rattle.trials_forms.proofs.kept.remove_page.Goals as goal

pub returns : goal.returns
returns g c =
    good_left c.args.page (g.R.Rows.kept c.args.rows.now) (g.R.Rows.kept c.remove_page.new.self)
    c.remove_page.ensures.kept c.requires.unreferenced c.requires.good
