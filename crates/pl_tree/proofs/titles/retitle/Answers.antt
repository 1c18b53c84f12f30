use Rattle.std.proofs.Common.{subst, sym}
use Rattle.pl_base.specs.Good.{HasGoodItems}
use Rattle.pl_base.specs.Rows.{Kept, store_of}
use Rattle.pl_tree.proofs.GoodChanges.{good_retitled}
use Rattle.pl_tree.proofs.titles.retitle.Goals as goal

pub returns-clause-good : goal.returns-clause-good
returns-clause-good g c =
    let kept : Kept = g.R.Rows.kept c.args.rows.now in
    subst (λ (k : Kept). HasGoodItems (store_of k)) (sym c.in_ok-set_item.ensures.kept)
    (good_retitled kept c.args.item c.args.title.now c.args.date (g.met.R.Rows.well_kept c.args.rows.now)
    c.requires.good (c.utf8.title, c.requires.title) c.requires.date (sym c.in_ok-may_change.ensures))
