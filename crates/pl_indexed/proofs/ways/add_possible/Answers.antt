use Rattle.std.proofs.Common.{map}
use Rattle.pl_indexed.specs.Found.{seen}
use Rattle.pl_indexed.proofs.SketchedViews.{none_joins}
use Rattle.pl_indexed.proofs.ways.add_possible.Goals as goal

pub returns-then-not-is_possible : goal.returns-then-not-is_possible
returns-then-not-is_possible c =
    none_joins c.args.asked.now.query.now c.args.view.now (map seen c.args.found.now.items)
    (c.is_possible.ensures c.args.asked.now.query.now c.args.known.now.views.items c.requires.possible c.requires.view
    c.if-not-is_possible.true)
