use Rattle.std.proofs.Common.{rules}
use Rattle.pl_score.proofs.Points.{points_of-le}
use Rattle.pl_score.proofs.sample.total_points.Goals as goal

pub sum-requires-clause-fits : goal.sum-requires-clause-fits
sum-requires-clause-fits c = search (rules, points_of-le c.args.day _ c.requires.ten c.requires.bonuses)

pub returns-clause-greatest : goal.returns-clause-greatest
returns-clause-greatest c = search (rules, points_of-le c.args.day _ c.requires.ten c.requires.bonuses)
