use Rattle.std.proofs.Common.{◌∙◌}
use Rattle.pl_follow.proofs.RankLists.{taken}
use Rattle.pl_follow.proofs.order.take_out.Goals as goal

pub returns-in-Some : goal.returns-in-Some
returns-in-Some g c =
    λ exact others apart stood.
    c.remove.ensures.keys
    ∙ taken g.K.Ord.cmp g.met.K.Ord.total exact c.args.leaving c.in-Some.leaving c.args.ranks.now.keys c.in-Some.is
    others apart stood
