use Rattle.std.proofs.Common.{◌∙◌}
use Rattle.pl_follow.proofs.RankLists.{put}
use Rattle.pl_follow.proofs.order.put_in.Goals as goal

pub returns-in_ok-insert : goal.returns-in_ok-insert
returns-in_ok-insert g c =
    λ exact others apart stood.
    c.in_ok-insert.ensures.keys
    ∙ put g.K.Ord.cmp g.met.K.Ord.total exact c.args.coming c.in-Some.coming c.args.ranks.now.keys c.in-Some.is
    others apart stood
