use Rattle.std.proofs.Common.{◌∙◌, ap, sym}
use Rattle.pl_follow.proofs.RankParts.{first_rank, rank_behind, rank_in}
use Rattle.pl_follow.proofs.order.OrderIndex.after.Goals as goal

pub returns-in_err-rank-in-Some : goal.returns-in_err-rank-in-Some
returns-in_err-rank-in-Some c =
    λ views orders.
    c.from_residual.ensures
    ∙ ap rank_in (sym c.in_err-rank-in-Some.was)
    ∙ rank_behind c.args.self.now views orders c.range.ensures.ordered c.in-Some.place c.range.result
    c.next_back.result c.next_back.new.self (c.range.ensures.between tt) c.next_back.ensures.steps c.args.place
    c.in-Some.is

pub returns-in_ok-rank-in-Some : goal.returns-in_ok-rank-in-Some
returns-in_ok-rank-in-Some c =
    λ views orders.
    ap rank_in (sym c.in_ok-rank-in-Some.was)
    ∙ rank_behind c.args.self.now views orders c.range.ensures.ordered c.in-Some.place c.range.result
    c.next_back.result c.next_back.new.self (c.range.ensures.between tt) c.next_back.ensures.steps c.args.place
    c.in-Some.is

pub returns-in-None : goal.returns-in-None
returns-in-None c =
    λ views orders.
    c.copied.ensures
    ∙ first_rank c.args.self.now views orders c.keys.ensures.ordered c.keys.result c.next_back-in-None.result
    c.next_back-in-None.new.self c.keys.ensures.rest c.next_back-in-None.ensures.steps c.args.place c.in-None.is
