use Rattle.std.proofs.Common.{◌∙◌, Option, ap, sym, ℤ}
use Rattle.std.specs.Iterator.Adapters.{rev_source}
use Rattle.pl_base.specs.declared.id.PageId.{PageId}
use Rattle.pl_follow.specs.Order.{frecency_ranks, is_ahead, next_rank}
use Rattle.pl_follow.proofs.RankParts.{rank_in}
use Rattle.pl_indexed.proofs.NextAhead.{last_of_all, next_up}
use Rattle.pl_indexed.proofs.walk.next_ahead.Goals as goal

pub returns-in_err-rank-in-Some : goal.returns-in_err-rank-in-Some
returns-in_err-rank-in-Some c =
    λ views ordered orders.
    c.from_residual.ensures
    ∙ ap rank_in (sym c.in_err-rank-in-Some.was)
    ∙ next_up views ordered c.in-Some.place (rev_source c.ahead.result) c.next_back.result
    (rev_source c.next_back.new.self) (c.ahead.ensures.order views orders) c.next_back.ensures.steps
    ∙ ap (λ (place : Option (ℤ × PageId)). next_rank (λ x y. is_ahead y x) place (frecency_ranks views))
    (sym c.in-Some.is)

pub returns-in_ok-rank-in-Some : goal.returns-in_ok-rank-in-Some
returns-in_ok-rank-in-Some c =
    λ views ordered orders.
    ap rank_in (sym c.in_ok-rank-in-Some.was)
    ∙ next_up views ordered c.in-Some.place (rev_source c.ahead.result) c.next_back.result
    (rev_source c.next_back.new.self) (c.ahead.ensures.order views orders) c.next_back.ensures.steps
    ∙ ap (λ (place : Option (ℤ × PageId)). next_rank (λ x y. is_ahead y x) place (frecency_ranks views))
    (sym c.in-Some.is)

pub returns-in-None : goal.returns-in-None
returns-in-None c =
    λ views ordered orders.
    c.copied.ensures
    ∙ last_of_all views ordered c.upward.result c.next.result c.next.new.self (c.upward.ensures.order views orders)
    c.next.ensures.steps
    ∙ ap (λ (place : Option (ℤ × PageId)). next_rank (λ x y. is_ahead y x) place (frecency_ranks views))
    (sym c.in-None.is)
