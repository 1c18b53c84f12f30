use Rattle.std.proofs.Common.{◌∙◌, ap, filter, reverse, subst, sym}
use Rattle.std.specs.List.{slice_get}
use Rattle.std.specs.Map.Iter.{TakesLast, deref}
use Rattle.pl_follow.specs.Order.{is_above, is_behind}
use Rattle.pl_follow.proofs.LastKey.{last_below, last_of_all}
use Rattle.pl_follow.proofs.RankLists.{next_is}
use Rattle.pl_follow.proofs.order.next_below.Goals as goal

pub returns-in-Some : goal.returns-in-Some
returns-in-Some g c =
    λ listed is.
    c.copied.ensures
    ∙ last_below g.K.Ord.cmp c.in-Some.place c.args.ranks.now.keys c.range.result c.next_back.result
    c.next_back.new.self (c.range.ensures.between tt) c.next_back.ensures.steps
    ∙ ap (λ place. slice_get (filter (is_behind (is_above g.K.Ord.cmp) place) (reverse c.args.ranks.now.keys)) 0)
    (sym c.in-Some.is)
    ∙ next_is g.K.Ord.cmp g.met.K.Ord.total c.args.ranks.now.keys listed c.range.ensures.ordered is c.args.place

pub returns-in-None : goal.returns-in-None
returns-in-None g c =
    λ listed is.
    c.copied-in-None.ensures
    ∙ last_of_all g.K.Ord.cmp c.args.ranks.now.keys c.next_back-in-None.result c.next_back-in-None.new.self
    (subst (λ ks. TakesLast deref ks c.next_back-in-None.result c.next_back-in-None.new.self) c.iter.ensures.rest
    c.next_back-in-None.ensures.steps)
    ∙ ap (λ place. slice_get (filter (is_behind (is_above g.K.Ord.cmp) place) (reverse c.args.ranks.now.keys)) 0)
    (sym c.in-None.is)
    ∙ next_is g.K.Ord.cmp g.met.K.Ord.total c.args.ranks.now.keys listed c.iter.ensures.ordered is c.args.place
