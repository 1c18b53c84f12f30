use Rattle.std.proofs.Common.{◌≡◌, ◌∙◌, IfSome, Option, ap, subst, sym, true, ℤ}
use Rattle.std.specs.Option.{option_copied, option_map}
use Rattle.pl_base.specs.declared.date.Micros.{Micros}
use Rattle.pl_base.specs.declared.id.PageId.{PageId}
use Rattle.pl_base.specs.declared.view.View.{View}
use Rattle.pl_follow.specs.Order.{frecency_ranks, is_ahead, is_later, next_rank, visit_ranks}
use Rattle.pl_indexed.specs.declared.walk.KeptOrder.{KeptOrder}
use Rattle.pl_indexed.specs.Walk.{next_in, stands_in}
use Rattle.pl_indexed.proofs.NextViews.{next_falling, next_latest, next_rising}
use Rattle.pl_indexed.proofs.walk.next_page.Goals as goal

pub returns-in-FrecencyFalling : goal.returns-in-FrecencyFalling
returns-in-FrecencyFalling c =
    λ views ordered orders.
    c.page_of.ensures
    ∙ ap (option_map (λ (r : ℤ × PageId). r.1))
    (c.after.ensures views orders
    ∙ ap (λ (place : Option (ℤ × PageId)). next_rank is_ahead place (frecency_ranks views))
    c.place_by_frecency.ensures)
    ∙ next_falling (option_copied c.args.behind) views
    ∙ ap (λ (order : KeptOrder). option_map (λ (v : View). v.id) (next_in order (option_copied c.args.behind) views))
    (sym c.in-FrecencyFalling.is)

pub returns-in-FrecencyRising : goal.returns-in-FrecencyRising
returns-in-FrecencyRising c =
    λ views ordered orders.
    c.page_of-in-FrecencyRising.ensures
    ∙ ap (option_map (λ (r : ℤ × PageId). r.1))
    (c.next_ahead.ensures views ordered orders
    ∙ ap (λ (place : Option (ℤ × PageId)). next_rank (λ x y. is_ahead y x) place (frecency_ranks views))
    c.place_by_frecency-in-FrecencyRising.ensures)
    ∙ next_rising (option_copied c.args.behind) views
    ∙ ap (λ (order : KeptOrder). option_map (λ (v : View). v.id) (next_in order (option_copied c.args.behind) views))
    (sym c.in-FrecencyRising.is)

pub returns-in-LatestFirst : goal.returns-in-LatestFirst
returns-in-LatestFirst c =
    λ views ordered orders.
    c.page_of-in-LatestFirst.ensures
    ∙ ap (option_map (λ (r : Micros × PageId). r.1))
    (c.visited_before.ensures views orders
    ∙ ap (λ (place : Option (Micros × PageId)). next_rank is_later place (visit_ranks views)) c.place_by_visit.ensures)
    ∙ next_latest (option_copied c.args.behind)
    (subst (λ (order : KeptOrder). IfSome (option_copied c.args.behind) (λ view. stands_in order view ≡ true))
    c.in-LatestFirst.is c.requires)
    views
    ∙ ap (λ (order : KeptOrder). option_map (λ (v : View). v.id) (next_in order (option_copied c.args.behind) views))
    (sym c.in-LatestFirst.is)
