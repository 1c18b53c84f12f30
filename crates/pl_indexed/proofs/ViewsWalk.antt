-- The walk along a kept order of views, with the pages that are found on it.
use Rattle.std.proofs.Common.{◌≡◌, ◌≢◌, ◌∙◌, ◌++◌, true, List, [], ◌∷◌, Option, Some, None, ap, map, refl, subst}
use Rattle.std.proofs.Common.{sym}
use Rattle.std.specs.Option.{option_copied}
use denote.Ref.{Bor}
use Rattle.pl_base.specs.declared.view.View.{View}
use Rattle.pl_base.proofs.ListLaws.{all-filter, everyone}
use Rattle.pl_base.proofs.LookUps.{where_passes}
use Rattle.pl_base.proofs.SortLaws.{all_sorted}
use Rattle.pl_base.proofs.Walk.{StandsAt, Walk, goes_on, holds_here, stands, starts}
use Rattle.pl_follow.specs.Changes.{AreInOrder}
use Rattle.pl_known.specs.Known.{view_of}
use Rattle.pl_place.specs.declared.query.Query.{Query}
use Rattle.pl_indexed.specs.declared.found.Found.{Found}
use Rattle.pl_indexed.specs.declared.walk.KeptOrder.{KeptOrder}
use Rattle.pl_indexed.specs.Answer.{taken}
use Rattle.pl_indexed.specs.Found.{AreFound, seen, seen_of}
use Rattle.pl_indexed.specs.Walk.{goes_ahead, next_in, stands_in}
use Rattle.pl_indexed.proofs.TakenViews.{joined, known_views}
use Rattle.pl_indexed.proofs.WalkOrder.{first_of_all, standing, view_names, views_run, walked}

-- the pages that a query takes of those in front in the order are found
abbrev pub Finds : Query → List Found → List View → Type 0
Finds q found front = AreFound q.sort (taken q front) found

abbrev pub OnWalk : KeptOrder → Query → List View → List Found → Option View → Type 0
OnWalk order q views found next = Walk (view_names order) (walked order views) (Finds q found) next

module _ (order : KeptOrder) (q : Query) (views : List View) (ordered : AreInOrder views) where
  pub begins : (found : List Found) (next : Option View) → found ≡ [] → next ≡ next_in order None views
      → OnWalk order q views found next
  begins found next none is =
      starts (view_names order) (walked order views) (Finds q found) next (is ∙ first_of_all order views ordered)
      (ap (map seen) none)

  module _ (found : List Found) (next : Option (Bor View)) (view : Bor View)
      (w : OnWalk order q views found (option_copied next)) (at : next ≡ Some view) where
    -- the view at which the walk stands
    pub here : StandsAt (view_names order) (walked order views) (Finds q found) view.now
    here = stands (view_names order) (walked order views) (Finds q found) (option_copied next) view.now w (ap option_copied at)

    pub known_here : view_of view.now.id views ≡ Some view.now
    known_here =
        subst (λ (v : View). view_of v.id views ≡ Some v) here.is
        (holds_here (view_names order) (walked order views) (Finds q found) (λ (v : View). view_of v.id views ≡ Some v)
        view.now
        (all_sorted (goes_ahead order) (λ (v : View). view_of v.id views ≡ Some v) (standing order views)
        (all-filter (λ (v : View). view_of v.id views ≡ Some v) (stands_in order) views (known_views views ordered)))
        here)

    pub stands_here : stands_in order view.now ≡ true
    stands_here =
        subst (λ (v : View). stands_in order v ≡ true) here.is
        (holds_here (view_names order) (walked order views) (Finds q found) (λ (v : View). stands_in order v ≡ true)
        view.now
        (all_sorted (goes_ahead order) (λ (v : View). stands_in order v ≡ true) (standing order views)
        (where_passes (λ (v : View). stands_in order v ≡ true) (stands_in order) views
        (everyone (λ (v : View). stands_in order v ≡ true → stands_in order v ≡ true) views (λ v is. is))))
        here)

    pub goes_further : (new : List Found) (further : Option View)
        → map seen new ≡ map seen found ++ map (seen_of q.sort) (taken q (view.now ∷ []))
        → further ≡ next_in order (Some view.now) views → OnWalk order q views new further
    goes_further new further more is =
        goes_on (view_names order) (λ (v : View). next_in order (Some v) views) (walked order views) (Finds q found)
        (Finds q new) view.now further (views_run order views ordered) here is
        (joined q here.front here.element found new here.so_far
        (subst (λ (v : View). map seen new ≡ map seen found ++ map (seen_of q.sort) (taken q (v ∷ []))) (sym here.is)
        more))

-- where the walk names no view, it is at its end
pub no_view : (next : Option (Bor View)) → ((v : Bor View) → next ≢ Some v) → (v : View) → option_copied next ≢ Some v
no_view None none v is = absurd (cc)
no_view (Some w) none v is = none w refl
