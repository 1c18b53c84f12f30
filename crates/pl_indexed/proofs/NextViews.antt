-- The view next behind one in a kept order, told by the ranks that are kept.
use Rattle.std.proofs.Common.{◌≡◌, ◌∙◌, ◌==◌, ◌&&◌, ◌||◌, ℕ, ℤ, Bool, true, List, [], ◌∷◌, Option, Some, None}
use Rattle.std.proofs.Common.{IfSome, ap, arith, filter, if◌then◌else◌, is_lt, is_some, map, nat_cmp, nat_lt}
use Rattle.std.proofs.Common.{refl, sym}
use Rattle.std.specs.List.{AllByRecursion, filter_map, slice_get}
use Rattle.std.specs.Option.{option_and_then, option_map}
use Rattle.std.specs.Ordering.{ordering_then}
use Rattle.std.proofs.lemmas.Bool.Decides.{nat_tests}
use Rattle.std.proofs.lemmas.Option.{slice_get-map}
use Rattle.pl_base.specs.declared.date.Micros.{Micros}
use Rattle.pl_base.specs.declared.id.PageId.{PageId}
use Rattle.pl_base.specs.declared.view.View.{View}
use Rattle.pl_base.specs.Sorting.{sorted_by}
use Rattle.pl_base.proofs.ListLaws.{all-filter, all_stay, everyone, filter-map}
use Rattle.pl_base.proofs.SortLaws.{all_sorted, sorted_map}
use Rattle.pl_follow.specs.Changes.{AreInOrder}
use Rattle.pl_follow.specs.Order.{frecency_ranks, is_ahead, is_behind, is_later, next_rank, rank_of}
use Rattle.pl_follow.specs.Order.{visit_rank_of, visit_ranks}
use Rattle.pl_follow.proofs.ViewRanks.{ahead_below}
use Rattle.pl_known.specs.Known.{view_of}
use Rattle.pl_query.specs.Order.{date_cmp}
use Rattle.pl_indexed.specs.declared.walk.KeptOrder.{KeptOrder}
use Rattle.pl_indexed.specs.declared.walk.KeptOrder.TheVariants.{FrecencyFalling, FrecencyRising, LatestFirst}
use Rattle.pl_indexed.specs.Walk.{goes_ahead, next_in, stands_in}
use Rattle.pl_indexed.proofs.TakenViews.{known_views}

-- ---- ranks of members

all_kept : (views : List View) → filter (λ (v : View). true) views ≡ views
all_kept views = all_stay (λ (v : View). true) views (everyone (λ (v : View). true ≡ true) views (λ v. refl))

-- the next rank is that of the next member
next_mapped : {X R : Type 0} (rank : X → R) (ahead : R → R → Bool) (place : Option X) (xs : List X)
    → next_rank ahead (option_map rank place) (map rank xs)
    ≡ option_map rank (next_rank (λ x y. ahead (rank x) (rank y)) place xs)
next_mapped rank ahead place xs =
    ap (λ rs. slice_get (sorted_by ahead rs) 0) (filter-map (is_behind ahead (option_map rank place)) rank xs)
    ∙ ap (λ ys. slice_get (sorted_by ahead (map rank ys)) 0) (behind place)
    ∙ ap (λ rs. slice_get rs 0)
    (sym (sorted_map rank ahead (filter (is_behind (λ x y. ahead (rank x) (rank y)) place) xs)))
    ∙ slice_get-map rank
    (sorted_by (λ x y. ahead (rank x) (rank y)) (filter (is_behind (λ x y. ahead (rank x) (rank y)) place) xs)) 0
  where
    behind : (p : Option _) → filter (λ x. is_behind ahead (option_map rank p) (rank x)) xs
        ≡ filter (is_behind (λ x y. ahead (rank x) (rank y)) p) xs
    behind None = refl
    behind (Some p) = refl

ids_of : {K : Type 0} (key : View → K) (o : Option View)
    → option_map (λ (r : K × PageId). r.1) (option_map (λ (v : View). (key v, v.id)) o)
    ≡ option_map (λ (v : View). v.id) o
ids_of key None = refl
ids_of key (Some v) = refl

-- ---- by frecency

pub next_falling : (place : Option View) (views : List View)
    → option_map (λ (r : ℤ × PageId). r.1) (next_rank is_ahead (option_map rank_of place) (frecency_ranks views))
    ≡ option_map (λ (v : View). v.id) (next_in FrecencyFalling place views)
next_falling place views =
    ap (option_map (λ (r : ℤ × PageId). r.1)) (next_mapped rank_of is_ahead place views)
    ∙ ids_of (λ (v : View). v.frecency) (next_rank (λ (v w : View). is_ahead (rank_of v) (rank_of w)) place views)
    ∙ (λ i. option_map (λ (v : View). v.id)
    (next_rank (λ (v w : View). sym (ahead_below (rank_of v) (rank_of w)) i) place views))
    ∙ ap (λ vs. option_map (λ (v : View). v.id) (next_rank (goes_ahead FrecencyFalling) place vs)) (sym (all_kept views))

pub next_rising : (place : Option View) (views : List View)
    → option_map (λ (r : ℤ × PageId). r.1)
    (next_rank (λ x y. is_ahead y x) (option_map rank_of place) (frecency_ranks views))
    ≡ option_map (λ (v : View). v.id) (next_in FrecencyRising place views)
next_rising place views =
    ap (option_map (λ (r : ℤ × PageId). r.1)) (next_mapped rank_of (λ x y. is_ahead y x) place views)
    ∙ ids_of (λ (v : View). v.frecency) (next_rank (λ (v w : View). is_ahead (rank_of w) (rank_of v)) place views)
    ∙ (λ i. option_map (λ (v : View). v.id)
    (next_rank (λ (v w : View). sym (ahead_below (rank_of w) (rank_of v)) i) place views))
    ∙ ap (λ vs. option_map (λ (v : View). v.id) (next_rank (goes_ahead FrecencyRising) place vs)) (sym (all_kept views))

-- ---- by visit

-- the date of the latest visit, if there is one, and the id
abbrev dated : View → Option Micros × PageId
dated v = (v.last, v.id)

abbrev dated_rank : Micros × PageId → Option Micros × PageId
dated_rank r = (Some r.0, r.1)

abbrev is_later_dated : Option Micros × PageId → Option Micros × PageId → Bool
is_later_dated x y = is_lt (ordering_then (date_cmp y.0 x.0) (nat_cmp y.1.0 x.1.0))

later_dated : (x y : Micros × PageId) → is_later x y ≡ is_later_dated (dated_rank x) (dated_rank y)
later_dated x y = dates x.0.0 y.0.0 x.1.0 y.1.0
  where
    dates : (a b m n : ℕ)
        → (nat_lt b a || ((a == b) && nat_lt n m)) ≡ is_lt (ordering_then (nat_cmp b a) (nat_cmp n m))
    dates a b m n = grind (arith, nat_tests)

ranks_dated : (views : List View) → map dated_rank (visit_ranks views) ≡ map dated (filter (stands_in LatestFirst) views)
ranks_dated [] = refl
ranks_dated (v ∷ vs) = choose v.last refl (ranks_dated vs)
  where
    choose : (last : Option Micros) → v.last ≡ last
        → map dated_rank (visit_ranks vs) ≡ map dated (filter (stands_in LatestFirst) vs)
        → map dated_rank (filter_map visit_rank_of (v ∷ vs))
        ≡ map dated (if is_some v.last then v ∷ filter (stands_in LatestFirst) vs else filter (stands_in LatestFirst) vs)
    choose None is rest = rw is rest
    choose (Some date) is rest = rw is (ap (λ rs. (Some date, v.id) ∷ rs) rest)

place_dated : (place : Option View) → IfSome place (λ v. stands_in LatestFirst v ≡ true)
    → option_map dated_rank (option_and_then visit_rank_of place) ≡ option_map dated place
place_dated None stands = refl
place_dated (Some v) stands = choose v.last refl stands
  where
    choose : (last : Option Micros) → v.last ≡ last → is_some last ≡ true
        → option_map dated_rank (option_map (λ (date : Micros). (date, v.id)) v.last) ≡ Some (v.last, v.id)
    choose None is stands = absurd (cc)
    choose (Some date) is stands = rw is refl

pub next_latest : (place : Option View) → IfSome place (λ v. stands_in LatestFirst v ≡ true) → (views : List View)
    → option_map (λ (r : Micros × PageId). r.1)
    (next_rank is_later (option_and_then visit_rank_of place) (visit_ranks views))
    ≡ option_map (λ (v : View). v.id) (next_in LatestFirst place views)
next_latest place stands views =
    same_id (next_rank is_later (option_and_then visit_rank_of place) (visit_ranks views))
    ∙ ap (option_map (λ (r : Option Micros × PageId). r.1))
    ((λ i. option_map dated_rank (next_rank (λ x y. later_dated x y i) (option_and_then visit_rank_of place) (visit_ranks views)))
    ∙ sym (next_mapped dated_rank is_later_dated (option_and_then visit_rank_of place) (visit_ranks views))
    ∙ ap (λ p. next_rank is_later_dated p (map dated_rank (visit_ranks views))) (place_dated place stands)
    ∙ ap (next_rank is_later_dated (option_map dated place)) (ranks_dated views)
    ∙ next_mapped dated is_later_dated place (filter (stands_in LatestFirst) views))
    ∙ ids_of (λ (v : View). v.last) (next_in LatestFirst place views)
  where
    same_id : (o : Option (Micros × PageId)) → option_map (λ (r : Micros × PageId). r.1) o
        ≡ option_map (λ (r : Option Micros × PageId). r.1) (option_map dated_rank o)
    same_id None = refl
    same_id (Some r) = refl

-- ---- the view

module _ (order : KeptOrder) (place : Option View) (views : List View) (ordered : AreInOrder views) where
  -- the next view is found by its id
  pub known_next : IfSome (next_in order place views) (λ (v : View). view_of v.id views ≡ Some v)
  known_next =
      first (sorted_by (goes_ahead order) (filter (is_behind (goes_ahead order) place) (filter (stands_in order) views)))
      (all_sorted (goes_ahead order) (λ (v : View). view_of v.id views ≡ Some v)
      (filter (is_behind (goes_ahead order) place) (filter (stands_in order) views))
      (all-filter (λ (v : View). view_of v.id views ≡ Some v) (is_behind (goes_ahead order) place)
      (filter (stands_in order) views)
      (all-filter (λ (v : View). view_of v.id views ≡ Some v) (stands_in order) views (known_views views ordered))))
    where
      first : (vs : List View) → AllByRecursion (λ (v : View). view_of v.id views ≡ Some v) vs
          → IfSome (slice_get vs 0) (λ (v : View). view_of v.id views ≡ Some v)
      first [] all = tt
      first (v ∷ vs) all = all.0

  pub none_next : option_map (λ (v : View). v.id) (next_in order place views) ≡ None → None ≡ next_in order place views
  none_next is = choose (next_in order place views) is
    where
      choose : (o : Option View) → option_map (λ (v : View). v.id) o ≡ None → None ≡ o
      choose None is = refl
      choose (Some v) is = absurd (cc)

  pub one_next : (page : PageId) → Some page ≡ option_map (λ (v : View). v.id) (next_in order place views)
      → view_of page views ≡ next_in order place views
  one_next page is = choose (next_in order place views) is known_next
    where
      choose : (o : Option View) → Some page ≡ option_map (λ (v : View). v.id) o
          → IfSome o (λ (v : View). view_of v.id views ≡ Some v) → view_of page views ≡ o
      choose None is known = absurd (cc)
      choose (Some v) is known =
          ap (λ (o : Option PageId). view_of_some o) is ∙ known
        where
          view_of_some : Option PageId → Option View
          view_of_some None = None
          view_of_some (Some id) = view_of id views
