-- The rank next ahead of a place, as the walks over the entries of views give it.
use Rattle.std.proofs.Common.{◌≡◌, ◌≢◌, ◌∙◌, ℤ, Bool, true, List, [], ◌∷◌, Option, Some, None, Bor, ap, filter, map, ◌++◌}
use Rattle.std.proofs.Common.{refl, reverse, sym}
use Rattle.std.specs.Cmp.{IsStrictWeakOrder}
use Rattle.std.specs.List.{AllPairs, IsDistinct, slice_get}
use Rattle.std.specs.List.Sorted.{ties}
use Rattle.std.specs.Map.Iter.{TakesFirst, deref, deref_pair}
use Rattle.std.specs.Option.{option_copied}
use Rattle.std.specs.Ordering.{int_cmp, nat_cmp}
use Rattle.std.proofs.lemmas.Grind.{reverse_onto}
use Rattle.std.proofs.lemmas.List.{map-append, reverse-reverse}
use Rattle.std.proofs.lemmas.List.Kept.{AllPairs-filter}
use Rattle.std.proofs.lemmas.List.Sorted.{ranks_by}
use Rattle.std.proofs.lemmas.Map.Lookups.{exact_unsigned}
use Rattle.pl_base.specs.declared.id.PageId.{PageId}
use Rattle.pl_base.specs.declared.view.View.{View}
use Rattle.pl_base.specs.Sorting.{sorted_by}
use Rattle.pl_base.proofs.ListLaws.{AllPairs-map, all_stay, everyone, filter-map, map-map}
use Rattle.pl_base.proofs.SortLaws.{none_tie, sorted_map}
use Rattle.pl_sketch.specs.declared.sketch.Sketch.{Sketch}
use Rattle.pl_follow.specs.Changes.{AreInOrder}
use Rattle.pl_follow.specs.Order.{entries_of, frecency_ranks, is_ahead, is_below, leads, next_rank, rank_of}
use Rattle.pl_follow.proofs.EntriesFollow.{Entry}
use Rattle.pl_follow.proofs.LastKey.{filter_reversed}
use Rattle.pl_follow.proofs.RankParts.{rank_in}
use Rattle.pl_follow.proofs.ViewRanks.{ahead_below, both_equal, frecency_cmp, frecency_total}
use Rattle.pl_indexed.proofs.KeyOrder.{tied_equal}
use Rattle.pl_indexed.proofs.SortedParts.{filter_sorted, turned}
use Rattle.pl_indexed.proofs.WalkOrder.{ids_differ}

abbrev below : ℤ × PageId → ℤ × PageId → Bool
below = is_below frecency_cmp

below_ranks : IsStrictWeakOrder below
below_ranks = ranks_by frecency_total (λ (r : ℤ × PageId). r)

ahead_turned : (λ (x y : ℤ × PageId). below y x) ≡ is_ahead
ahead_turned i x y = ahead_below x y i

tied : (x y : ℤ × PageId) → ties below x y ≡ true → x.1.0 ≡ y.1.0
tied x y tie =
    exact_unsigned x.1.0 y.1.0
    (both_equal (int_cmp x.0 y.0) (nat_cmp x.1.0 y.1.0) (tied_equal frecency_cmp frecency_total x y tie)).1

map-reverse : {X Y : Type 0} (f : X → Y) (xs : List X) → map f (reverse xs) ≡ reverse (map f xs)
map-reverse f [] = refl
map-reverse f (x ∷ xs) =
    ap (map f) (reverse_onto xs x []) ∙ map-append f (reverse xs) (x ∷ [])
    ∙ ap (λ ys. ys ++ f x ∷ []) (map-reverse f xs) ∙ sym (reverse_onto (map f xs) (f x) [])

module _ (views : List View) (ordered : AreInOrder views) where
  abbrev ranks : List (ℤ × PageId)
  ranks = frecency_ranks views

  apart : AllPairs (λ (x y : ℤ × PageId). x.1.0 ≢ y.1.0) ranks
  apart = AllPairs-map (λ (x y : ℤ × PageId). x.1.0 ≢ y.1.0) rank_of views (ids_differ views ordered)

  some_apart : (test : ℤ × PageId → Bool) → IsDistinct (ties below) (filter test ranks)
  some_apart test =
      none_tie below (λ (r : ℤ × PageId). r.1.0) tied (filter test ranks)
      (AllPairs-filter (λ (x y : ℤ × PageId). x.1.0 ≢ y.1.0) test ranks apart)

  all_apart : IsDistinct (ties below) ranks
  all_apart = none_tie below (λ (r : ℤ × PageId). r.1.0) tied ranks apart

  turned_apart : IsDistinct (ties (λ (x y : ℤ × PageId). below y x)) ranks
  turned_apart =
      none_tie (λ (x y : ℤ × PageId). below y x) (λ (r : ℤ × PageId). r.1.0) (λ x y tie. sym (tied y x tie)) ranks apart

  upwards : reverse (sorted_by is_ahead ranks) ≡ sorted_by below ranks
  upwards =
      ap reverse (ap (λ before. sorted_by before ranks) (sym ahead_turned)
      ∙ turned below below_ranks ranks all_apart turned_apart)
      ∙ reverse-reverse (sorted_by below ranks)

  below_is : sorted_by below ≡ sorted_by (λ (x y : ℤ × PageId). is_ahead y x)
  below_is = λ i rs. sorted_by (λ (x y : ℤ × PageId). ahead_below y x i) rs

  -- ahead of a place
  entries_ahead : (place : ℤ × PageId)
      → map (λ (e : Entry). e.0) (filter (λ (e : Entry). is_ahead e.0 place) (sorted_by leads (entries_of views)))
      ≡ filter (λ rank. is_ahead rank place) (sorted_by is_ahead ranks)
  entries_ahead place =
      sym (filter-map (λ rank. is_ahead rank place) (λ (e : Entry). e.0) (sorted_by leads (entries_of views)))
      ∙ ap (filter (λ rank. is_ahead rank place))
      (sorted_map (λ (e : Entry). e.0) is_ahead (entries_of views)
      ∙ ap (sorted_by is_ahead) (map-map (λ (e : Entry). e.0) _ views))

  pub next_up : (place : ℤ × PageId) (source : List Entry) (last : Option (Bor (ℤ × PageId) × Bor Sketch))
      (rest : List Entry)
      → reverse source ≡ filter (λ (e : Entry). is_ahead e.0 place) (sorted_by leads (entries_of views))
      → TakesFirst deref_pair source last rest
      → rank_in last ≡ next_rank (λ x y. is_ahead y x) (Some place) ranks
  next_up place source last rest is takes =
      first last takes
      ∙ ap (λ rs. slice_get rs 0)
      (ap (map (λ (e : Entry). e.0)) (sym (reverse-reverse source) ∙ ap reverse is)
      ∙ map-reverse (λ (e : Entry). e.0) (filter (λ (e : Entry). is_ahead e.0 place) (sorted_by leads (entries_of views)))
      ∙ ap reverse (entries_ahead place)
      ∙ sym (filter_reversed (λ rank. is_ahead rank place) (sorted_by is_ahead ranks))
      ∙ ap (filter (λ rank. is_ahead rank place)) upwards
      ∙ filter_sorted below below_ranks (λ rank. is_ahead rank place) ranks all_apart
      (some_apart (λ rank. is_ahead rank place))
      ∙ (λ i. below_is i (filter (λ rank. is_ahead rank place) ranks)))
    where
      first : (o : Option (Bor (ℤ × PageId) × Bor Sketch)) → TakesFirst deref_pair source o rest
          → rank_in o ≡ slice_get (map (λ (e : Entry). e.0) source) 0
      first None takes = sym (ap (λ es. slice_get (map (λ (e : Entry). e.0) es) 0) takes.0)
      first (Some e) takes = sym (ap (λ es. slice_get (map (λ (e : Entry). e.0) es) 0) takes)

  -- of all
  pub last_of_all : (ks : List (ℤ × PageId)) (first : Option (Bor (ℤ × PageId))) (rest : List (ℤ × PageId))
      → ks ≡ sorted_by (λ x y. is_ahead y x) ranks → TakesFirst deref ks first rest
      → option_copied first ≡ next_rank (λ x y. is_ahead y x) None ranks
  last_of_all ks first rest is takes =
      head first takes
      ∙ ap (λ rs. slice_get rs 0)
      (is ∙ ap (sorted_by (λ x y. is_ahead y x))
      (sym (all_stay (λ (r : ℤ × PageId). true) ranks
      (everyone (λ (r : ℤ × PageId). true ≡ true) ranks (λ r. refl)))))
    where
      head : (o : Option (Bor (ℤ × PageId))) → TakesFirst deref ks o rest → option_copied o ≡ slice_get ks 0
      head None takes = sym (ap (λ rs. slice_get rs 0) takes.0)
      head (Some r) takes = sym (ap (λ rs. slice_get rs 0) takes)
