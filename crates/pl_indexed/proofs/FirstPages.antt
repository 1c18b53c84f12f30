-- The first pages in a kept order that a query takes, as many as its answer has.
use Rattle.std.proofs.Common.{◌≡◌, ◌≢◌, ◌∙◌, ◌-◌, ◌<◌, ◌≤◌, ◌++◌, ◌==◌, ℕ, Bool, true, false, List, []}
use Rattle.std.proofs.Common.{◌∷◌, IfSome, Ordering, ap, arith, filter, if◌then◌else◌, is_lt, length, map}
use Rattle.std.proofs.Common.{nat_cmp, subst, suc, sym, take, zero}
use Rattle.std.specs.declared.cmp.Ordering.TheVariants.{Less, Greater}
use Rattle.std.specs.List.{AllByRecursion, AllPairs, IsDistinct, slice_get}
use Rattle.std.specs.List.Sorted.{IsPermutation, ties}
use Rattle.std.specs.Ordering.{ordering_then}
use Rattle.std.proofs.lemmas.Bool.{ne_eqb}
use Rattle.std.proofs.lemmas.List.{append-nil, length-map, take-append-le}
use Rattle.std.proofs.lemmas.List.Elements.{filter-append}
use Rattle.std.proofs.lemmas.List.Kept.{AllPairs-filter}
use Rattle.std.proofs.lemmas.List.Sorted.{length_permutation}
use Rattle.pl_base.specs.declared.view.View.{View}
use Rattle.pl_base.specs.Sorting.{sorted_by}
use Rattle.pl_base.proofs.ListLaws.{all-filter, weaker}
use Rattle.pl_base.proofs.LookUps.{front}
use Rattle.pl_base.proofs.SortLaws.{Ascends, apart_sorted, none_tie, sorted_moves}
use Rattle.pl_follow.specs.Changes.{AreInOrder}
use Rattle.pl_follow.proofs.ChangedLists.{Pairs, all_pairs, pairs}
use Rattle.pl_place.specs.declared.query.Query.{Query}
use Rattle.pl_place.specs.declared.sort.Sort.{Sort}
use Rattle.pl_query.specs.Decides.{decides}
use Rattle.pl_query.specs.QueryAnswer.{limited}
use Rattle.pl_indexed.specs.declared.found.Found.{Found}
use Rattle.pl_indexed.specs.declared.walk.KeptOrder.{KeptOrder}
use Rattle.pl_indexed.specs.declared.walk.KeptOrder.TheVariants.{FrecencyFalling, FrecencyRising, LatestFirst}
use Rattle.pl_indexed.specs.Answer.{AreEnough, Suffice, first_asked, taken}
use Rattle.pl_indexed.specs.Found.{AreFound, place_of, seen, seen_of, view_before}
use Rattle.pl_indexed.specs.Walk.{goes_ahead, keys_cmp, sort_of, stands_in}
use Rattle.pl_indexed.proofs.FoundOrder.{views_found}
use Rattle.pl_indexed.proofs.KeyOrder.{places_rank, tied_ids}
use Rattle.pl_indexed.proofs.SortedParts.{StandsAmong, ascends_filter, ascends_front, filter_moves, front_ahead}
use Rattle.pl_indexed.proofs.SortedParts.{same_sorted, sorted_parts, stands_among}
use Rattle.pl_indexed.proofs.TakenViews.{visited_taken}
use Rattle.pl_indexed.proofs.WalkOrder.{below_then, by_key, ids_differ, keys_ranked, not_behind, standing, then_below}
use Rattle.pl_indexed.proofs.WalkOrder.{walked, walked_ascends}

-- ---- lists

pairs_front : (R : View → View → Type 0) (xs ys : List View) → Pairs R (xs ++ ys) → Pairs R xs
pairs_front R [] ys each = tt
pairs_front R (x ∷ xs) ys each = (front (R x) xs ys each.0, pairs_front R xs ys each.1)

-- the first of a list in two parts stand in the first part, where it has so many
limited_front : {X : Type 0} (most : ℕ) (xs ys : List X) → 0 < most → most ≤ length xs
    → limited most (xs ++ ys) ≡ limited most xs
limited_front most xs ys some enough =
    ap (λ (b : Bool). if b then xs ++ ys else take most (xs ++ ys)) not_none
    ∙ take-append-le most xs ys enough
    ∙ sym (ap (λ (b : Bool). if b then xs else take most xs) not_none)
  where
    not_none : (most == 0) ≡ false
    not_none = ne_eqb most 0 (λ same. omega (arith, some, same))

last_view : (P : View → Type 0) (found : List Found) (k : ℕ)
    → IfSome (slice_get found k) (λ (last : Found). P last.view.now)
    → IfSome (slice_get (map (λ (p : Found). p.view.now) found) k) P
last_view P [] k last = tt
last_view P (p ∷ found) zero last = last
last_view P (p ∷ found) (suc k) last = last_view P found k last

-- ---- the end of a walk

-- the views of one list come before those of another by a sort
abbrev AllBefore : Sort → List View → List View → Type 0
AllBefore sort vs ws = AllByRecursion (λ (u : View). AllByRecursion (λ (w : View). view_before sort u w ≡ true) ws) vs

some_before : (sort : Sort) (test : View → Bool) (vs ws : List View) → AllBefore sort vs ws
    → AllBefore sort (filter test vs) (filter test ws)
some_before sort test vs ws all =
    all-filter (λ (u : View). AllByRecursion (λ (w : View). view_before sort u w ≡ true) (filter test ws)) test vs
    (weaker (λ (u : View). AllByRecursion (λ (w : View). view_before sort u w ≡ true) ws)
    (λ (u : View). AllByRecursion (λ (w : View). view_before sort u w ≡ true) (filter test ws)) vs
    (λ u each. all-filter (λ (w : View). view_before sort u w ≡ true) test ws each) all)

-- where ids descend among those that are alike, and the last that was taken comes before the next view
module _ (order : KeptOrder)
    (falls : (v w : View) → goes_ahead order v w ≡ true → view_before (sort_of order) v w ≡ true
    → keys_cmp order v w ≡ Less) where
  all_above : (n : View) (vs : List View) (k : ℕ) → Ascends (goes_ahead order) vs
      → AllByRecursion (λ (v : View). goes_ahead order v n ≡ true) vs → length vs ≡ suc k
      → IfSome (slice_get vs k) (λ (v : View). view_before (sort_of order) v n ≡ true)
      → AllByRecursion (λ (v : View). keys_cmp order v n ≡ Less) vs
  all_above n [] k up ahead long last = tt
  all_above n (v ∷ []) zero up ahead long last = (falls v n ahead.0 last, tt)
  all_above n (v ∷ []) (suc k) up ahead long last = absurd (omega arith)
  all_above n (v ∷ w ∷ vs) zero up ahead long last = absurd (omega arith)
  all_above n (v ∷ w ∷ vs) (suc k) up ahead long last =
      let rest : AllByRecursion (λ (u : View). keys_cmp order u n ≡ Less) (w ∷ vs) =
      all_above n (w ∷ vs) k up.1 ahead.1 (omega arith) last in (
        then_below (keys_cmp order) (keys_ranked order) v w n (not_behind order v w up.0.0) rest.0,
        rest,
      )

less_before : (order : KeptOrder) (v w : View) → keys_cmp order v w ≡ Less → view_before (sort_of order) v w ≡ true
less_before order v w less = ap (λ (o : Ordering). is_lt (ordering_then o (nat_cmp v.id.0 w.id.0))) less

module _ (q : Query) (order : KeptOrder) (xs : List View) (v : View) (rest : List View)
    (up : Ascends (goes_ahead order) (xs ++ v ∷ rest)) (k : ℕ) (long : length (taken q xs) ≡ suc k)
    (last : IfSome (slice_get (taken q xs) k) (λ (u : View). view_before (sort_of order) u v ≡ true)) where
  ahead : AllByRecursion (λ (u : View). AllByRecursion (λ (w : View). goes_ahead order u w ≡ true) (v ∷ rest)) xs
  ahead = front_ahead (goes_ahead order) xs (v ∷ rest) up

  none_behind : AllByRecursion (λ (w : View). keys_cmp order v w ≢ Greater) rest
  none_behind =
      let s : StandsAmong (goes_ahead order) xs v rest = stands_among (goes_ahead order) xs v rest up in
      weaker (λ (w : View). goes_ahead order v w ≡ true) (λ (w : View). keys_cmp order v w ≢ Greater) rest
      (λ w is. not_behind order v w is) s.ahead_of_all

  falling : ((u w : View) → goes_ahead order u w ≡ true → view_before (sort_of order) u w ≡ true
      → keys_cmp order u w ≡ Less)
      → AllBefore (sort_of order) (taken q xs) (v ∷ rest)
  falling falls =
      weaker (λ (u : View). keys_cmp order u v ≡ Less)
      (λ (u : View). AllByRecursion (λ (w : View). view_before (sort_of order) u w ≡ true) (v ∷ rest)) (taken q xs)
      (λ u less. (
        less_before order u v less,
        weaker (λ (w : View). keys_cmp order v w ≢ Greater) (λ (w : View). view_before (sort_of order) u w ≡ true) rest
            (λ w most.
            less_before order u w (below_then (keys_cmp order) (keys_ranked order) u v w less most))
            none_behind,
      ))
      (all_above order falls v (taken q xs) k
      (ascends_filter (goes_ahead order) (decides q) xs (ascends_front (goes_ahead order) xs (v ∷ rest) up))
      (all-filter (λ (u : View). goes_ahead order u v ≡ true) (decides q) xs
      (weaker (λ (u : View). AllByRecursion (λ (w : View). goes_ahead order u w ≡ true) (v ∷ rest))
      (λ (u : View). goes_ahead order u v ≡ true) xs (λ u each. each.0) ahead))
      long last)

right : (q : Query) (order : KeptOrder) (xs : List View) (v : View) (rest : List View)
    → AllBefore (sort_of order) (taken q xs) (v ∷ rest) → AllBefore (sort_of order) (taken q xs) (taken q (v ∷ rest))
right q order xs v rest all =
    weaker (λ (u : View). AllByRecursion (λ (w : View). view_before (sort_of order) u w ≡ true) (v ∷ rest))
    (λ (u : View). AllByRecursion (λ (w : View). view_before (sort_of order) u w ≡ true) (taken q (v ∷ rest)))
    (taken q xs) (λ u each. all-filter (λ (w : View). view_before (sort_of order) u w ≡ true) (decides q) (v ∷ rest) each)
    all

-- then all that were taken come before all that are left
found_first : (q : Query) (order : KeptOrder) (xs : List View) (v : View) (rest : List View)
    → Ascends (goes_ahead order) (xs ++ v ∷ rest) → (k : ℕ) → length (taken q xs) ≡ suc k
    → IfSome (slice_get (taken q xs) k) (λ (u : View). view_before (sort_of order) u v ≡ true)
    → AllBefore (sort_of order) (taken q xs) (taken q (v ∷ rest))
found_first q FrecencyFalling xs v rest up k long last =
    right q FrecencyFalling xs v rest
    (falling q FrecencyFalling xs v rest up k long last
    (λ u w one two. by_key (keys_cmp FrecencyFalling u w) u.id.0 w.id.0 one two))
found_first q FrecencyRising xs v rest up k long last =
    some_before (sort_of FrecencyRising) (decides q) xs (v ∷ rest) (front_ahead (goes_ahead FrecencyRising) xs (v ∷ rest) up)
found_first q LatestFirst xs v rest up k long last =
    right q LatestFirst xs v rest
    (falling q LatestFirst xs v rest up k long last
    (λ u w one two. by_key (keys_cmp LatestFirst u w) u.id.0 w.id.0 one two))

-- ---- the order of the answer

module _ (order : KeptOrder) (q : Query) (views : List View) (ordered : AreInOrder views)
    (sort : q.sort ≡ sort_of order) where
  abbrev before : View → View → Bool
  before = view_before q.sort

  none_ties : (vs : List View) → AllPairs (λ (v w : View). v.id.0 ≢ w.id.0) vs → IsDistinct (ties before) vs
  none_ties vs apart = none_tie before (λ (v : View). v.id.0) (tied_ids q.sort (place_of q.sort)) vs apart

  -- the views that a query takes are the same in order, whichever way they are gone over
  same_answer : first_asked q (taken q (walked order views)) ≡ first_asked q (taken q views)
  same_answer =
      ap (limited q.max_results)
      (sym (same_sorted before (places_rank q.sort (place_of q.sort)) (taken q views) (taken q (walked order views))
      (none_ties (taken q views)
      (AllPairs-filter (λ (v w : View). v.id.0 ≢ w.id.0) (decides q) views (ids_differ views ordered)))
      (subst (λ (vs : List View). IsPermutation vs (taken q (walked order views))) (visited_taken order q views)
      (filter_moves (decides q) (goes_ahead order) (standing order views)))))

  parts_apart : (xs ys : List View) → walked order views ≡ xs ++ ys
      → AllPairs (λ (v w : View). v.id.0 ≢ w.id.0) (taken q xs)
  parts_apart xs ys whole =
      AllPairs-filter (λ (v w : View). v.id.0 ≢ w.id.0) (decides q) xs
      (all_pairs (λ (v w : View). v.id.0 ≢ w.id.0) xs
      (pairs_front (λ (v w : View). v.id.0 ≢ w.id.0) xs ys
      (pairs (λ (v w : View). v.id.0 ≢ w.id.0) (xs ++ ys)
      (subst (AllPairs (λ (v w : View). v.id.0 ≢ w.id.0)) whole
      (apart_sorted (goes_ahead order) (λ (v : View). v.id.0) (standing order views)
      (AllPairs-filter (λ (v w : View). v.id.0 ≢ w.id.0) (stands_in order) views (ids_differ views ordered)))))))

  -- all pages were gone over
  pub all_suffice : (found : List Found) → AreFound q.sort (taken q (walked order views)) found → Suffice q views found
  all_suffice found are =
      record {
        those = taken q (walked order views);
        found_are = are;
        apart = parts_apart (walked order views) [] (sym (append-nil (walked order views)));
        enough = same_answer;
      }

  module _ (some : 0 < q.max_results) (found : List Found)
      (xs : List View) (v : View) (rest : List View) (whole : walked order views ≡ xs ++ v ∷ rest)
      (are : AreFound q.sort (taken q xs) found) (enough : AreEnough order q.max_results v found) where
    lengths : length (taken q xs) ≡ length found
    lengths = sym (length-map (taken q xs) (seen_of q.sort)) ∙ sym (ap length are) ∙ length-map found seen

    all_first : AllBefore q.sort (taken q xs) (taken q (v ∷ rest))
    all_first =
        let many : length found ≡ suc (length found - 1) = omega (arith, enough.0, some) in
        subst (λ (s : Sort). AllBefore s (taken q xs) (taken q (v ∷ rest))) (sym sort)
        (found_first q order xs v rest (subst (Ascends (goes_ahead order)) whole (walked_ascends order views ordered))
        (length found - 1) (lengths ∙ many)
        (subst
        (λ (vs : List View). IfSome (slice_get vs (length found - 1)) (λ (u : View). view_before (sort_of order) u v ≡ true))
        (views_found q.sort (taken q xs) found are)
        (last_view (λ (u : View). view_before (sort_of order) u v ≡ true) found (length found - 1) enough.1)))

    many_sorted : q.max_results ≤ length (sorted_by before (taken q xs))
    many_sorted =
        subst (λ (n : ℕ). q.max_results ≤ n)
        (sym (length_permutation (taken q xs) (sorted_by before (taken q xs)) (sorted_moves before (taken q xs))
        ∙ lengths))
        enough.0

    first_are : first_asked q (taken q xs) ≡ first_asked q (taken q (walked order views))
    first_are =
        sym (ap (first_asked q) (ap (taken q) whole ∙ filter-append (decides q) xs (v ∷ rest))
        ∙ ap (limited q.max_results) (sorted_parts before (taken q xs) (taken q (v ∷ rest)) all_first)
        ∙ limited_front q.max_results (sorted_by before (taken q xs)) (sorted_by before (taken q (v ∷ rest))) some
        many_sorted)

    -- so many are found that the others are not asked for
    pub enough_suffice : Suffice q views found
    enough_suffice =
        record {
          those = taken q xs;
          found_are = are;
          apart = parts_apart xs (v ∷ rest) whole;
          enough = first_are ∙ same_answer;
        }
