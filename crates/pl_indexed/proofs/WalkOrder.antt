-- The views in a kept order, and the walk from each to the next.
use Rattle.std.proofs.Common.{◌≡◌, ◌≢◌, ◌∙◌, ◌++◌, ℕ, Bool, true, false, List, [], ◌∷◌, Option}
use Rattle.std.proofs.Common.{Some, None, Ordering, ap, arith, filter, if◌then◌else◌, is_lt, nat_cmp, refl, subst, sym}
use Rattle.std.specs.Cmp.{IsStrictWeakOrder, IsTotalOrder}
use Rattle.std.specs.declared.cmp.Ordering.TheVariants.{Less, Equal, Greater}
use Rattle.std.specs.List.{AllPairs, IsDistinct, slice_get}
use Rattle.std.specs.List.Sorted.{IsPermutation, ties}
use Rattle.std.specs.Ordering.{ordering_reverse, ordering_then}
use Rattle.std.proofs.lemmas.Bool.{false≢true, false_from_ne_true}
use Rattle.std.proofs.lemmas.Bool.Decides.{nat_tests}
use Rattle.std.proofs.lemmas.Cmp.{back_total, nat_cmp_total, on_total, then_total}
use Rattle.std.proofs.lemmas.List.Elements.{filter-append}
use Rattle.std.proofs.lemmas.List.Kept.{AllPairs-filter}
use Rattle.std.proofs.lemmas.List.Sorted.{ranks_by}
use Rattle.std.proofs.lemmas.Map.Lookups.{exact_unsigned}
use Rattle.pl_base.specs.declared.view.View.{View}
use Rattle.pl_base.specs.Sorting.{sorted_by}
use Rattle.pl_base.proofs.ListLaws.{all_stay, everyone, weaker}
use Rattle.pl_base.proofs.LookUps.{none_kept}
use Rattle.pl_base.proofs.SortLaws.{Ascends, ascends_sorted_by, for_all, none_tie, order_of_all}
use Rattle.pl_base.proofs.Walk.{Names, Runs}
use Rattle.pl_follow.specs.Changes.{AreInOrder}
use Rattle.pl_follow.proofs.ViewRanks.{both_equal}
use Rattle.pl_indexed.specs.declared.walk.KeptOrder.{KeptOrder}
use Rattle.pl_indexed.specs.declared.walk.KeptOrder.TheVariants.{FrecencyFalling, FrecencyRising, LatestFirst}
use Rattle.pl_indexed.specs.Found.{key_of}
use Rattle.pl_indexed.specs.Walk.{goes_ahead, ids_cmp, keys_cmp, next_in, sort_of, stands_in}
use Rattle.pl_indexed.proofs.KeyOrder.{directed_total, tied_equal}
use Rattle.pl_indexed.proofs.SortedParts.{StandsAmong, already_sorted, filter_moves, stands_among}

pub ids_differ : (views : List View) → AreInOrder views → AllPairs (λ (v w : View). v.id.0 ≢ w.id.0) views
ids_differ views ordered i j d before within same =
    let less = ordered i j d before within in
    omega (arith, less, same)

-- ---- the order

ids_total : (order : KeptOrder) → IsTotalOrder (ids_cmp order)
ids_total FrecencyFalling = back_total nat_cmp_total
ids_total FrecencyRising = nat_cmp_total
ids_total LatestFirst = back_total nat_cmp_total

same_ids : (order : KeptOrder) (m n : ℕ) → ids_cmp order m n ≡ Equal → m ≡ n
same_ids FrecencyFalling m n is = sym (exact_unsigned n m is)
same_ids FrecencyRising m n is = exact_unsigned m n is
same_ids LatestFirst m n is = sym (exact_unsigned n m is)

pub keys_ranked : (order : KeptOrder) → IsTotalOrder (keys_cmp order)
keys_ranked order = on_total (λ (v : View). key_of (sort_of order) v) (directed_total (sort_of order))

module _ (order : KeptOrder) where
  views_total : IsTotalOrder (λ (v w : View). ordering_then (keys_cmp order v w) (ids_cmp order v.id.0 w.id.0))
  views_total = then_total (keys_ranked order) (on_total (λ (v : View). v.id.0) (ids_total order))

  pub ahead_ranks : IsStrictWeakOrder (goes_ahead order)
  ahead_ranks = ranks_by views_total (λ (v : View). v)

  tied_ids : (v w : View) → ties (goes_ahead order) v w ≡ true → v.id.0 ≡ w.id.0
  tied_ids v w tie =
      same_ids order v.id.0 w.id.0
      (both_equal (keys_cmp order v w) (ids_cmp order v.id.0 w.id.0)
      (tied_equal (λ (v w : View). ordering_then (keys_cmp order v w) (ids_cmp order v.id.0 w.id.0)) views_total v w tie)).1

  -- ---- the views

  abbrev pub standing : List View → List View
  standing views = filter (stands_in order) views

  abbrev pub walked : List View → List View
  walked views = sorted_by (goes_ahead order) (standing views)

  abbrev first_view : List View → Option View
  first_view [] = None
  first_view (v ∷ vs) = Some v

  abbrev pub view_names : Names View View
  view_names = record { name = λ v. v; first = first_view; of_none = refl; of_some = λ v vs. refl }

  first_is : (vs : List View) → slice_get vs 0 ≡ first_view vs
  first_is [] = refl
  first_is (v ∷ vs) = refl

  module _ (views : List View) (ordered : AreInOrder views) where
    standing_apart : AllPairs (λ (v w : View). v.id.0 ≢ w.id.0) (standing views)
    standing_apart =
        AllPairs-filter (λ (v w : View). v.id.0 ≢ w.id.0) (stands_in order) views (ids_differ views ordered)

    distinct : (test : View → Bool) → IsDistinct (ties (goes_ahead order)) (filter test (standing views))
    distinct test =
        none_tie (goes_ahead order) (λ (v : View). v.id.0) tied_ids (filter test (standing views))
        (AllPairs-filter (λ (v w : View). v.id.0 ≢ w.id.0) test (standing views) standing_apart)

    pub walked_ascends : Ascends (goes_ahead order) (walked views)
    walked_ascends =
        ascends_sorted_by (order_of_all (goes_ahead order) ahead_ranks) (standing views) (for_all (standing views))
        (none_tie (goes_ahead order) (λ (v : View). v.id.0) tied_ids (standing views) standing_apart)

    -- ---- the walk

    pub first_of_all : next_in order None views ≡ first_view (walked views)
    first_of_all =
        first_is (sorted_by (goes_ahead order) (filter (λ (v : View). true) (standing views)))
        ∙ ap (λ (vs : List View). first_view (sorted_by (goes_ahead order) vs))
        (all_stay (λ (v : View). true) (standing views)
        (everyone (λ (v : View). true ≡ true) (standing views) (λ v. refl)))

    -- the views behind one
    behind_one : (front : List View) (v : View) (rest : List View) → StandsAmong (goes_ahead order) front v rest
        → filter (goes_ahead order v) (front ++ v ∷ rest) ≡ rest
    behind_one front v rest s =
        filter-append (goes_ahead order v) front (v ∷ rest)
        ∙ ap (λ (vs : List View). vs ++ filter (goes_ahead order v) (v ∷ rest))
        (none_kept (goes_ahead order v) front
        (weaker (λ (u : View). goes_ahead order u v ≡ true) (λ (u : View). goes_ahead order v u ≡ false) front
        (λ u ahead. ahead_ranks.one_way u v ahead) s.behind_all))
        ∙ ap (λ (b : Bool). if b then v ∷ filter (goes_ahead order v) rest else filter (goes_ahead order v) rest) itself
        ∙ all_stay (goes_ahead order v) rest s.ahead_of_all
      where
        itself : goes_ahead order v v ≡ false
        itself =
            false_from_ne_true (goes_ahead order v v) (λ is. false≢true (sym (ahead_ranks.one_way v v is) ∙ is))

    pub views_run : Runs view_names (λ (v : View). next_in order (Some v) views) (walked views)
    views_run front v rest whole =
        let s : StandsAmong (goes_ahead order) front v rest =
        stands_among (goes_ahead order) front v rest (subst (Ascends (goes_ahead order)) whole walked_ascends) in
        first_is (sorted_by (goes_ahead order) (filter (goes_ahead order v) (standing views)))
        ∙ ap first_view
        (already_sorted (goes_ahead order) ahead_ranks (filter (goes_ahead order v) (standing views)) rest
        (distinct (goes_ahead order v))
        (subst (IsPermutation (filter (goes_ahead order v) (standing views)))
        (ap (filter (goes_ahead order v)) whole ∙ behind_one front v rest s)
        (filter_moves (goes_ahead order v) (goes_ahead order) (standing views)))
        s.rest_ascends)

-- ---- the order and the sort that it serves

not_above : (o : Ordering) (i : Ordering) → is_lt (ordering_then o i) ≡ true → o ≢ Greater
not_above Less i is same = absurd (cc)
not_above Equal i is same = absurd (cc)
not_above Greater i is same = absurd (false≢true is)

-- of two in an order the keys do not stand the other way round
pub not_behind : (order : KeptOrder) (v w : View) → goes_ahead order v w ≡ true → keys_cmp order v w ≢ Greater
not_behind order v w ahead = not_above (keys_cmp order v w) (ids_cmp order v.id.0 w.id.0) ahead

module _ {X : Type 0} (cmp : X → X → Ordering) (total : IsTotalOrder cmp) where
  -- below one that is no greater than another
  pub below_then : (x y z : X) → cmp x y ≡ Less → cmp y z ≢ Greater → cmp x z ≡ Less
  below_then x y z less most = choose (cmp y z) refl most
    where
      turned : cmp y z ≡ Equal → cmp z y ≡ Equal
      turned same = total.antisymm z y ∙ ap ordering_reverse same

      choose : (o : Ordering) → cmp y z ≡ o → o ≢ Greater → cmp x z ≡ Less
      choose Less is most = total.trans x y z less is
      choose Equal is most =
          total.antisymm x z
          ∙ ap ordering_reverse (total.congr z y x (turned is) ∙ total.antisymm y x ∙ ap ordering_reverse less)
      choose Greater is most = absurd (most refl)

  -- no greater than one that is below another
  pub then_below : (x y z : X) → cmp x y ≢ Greater → cmp y z ≡ Less → cmp x z ≡ Less
  then_below x y z most less = choose (cmp x y) refl most
    where
      choose : (o : Ordering) → cmp x y ≡ o → o ≢ Greater → cmp x z ≡ Less
      choose Less is most = total.trans x y z is less
      choose Equal is most = total.congr x y z is ∙ less
      choose Greater is most = absurd (most refl)

-- where one comes ahead of another by both orders of ids, it does so by its key
pub by_key : (o : Ordering) (m n : ℕ) → is_lt (ordering_then o (nat_cmp n m)) ≡ true
    → is_lt (ordering_then o (nat_cmp m n)) ≡ true → o ≡ Less
by_key Less m n one two = refl
by_key Equal m n one two = absurd (never m n one two)
  where
    never : (m n : ℕ) → is_lt (nat_cmp n m) ≡ true → is_lt (nat_cmp m n) ≡ true → ⊥
    never m n one two = grind (arith, nat_tests, one, two)
by_key Greater m n one two = absurd (false≢true one)
