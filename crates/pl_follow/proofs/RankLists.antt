-- Ranks in the order of a comparison: how one goes and one comes, and the walk from the greatest on.
use Rattle.std.proofs.Common.{◌≡◌, ◌≢◌, ◌∙◌, ◌+◌, ◌-◌, ◌<◌, ◌++◌, Bool, true, false, List, [], ◌∷◌}
use Rattle.std.proofs.Common.{Option, Some, ap, arith, filter, get_or, if◌then◌else◌, length, refl}
use Rattle.std.proofs.Common.{reverse, subst, suc, sym, All}
use Rattle.std.specs.BTreeMap.{is_at}
use Rattle.std.specs.BTreeSet.{insert_key}
use Rattle.std.specs.Cmp.{IsStrictWeakOrder, IsTotalOrder}
use Rattle.std.specs.List.{AllByRecursion, IsDistinct, cons_option, slice_get}
use Rattle.std.specs.List.Sorted.{IsPermutation, IsSortedBy, IsStrictlySortedBy, ties}
use Rattle.std.specs.Ordering.{is_eq, is_gt, is_lt, match_ordering, ordering_reverse}
use Rattle.std.specs.Set.{remove_key}
use Rattle.std.specs.declared.cmp.Ordering.{Ordering}
use Rattle.std.specs.declared.cmp.Ordering.TheVariants.{Equal, Greater, Less}
use Rattle.std.proofs.lemmas.Cmp.{tied_itself}
use Rattle.std.proofs.lemmas.List.{get_or-reverse, length-reverse}
use Rattle.std.proofs.lemmas.List.Elements.{recursion_from_All}
use Rattle.std.proofs.lemmas.List.Sorted.{IsPermutation-reverse, IsPermutation-sym, IsPermutation-trans}
use Rattle.std.proofs.lemmas.List.Sorted.{IsStrictWeakOrder-flip, ranks_by}
use Rattle.std.proofs.lemmas.Map.Keys.{IsDistinct-from_apart, IsDistinct-tail, Less-from_sorted}
use Rattle.pl_base.specs.Sorting.{put_in_place, sorted_by}
use Rattle.pl_base.proofs.ListLaws.{all-filter, weaker}
use Rattle.pl_base.proofs.SortLaws.{Ascends, all_sorted, ascends_sorted_by, distinct_moved, for_all, order_of_all}
use Rattle.pl_base.proofs.SortLaws.{ranks_alike, sorted_moves, weak_sorted_is}
use Rattle.pl_follow.specs.Order.{IsExact, IsOther, is_above, is_behind, is_below, next_rank}

module _ {R : Type 0} (cmp : R → R → Ordering) (total : IsTotalOrder cmp) where
  below_ranks : IsStrictWeakOrder (is_below cmp)
  below_ranks = ranks_by total (λ (x : R). x)

  -- ---- where a rank is put

  put_front : (x y : R) (ys : List R) → is_below cmp x y ≡ true → put_in_place (is_below cmp) x (y ∷ ys) ≡ x ∷ y ∷ ys
  put_front x y ys e = ap (λ b. if b then x ∷ y ∷ ys else y ∷ put_in_place (is_below cmp) x ys) e

  put_past : (x y : R) (ys : List R) → is_below cmp x y ≡ false
      → put_in_place (is_below cmp) x (y ∷ ys) ≡ y ∷ put_in_place (is_below cmp) x ys
  put_past x y ys e = ap (λ b. if b then x ∷ y ∷ ys else y ∷ put_in_place (is_below cmp) x ys) e

  -- ---- a set with a rank more or less

  -- what a set makes of a rank that it does not have
  inserted : (k : R) (ys : List R) → AllByRecursion (λ y. cmp k y ≢ Equal) ys
      → insert_key cmp ys k ≡ put_in_place (is_below cmp) k ys
  inserted k [] apart = refl
  inserted k (y ∷ ys) apart = choose (cmp k y) apart.0 (inserted k ys apart.1)
    where
      choose : (o : Ordering) → o ≢ Equal → insert_key cmp ys k ≡ put_in_place (is_below cmp) k ys
          → match_ordering o (k ∷ y ∷ ys) (y ∷ ys) (y ∷ insert_key cmp ys k)
          ≡ (if is_lt o then k ∷ y ∷ ys else y ∷ put_in_place (is_below cmp) k ys)
      choose Less differ rest = refl
      choose Equal differ rest = absurd (differ refl)
      choose Greater differ rest = ap (λ zs. y ∷ zs) rest

  -- a rank that was put in and is taken out again
  removed_put : (k : R) (ys : List R) → AllByRecursion (λ y. cmp k y ≢ Equal) ys
      → remove_key (is_at (cmp k)) (put_in_place (is_below cmp) k ys) ≡ ys
  removed_put k [] apart = ap (λ o. if is_eq o then [] else k ∷ []) (tied_itself total k)
  removed_put k (y ∷ ys) apart = choose (cmp k y) refl apart.0 (removed_put k ys apart.1)
    where
      choose : (o : Ordering) → cmp k y ≡ o → o ≢ Equal
          → remove_key (is_at (cmp k)) (put_in_place (is_below cmp) k ys) ≡ ys
          → remove_key (is_at (cmp k)) (if is_lt o then k ∷ y ∷ ys else y ∷ put_in_place (is_below cmp) k ys) ≡ y ∷ ys
      choose Less is differ rest =
          ap (λ o. if is_eq o then y ∷ ys else k ∷ remove_key (is_at (cmp k)) (y ∷ ys)) (tied_itself total k)
      choose Equal is differ rest = absurd (differ refl)
      choose Greater is differ rest =
          ap (λ o. if is_eq o then put_in_place (is_below cmp) k ys
          else y ∷ remove_key (is_at (cmp k)) (put_in_place (is_below cmp) k ys)) is
          ∙ ap (λ zs. y ∷ zs) rest

  -- a rank is equal to none of the others
  apart_sorted : IsExact cmp → (k : R) (others : List R) → All (λ other. other ≢ k) others
      → AllByRecursion (λ y. cmp k y ≢ Equal) (sorted_by (is_below cmp) others)
  apart_sorted exact k others differ =
      all_sorted (is_below cmp) (λ y. cmp k y ≢ Equal) others
      (weaker (λ other. other ≢ k) (λ y. cmp k y ≢ Equal) others (λ y apart same. apart (sym (exact k y same)))
      (recursion_from_All (λ other. other ≢ k) others differ))

  -- a set without a rank that it has
  pub taken : IsExact cmp → (leaving : Option R) (k : R) (old : List R) → leaving ≡ Some k → (others : List R)
      → IsOther leaving others → old ≡ sorted_by (is_below cmp) (cons_option leaving others)
      → remove_key (is_at (cmp k)) old ≡ sorted_by (is_below cmp) others
  taken exact leaving k old is others apart stood =
      ap (remove_key (is_at (cmp k))) (stood ∙ ap (λ o. sorted_by (is_below cmp) (cons_option o others)) is)
      ∙ removed_put k (sorted_by (is_below cmp) others)
      (apart_sorted exact k others (subst (λ o. IsOther o others) is apart))

  -- a set with a rank that it does not have
  pub put : IsExact cmp → (coming : Option R) (k : R) (old : List R) → coming ≡ Some k → (others : List R)
      → IsOther coming others → old ≡ sorted_by (is_below cmp) others
      → insert_key cmp old k ≡ sorted_by (is_below cmp) (cons_option coming others)
  put exact coming k old is others apart stood =
      ap (λ ks. insert_key cmp ks k) stood
      ∙ inserted k (sorted_by (is_below cmp) others)
      (apart_sorted exact k others (subst (λ o. IsOther o others) is apart))
      ∙ ap (λ o. sorted_by (is_below cmp) (cons_option o others)) (sym is)

  -- ---- the place of a rank in the list does not matter

  turned : (o : Ordering) (x y : R) → cmp x y ≡ o → cmp y x ≡ ordering_reverse o
  turned o x y is = total.antisymm y x ∙ ap ordering_reverse is

  -- two ranks that go before all others
  pair : (x y : R) (ys : List R) → cmp y x ≢ Equal → put_in_place (is_below cmp) x ys ≡ x ∷ ys
      → put_in_place (is_below cmp) y ys ≡ y ∷ ys
      → put_in_place (is_below cmp) x (y ∷ ys) ≡ put_in_place (is_below cmp) y (x ∷ ys)
  pair x y ys differ first_x first_y = choose (cmp x y) refl
    where
      choose : (o : Ordering) → cmp x y ≡ o
          → put_in_place (is_below cmp) x (y ∷ ys) ≡ put_in_place (is_below cmp) y (x ∷ ys)
      choose Less is =
          put_front x y ys (ap is_lt is)
          ∙ sym (put_past y x ys (ap is_lt (turned Less x y is)) ∙ ap (λ zs. x ∷ zs) first_y)
      choose Equal is = absurd (differ (turned Equal x y is))
      choose Greater is =
          put_past x y ys (ap is_lt is) ∙ ap (λ zs. y ∷ zs) first_x
          ∙ sym (put_front y x ys (ap is_lt (turned Greater x y is)))

  -- two ranks are put in, one first or the other
  swapped : (x y : R) (ys : List R) → cmp y x ≢ Equal
      → put_in_place (is_below cmp) x (put_in_place (is_below cmp) y ys)
      ≡ put_in_place (is_below cmp) y (put_in_place (is_below cmp) x ys)
  swapped x y [] differ = pair x y [] differ refl refl
  swapped x y (z ∷ zs) differ =
      choose (is_below cmp x z) (is_below cmp y z) refl refl (swapped x y zs differ)
    where
      -- one goes before the first and the other does not
      mixed : (u v : R) → is_below cmp u z ≡ true → is_below cmp v z ≡ false
          → put_in_place (is_below cmp) u (put_in_place (is_below cmp) v (z ∷ zs))
          ≡ put_in_place (is_below cmp) v (put_in_place (is_below cmp) u (z ∷ zs))
      mixed u v front past =
          let behind : is_below cmp v u ≡ false =
          below_ranks.chain v z u past (below_ranks.one_way u z front) in
          ap (put_in_place (is_below cmp) u) (put_past v z zs past)
          ∙ put_front u z (put_in_place (is_below cmp) v zs) front
          ∙ ap (λ ws. u ∷ ws) (sym (put_past v z zs past))
          ∙ sym (put_past v u (z ∷ zs) behind)
          ∙ ap (put_in_place (is_below cmp) v) (sym (put_front u z zs front))

      choose : (a b : Bool) → is_below cmp x z ≡ a → is_below cmp y z ≡ b
          → put_in_place (is_below cmp) x (put_in_place (is_below cmp) y zs)
          ≡ put_in_place (is_below cmp) y (put_in_place (is_below cmp) x zs)
          → put_in_place (is_below cmp) x (put_in_place (is_below cmp) y (z ∷ zs))
          ≡ put_in_place (is_below cmp) y (put_in_place (is_below cmp) x (z ∷ zs))
      choose true true is_x is_y rest =
          ap (put_in_place (is_below cmp) x) (put_front y z zs is_y)
          ∙ pair x y (z ∷ zs) differ (put_front x z zs is_x) (put_front y z zs is_y)
          ∙ ap (put_in_place (is_below cmp) y) (sym (put_front x z zs is_x))
      choose true false is_x is_y rest = mixed x y is_x is_y
      choose false true is_x is_y rest = sym (mixed y x is_y is_x)
      choose false false is_x is_y rest =
          ap (put_in_place (is_below cmp) x) (put_past y z zs is_y)
          ∙ put_past x z (put_in_place (is_below cmp) y zs) is_x
          ∙ ap (λ ws. z ∷ ws) rest
          ∙ sym (put_past y z (put_in_place (is_below cmp) x zs) is_y)
          ∙ ap (put_in_place (is_below cmp) y) (sym (put_past x z zs is_x))

  -- a rank among others, which ties with none in front of it, is sorted as in front of them
  pub moved : (front : List R) (x : R) (back : List R) → AllByRecursion (λ y. cmp x y ≢ Equal) front
      → sorted_by (is_below cmp) (front ++ x ∷ back) ≡ sorted_by (is_below cmp) (x ∷ front ++ back)
  moved [] x back apart = refl
  moved (y ∷ front) x back apart =
      ap (put_in_place (is_below cmp) y) (moved front x back apart.1)
      ∙ swapped y x (sorted_by (is_below cmp) (front ++ back)) apart.0

  -- ---- the walk

  reversed : (o : Ordering) → is_gt (ordering_reverse o) ≡ is_lt o
  reversed Less = refl
  reversed Equal = refl
  reversed Greater = refl

  pub above_alike : (x y : R) → is_above cmp x y ≡ is_below cmp y x
  above_alike x y = ap is_gt (total.antisymm x y) ∙ reversed (cmp y x)

  pub above_ranks : IsStrictWeakOrder (is_above cmp)
  above_ranks =
      ranks_alike (is_above cmp) (λ x y. is_below cmp y x) above_alike
      (IsStrictWeakOrder-flip (is_below cmp) below_ranks)

  -- keys that ascend do not tie
  none_ties : (ks : List R) → IsStrictlySortedBy cmp ks → IsDistinct (ties (is_above cmp)) ks
  none_ties ks up =
      IsDistinct-from_apart (ties (is_above cmp)) ks
      (λ i j d less within.
      let first : cmp (get_or ks i d) (get_or ks j d) ≡ Less = Less-from_sorted cmp ks i j d up less within in
      let second : cmp (get_or ks j d) (get_or ks i d) ≡ Greater =
      total.antisymm (get_or ks j d) (get_or ks i d) ∙ ap ordering_reverse first in
      rw (first, second) refl)

  -- from its end a set descends
  falls : (ks : List R) → IsStrictlySortedBy cmp ks → IsSortedBy (is_above cmp) (reverse ks)
  falls ks up k d low within =
      let long : length (reverse ks) ≡ length ks = length-reverse ks in
      let small : suc k < length ks = omega (arith, long, within) in
      let one : get_or (reverse ks) (k + 1) d ≡ get_or ks (length ks - 1 - (k + 1)) d =
      get_or-reverse ks (k + 1) d (omega (arith, small)) in
      let two : get_or (reverse ks) k d ≡ get_or ks (length ks - 1 - k) d =
      get_or-reverse ks k d (omega (arith, small)) in
      ap (λ x. is_above cmp x (get_or (reverse ks) k d)) one
      ∙ ap (is_above cmp (get_or ks (length ks - 1 - (k + 1)) d)) two
      ∙ ap is_gt
      (Less-from_sorted cmp ks (length ks - 1 - (k + 1)) (length ks - 1 - k) d up (omega (arith, small))
      (omega (arith, small)))

  listed_distinct : (ks listed : List R) → IsStrictlySortedBy cmp ks → ks ≡ sorted_by (is_below cmp) listed
      → IsDistinct (ties (is_above cmp)) listed
  listed_distinct ks listed up is =
      distinct_moved (is_above cmp) ks listed
      (IsPermutation-sym listed ks
      (subst (λ zs. IsPermutation listed zs) (sym is) (sorted_moves (is_below cmp) listed)))
      (none_ties ks up)

  -- a set that is walked from its end
  pub walked : (ks listed : List R) → IsStrictlySortedBy cmp ks → ks ≡ sorted_by (is_below cmp) listed
      → reverse ks ≡ sorted_by (is_above cmp) listed
  walked ks listed up is =
      weak_sorted_is (is_above cmp) above_ranks listed (reverse ks) (listed_distinct ks listed up is)
      (IsPermutation-trans listed ks (reverse ks)
      (subst (λ zs. IsPermutation listed zs) (sym is) (sorted_moves (is_below cmp) listed)) (IsPermutation-reverse ks))
      (falls ks up)

  -- ---- some of the ranks

  above_on : (x y z : R) → is_above cmp x y ≡ true → is_above cmp y z ≡ true → is_above cmp x z ≡ true
  above_on x y z first second = (order_of_all (is_above cmp) above_ranks).on x y z tt tt tt first second

  -- a rank above all others
  put_first : (x : R) (ys : List R) → AllByRecursion (λ z. is_above cmp x z ≡ true) ys
      → put_in_place (is_above cmp) x ys ≡ x ∷ ys
  put_first x [] all = refl
  put_first x (y ∷ ys) all = ap (λ b. if b then x ∷ y ∷ ys else y ∷ put_in_place (is_above cmp) x ys) all.0

  module _ (test : R → Bool) where
    -- some of the ranks, where one more is put in
    kept_placed : (x : R) (ys : List R) → Ascends (is_above cmp) ys
        → filter test (put_in_place (is_above cmp) x ys)
        ≡ (if test x then put_in_place (is_above cmp) x (filter test ys) else filter test ys)
    kept_placed x [] up = choose (test x)
      where
        choose : (b : Bool) → (if b then x ∷ [] else []) ≡ (if b then x ∷ [] else [])
        choose b = refl
    kept_placed x (y ∷ ys) up = choose (is_above cmp x y) refl (kept_placed x ys up.1)
      where
        front : is_above cmp x y ≡ true → (b : Bool) → (if b then x ∷ filter test (y ∷ ys) else filter test (y ∷ ys))
            ≡ (if b then put_in_place (is_above cmp) x (filter test (y ∷ ys)) else filter test (y ∷ ys))
        front is false = refl
        front is true =
            sym (put_first x (filter test (y ∷ ys))
            (all-filter (λ z. is_above cmp x z ≡ true) test (y ∷ ys) (
              is,
              weaker (λ z. is_above cmp y z ≡ true) (λ z. is_above cmp x z ≡ true) ys
                  (λ z. above_on x y z is) up.0,
            )))

        past : is_above cmp x y ≡ false → (a b : Bool)
            → filter test (put_in_place (is_above cmp) x ys)
            ≡ (if a then put_in_place (is_above cmp) x (filter test ys) else filter test ys)
            → (if b then y ∷ filter test (put_in_place (is_above cmp) x ys)
            else filter test (put_in_place (is_above cmp) x ys))
            ≡ (if a then put_in_place (is_above cmp) x (if b then y ∷ filter test ys else filter test ys)
            else if b then y ∷ filter test ys else filter test ys)
        past is true true rest =
            ap (λ zs. y ∷ zs) rest
            ∙ sym
            (ap (λ b. if b then x ∷ y ∷ filter test ys else y ∷ put_in_place (is_above cmp) x (filter test ys)) is)
        past is true false rest = rest
        past is false true rest = ap (λ zs. y ∷ zs) rest
        past is false false rest = rest

        choose : (b : Bool) → is_above cmp x y ≡ b
            → filter test (put_in_place (is_above cmp) x ys)
            ≡ (if test x then put_in_place (is_above cmp) x (filter test ys) else filter test ys)
            → filter test (if b then x ∷ y ∷ ys else y ∷ put_in_place (is_above cmp) x ys)
            ≡ (if test x then put_in_place (is_above cmp) x (filter test (y ∷ ys)) else filter test (y ∷ ys))
        choose true is rest = front is (test x)
        choose false is rest = past is (test x) (test y) rest

    -- some of the sorted ranks are some of the ranks, sorted
    pub kept_sorted : (xs : List R) → IsDistinct (ties (is_above cmp)) xs
        → filter test (sorted_by (is_above cmp) xs) ≡ sorted_by (is_above cmp) (filter test xs)
    kept_sorted [] apart = refl
    kept_sorted (x ∷ xs) apart =
        let rest : IsDistinct (ties (is_above cmp)) xs = IsDistinct-tail (ties (is_above cmp)) x xs apart in
        kept_placed x (sorted_by (is_above cmp) xs)
        (ascends_sorted_by (order_of_all (is_above cmp) above_ranks) xs (for_all xs) rest)
        ∙ choose (test x) (kept_sorted xs rest)
      where
        choose : (b : Bool)
            → filter test (sorted_by (is_above cmp) xs) ≡ sorted_by (is_above cmp) (filter test xs)
            → (if b then put_in_place (is_above cmp) x (filter test (sorted_by (is_above cmp) xs))
            else filter test (sorted_by (is_above cmp) xs))
            ≡ sorted_by (is_above cmp) (if b then x ∷ filter test xs else filter test xs)
        choose true is = ap (put_in_place (is_above cmp) x) is
        choose false is = is

  -- the first rank behind a place, on the walk
  pub next_is : (ks listed : List R) → IsStrictlySortedBy cmp ks → ks ≡ sorted_by (is_below cmp) listed
      → (place : Option R)
      → slice_get (filter (is_behind (is_above cmp) place) (reverse ks)) 0 ≡ next_rank (is_above cmp) place listed
  next_is ks listed up is place =
      ap (λ zs. slice_get zs 0)
      (ap (filter (is_behind (is_above cmp) place)) (walked ks listed up is)
      ∙ kept_sorted (is_behind (is_above cmp) place) listed (listed_distinct ks listed up is))
