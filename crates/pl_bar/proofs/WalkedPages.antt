-- The pages in the order in which they are gone through: by frecency and then id, the greatest first.
use Rattle.std.proofs.Common.{◌≡◌, ◌≢◌, ◌∙◌, ◌<◌, ◌++◌, ◌&&◌, ◌||◌, ℕ, ℤ, Bool, true, false, List, [], ◌∷◌}
use Rattle.std.proofs.Common.{Ordering}
use Rattle.std.proofs.Common.{ap, ap₂, arith, filter, if◌then◌else◌, int_lt, map, nat_lt, negsuc, not, pos, refl}
use Rattle.std.proofs.Common.{reverse, sym}
use Rattle.std.specs.List.{AllPairs, IsDistinct}
use Rattle.std.specs.List.Sorted.{ties}
use Rattle.std.specs.Cmp.{IsStrictWeakOrder, IsTotalOrder}
use Rattle.std.specs.Ordering.{int_eq, is_gt, ordering_reverse}
use Rattle.std.specs.declared.cmp.Ordering.TheVariants.{Equal, Greater, Less}
use Rattle.std.proofs.lemmas.Bool.{true≢false}
use Rattle.std.proofs.lemmas.Bool.Decides.{nat_tests}
use Rattle.std.proofs.lemmas.Cmp.{on_total}
use Rattle.std.proofs.lemmas.List.Kept.{AllPairs-from_increasing}
use Rattle.pl_base.specs.declared.id.PageId.{PageId}
use Rattle.pl_base.specs.declared.view.View.{View}
use Rattle.pl_base.specs.Frecency.{frecency_of}
use Rattle.pl_base.specs.Rows.{IsWellKept, Kept, KeptPage, store_of}
use Rattle.pl_base.specs.Sorting.{sorted_by}
use Rattle.pl_base.specs.Store.{Page, Store}
use Rattle.pl_base.specs.View.{AreViews}
use Rattle.pl_base.proofs.ListLaws.{AllPairs-from_map, AllPairs-map, filter-map, map-map, weaker}
use Rattle.pl_base.proofs.LookUps.{none_kept}
use Rattle.pl_base.proofs.SortLaws.{Ascends, ascends_sorted_by, for_all, none_tie, order_of_all, sorted_map}
use Rattle.pl_follow.specs.Order.{entries_of, entry_of, frecency_ranks, is_above, is_ahead, leads}
use Rattle.pl_follow.proofs.EntriesFollow.{Entry}
use Rattle.pl_follow.proofs.EntryLists.{keys_kept}
use Rattle.pl_follow.proofs.RankLists.{above_ranks, kept_sorted}
use Rattle.pl_follow.proofs.ViewRanks.{ahead_above, frecency_cmp, frecency_exact, frecency_total}
use Rattle.pl_bar.specs.AddressBar.{ranks_before}
use Rattle.pl_bar.specs.Cost.{is_counted}
use Rattle.pl_bar.specs.Offers.{ids_of}

-- ---- two parts of a list that ascends, one in front of the other

module _ {A : Type 0} (before : A → A → Bool) (first second whole : A → Bool)
    (is_whole : (x : A) → whole x ≡ (first x || second x)) (apart : (x : A) → first x ≡ true → second x ≡ false)
    (in_front : (x y : A) → before x y ≡ true → second x ≡ true → first y ≡ false) where
  pub parts_joined : (xs : List A) → Ascends before xs → filter first xs ++ filter second xs ≡ filter whole xs
  parts_joined [] up = refl
  parts_joined (x ∷ xs) up =
      choose (first x) (second x) refl (apart x) none (parts_joined xs up.1)
      ∙ ap (λ b. if b then x ∷ filter whole xs else filter whole xs) (sym (is_whole x))
    where
      none : second x ≡ true → filter first xs ≡ []
      none is =
          none_kept first xs
          (weaker (λ y. before x y ≡ true) (λ y. first y ≡ false) xs (λ y behind. in_front x y behind is) up.0)

      choose : (f s : Bool) → second x ≡ s → (f ≡ true → s ≡ false) → (second x ≡ true → filter first xs ≡ [])
          → filter first xs ++ filter second xs ≡ filter whole xs
          → (if f then x ∷ filter first xs else filter first xs)
          ++ (if s then x ∷ filter second xs else filter second xs)
          ≡ (if f || s then x ∷ filter whole xs else filter whole xs)
      choose true true is differ empty rest = absurd (true≢false (differ refl))
      choose true false is differ empty rest = ap (λ zs. x ∷ zs) rest
      choose false true is differ empty rest =
          ap (λ zs. zs ++ x ∷ filter second xs) (empty is)
          ∙ ap (λ zs. x ∷ zs) (sym (ap (λ zs. zs ++ filter second xs) (empty is)) ∙ rest)
      choose false false is differ empty rest = rest

-- ---- frecencies

-- a positive frecency, as that of a rank before (1, 0), where the id is at least 1
pub positive_is : (f : ℤ) (id : ℕ) → 0 < id
    → (int_lt (pos 1) f || (int_eq f (pos 1) && nat_lt 0 id)) ≡ int_lt (pos 0) f
positive_is (pos n) id some = grind (arith, nat_tests)
positive_is (negsuc n) id some = refl

-- a negative one, as that of a rank behind (0, 0)
pub negative_is : (f : ℤ) (id : ℕ) → (int_lt f (pos 0) || (int_eq (pos 0) f && nat_lt id 0)) ≡ int_lt f (pos 0)
negative_is (pos n) id = grind (arith, nat_tests)
negative_is (negsuc n) id = refl

pub one_or_other : (f : ℤ) → not (int_eq f (pos 0)) ≡ (int_lt (pos 0) f || int_lt f (pos 0))
one_or_other (pos n) = grind (arith, nat_tests)
one_or_other (negsuc n) = refl

never_below : (n : ℕ) → int_lt (pos n) (pos 0) ≡ false
never_below n = grind (arith, nat_tests)

not_both : (f : ℤ) → int_lt (pos 0) f ≡ true → int_lt f (pos 0) ≡ false
not_both (pos n) is = never_below n
not_both (negsuc n) is = absurd (true≢false (sym is))

negatives_last : (e f : ℤ) (rest : Bool) → (int_lt f e || (int_eq e f && rest)) ≡ true → int_lt e (pos 0) ≡ true
    → int_lt (pos 0) f ≡ false
negatives_last (pos n) f rest before is = absurd (true≢false (sym is ∙ never_below n))
negatives_last (negsuc n) (pos m) rest before is = absurd (true≢false (sym before))
negatives_last (negsuc n) (negsuc m) rest before is = refl

-- ---- the order of the pages

-- no id stands twice
pub page_pairs : (kept : Kept) → IsWellKept kept
    → AllPairs (λ (p q : Page). p.id.0 ≢ q.id.0) (store_of kept).pages
page_pairs kept h =
    AllPairs-map (λ (p q : Page). p.id.0 ≢ q.id.0) (λ (p : KeptPage). p.page) kept.pages
    (λ i j d before within same.
    let above = AllPairs-from_map (λ m n. m < n) (λ (p : KeptPage). p.page.id.0) kept.pages
    (AllPairs-from_increasing (map (λ (p : KeptPage). p.page.id.0) kept.pages) h.page_ids.ascending) i j d before
    within in
    omega arith)

module _ (store : Store) where
  -- the frecency and the id of a page
  abbrev pub rank : Page → ℤ × PageId
  rank p = (frecency_of store p, p.id)

  abbrev pub page_cmp : Page → Page → Ordering
  page_cmp p q = frecency_cmp (rank p) (rank q)

  abbrev pub comes_before : Page → Page → Bool
  comes_before = is_above page_cmp

  page_total : IsTotalOrder page_cmp
  page_total = on_total rank frecency_total

  pub order_is : comes_before ≡ ranks_before store
  order_is i p q = ahead_above i (rank p) (rank q)

  pub page_ranks : IsStrictWeakOrder comes_before
  page_ranks = above_ranks page_cmp page_total

  tied : (p q : Page) → ties comes_before p q ≡ true → p.id.0 ≡ q.id.0
  tied p q tie = choose (page_cmp p q) refl tie
    where
      other : (o : Ordering) → page_cmp p q ≡ o → page_cmp q p ≡ ordering_reverse o
      other o is = page_total.antisymm q p ∙ ap ordering_reverse is

      choose : (o : Ordering) → page_cmp p q ≡ o → (not (is_gt o) && not (comes_before q p)) ≡ true → p.id.0 ≡ q.id.0
      choose Less is tie =
          absurd (true≢false (sym (ap (λ b. true && not b) (sym (ap is_gt (other Less is))) ∙ tie)))
      choose Equal is tie = ap (λ (r : ℤ × PageId). r.1.0) (frecency_exact (rank p) (rank q) is)
      choose Greater is tie = absurd (true≢false (sym tie))

  pub apart : AllPairs (λ (p q : Page). p.id.0 ≢ q.id.0) store.pages → IsDistinct (ties comes_before) store.pages
  apart pairs = none_tie comes_before (λ (p : Page). p.id.0) tied store.pages pairs

  -- all pages in that order
  abbrev pub in_order : List Page
  in_order = sorted_by comes_before store.pages

  pub ascends : AllPairs (λ (p q : Page). p.id.0 ≢ q.id.0) store.pages → Ascends comes_before in_order
  ascends pairs =
      ascends_sorted_by (order_of_all comes_before page_ranks) store.pages (for_all store.pages) (apart pairs)

  -- some of the pages in that order
  pub some_in_order : (test : Page → Bool) → AllPairs (λ (p q : Page). p.id.0 ≢ q.id.0) store.pages
      → filter test in_order ≡ sorted_by (ranks_before store) (filter test store.pages)
  some_in_order test pairs =
      kept_sorted page_cmp page_total test store.pages (apart pairs)
      ∙ ap (λ before. sorted_by before (filter test store.pages)) order_is

  -- ---- the ranks that are gone through

  ranks_told : (ps : List Page) (vs : List View) → AreViews store ps vs → frecency_ranks vs ≡ map rank ps
  ranks_told [] [] are = refl
  ranks_told [] (v ∷ vs) are = absurd are
  ranks_told (p ∷ ps) [] are = absurd are
  ranks_told (p ∷ ps) (v ∷ vs) are =
      ap₂ (λ (r : ℤ × PageId) (rs : List (ℤ × PageId)). r ∷ rs)
      (ap₂ (λ (f : ℤ) (id : PageId). (f, id)) are.0.frecency are.0.id) (ranks_told ps vs are.1)

  ranks_in_order : (views : List View) → AreViews store store.pages views
      → sorted_by is_ahead (frecency_ranks views) ≡ map rank in_order
  ranks_in_order views are =
      ap (sorted_by is_ahead) (ranks_told store.pages views are)
      ∙ sym (sorted_map rank is_ahead store.pages)
      ∙ ap (λ (before : Page → Page → Bool). map rank (sorted_by before store.pages)) (sym order_is)

  -- the ids of those that pass a test
  pub ids_walked : (test : ℤ × PageId → Bool) (views : List View) (entries : List Entry)
      → AreViews store store.pages views
      → reverse entries ≡ filter (λ (e : Entry). test e.0) (sorted_by leads (entries_of views))
      → ids_of entries ≡ map (λ (p : Page). p.id) (filter (λ p. test (rank p)) in_order)
  ids_walked test views entries are is =
      sym (map-map (λ (r : ℤ × PageId). r.1) (λ (e : Entry). e.0) (reverse entries))
      ∙ ap (map (λ (r : ℤ × PageId). r.1)) (ap (map (λ (e : Entry). e.0)) is
      ∙ keys_kept test (sorted_by leads (entries_of views))
      ∙ ap (filter test) (sorted_map (λ (e : Entry). e.0) is_ahead (entries_of views)
      ∙ ap (sorted_by is_ahead) (map-map (λ (e : Entry). e.0) entry_of views)
      ∙ ranks_in_order views are)
      ∙ filter-map test rank in_order)
      ∙ map-map (λ (r : ℤ × PageId). r.1) rank (filter (λ p. test (rank p)) in_order)

  -- those of a positive frecency, and those of a negative one
  abbrev pub is_positive : Page → Bool
  is_positive p = int_lt (pos 0) (frecency_of store p)

  abbrev pub is_negative : Page → Bool
  is_negative p = int_lt (frecency_of store p) (pos 0)

  -- all pages that are gone through
  abbrev pub walk : List Page
  walk = filter (is_counted store) in_order

  pub walk_joined : AllPairs (λ (p q : Page). p.id.0 ≢ q.id.0) store.pages
      → filter is_positive in_order ++ filter is_negative in_order ≡ walk
  walk_joined pairs =
      parts_joined comes_before is_positive is_negative (is_counted store)
      (λ p. one_or_other (frecency_of store p)) (λ p. not_both (frecency_of store p))
      (λ p q before. negatives_last (frecency_of store p) (frecency_of store q) (nat_lt q.id.0 p.id.0)
      (sym (ap (λ (test : Page → Page → Bool). test p q) order_is) ∙ before)) in_order (ascends pairs)
