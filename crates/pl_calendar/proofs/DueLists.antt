-- The entries that are due through a day stand in front of a calendar, and their pages are those of
-- the views.
use Rattle.std.proofs.Common.{◌≡◌, ◌∙◌, ◌+◌, ◌<◌, ℕ, Bool, true, false, List, [], ◌∷◌, Option, Some, None}
use Rattle.std.proofs.Common.{ap, arith, cond, filter, if◌then◌else◌, is_lt, map, nat_cmp, nat_le, refl}
use Rattle.std.proofs.Common.{subst, suc, sym, take}
use Rattle.std.specs.declared.cmp.Ordering.TheVariants.{Less}
use Rattle.std.specs.Cmp.{IsStrictWeakOrder}
use Rattle.std.specs.List.{AllPairs, IsDistinct, cons_option, prefix_len, take_while}
use Rattle.std.specs.List.Sorted.{IsPermutation, IsSortedBy, IsStrictlySortedBy, ties}
use Rattle.std.specs.Option.{option_map, option_map_or}
use Rattle.std.specs.Ordering.{ordering_then}
use Rattle.std.proofs.lemmas.Bool.Decides.{nat_tests}
use Rattle.std.proofs.lemmas.Cmp.{nat_cmp_total}
use Rattle.std.proofs.lemmas.List.Kept.{AllPairs-filter}
use Rattle.std.proofs.lemmas.List.Sorted.{IsPermutation-cons, IsPermutation-map, IsPermutation-middle}
use Rattle.std.proofs.lemmas.List.Sorted.{IsPermutation-refl, IsPermutation-sym, IsPermutation-trans, ranks_by}
use Rattle.pl_base.specs.declared.date.Day.{Day}
use Rattle.pl_base.specs.declared.id.PageId.{PageId}
use Rattle.pl_base.specs.declared.view.View.{View}
use Rattle.pl_base.specs.Sorting.{put_in_place, sorted_by}
use Rattle.pl_base.proofs.ListLaws.{AllPairs-map, weaker}
use Rattle.pl_base.proofs.LookUps.{none_kept}
use Rattle.pl_base.proofs.SortLaws.{none_tie, weak_sorted_is}
use Rattle.pl_follow.specs.Changes.{AreInOrder}
use Rattle.pl_calendar.specs.Days.{due_entries, due_pages, is_due_by, is_sooner}
use Rattle.pl_calendar.proofs.EntryOrder.{entry_cmp}

-- ---- some of the members of a sorted list

module _ {A : Type 0} (before : A → A → Bool) (test : A → Bool) where
  -- one more member in front of both lists
  both_more : (x : A) (xs ys : List A) → IsPermutation (filter test xs) (filter test ys)
      → IsPermutation (filter test (x ∷ xs)) (filter test (x ∷ ys))
  both_more x xs ys moves = choose (test x)
    where
      choose : (b : Bool) → IsPermutation (if b then x ∷ filter test xs else filter test xs)
          (if b then x ∷ filter test ys else filter test ys)
      choose true = IsPermutation-cons x (filter test xs) (filter test ys) moves
      choose false = moves

  -- the first two members the other way round
  exchanged : (x y : A) (ys : List A) → IsPermutation (filter test (x ∷ y ∷ ys)) (filter test (y ∷ x ∷ ys))
  exchanged x y ys = choose (test x) (test y)
    where
      choose : (a b : Bool)
          → IsPermutation (if a then x ∷ (if b then y ∷ filter test ys else filter test ys)
          else if b then y ∷ filter test ys else filter test ys)
          (if b then y ∷ (if a then x ∷ filter test ys else filter test ys)
          else if a then x ∷ filter test ys else filter test ys)
      choose true true = IsPermutation-sym _ _ (IsPermutation-middle (y ∷ []) x (filter test ys))
      choose true false = IsPermutation-refl (x ∷ filter test ys)
      choose false true = IsPermutation-refl (y ∷ filter test ys)
      choose false false = IsPermutation-refl (filter test ys)

  placed_part : (x : A) (ys : List A)
      → IsPermutation (filter test (x ∷ ys)) (filter test (put_in_place before x ys))
  placed_part x [] = IsPermutation-refl (filter test (x ∷ []))
  placed_part x (y ∷ ys) =
      choose (before x y)
      (IsPermutation-trans _ _ _ (exchanged x y ys)
      (both_more y (x ∷ ys) (put_in_place before x ys) (placed_part x ys)))
    where
      choose : (b : Bool) → IsPermutation (filter test (x ∷ y ∷ ys)) (filter test (y ∷ put_in_place before x ys))
          → IsPermutation (filter test (x ∷ y ∷ ys))
          (filter test (if b then x ∷ y ∷ ys else y ∷ put_in_place before x ys))
      choose true further = IsPermutation-refl (filter test (x ∷ y ∷ ys))
      choose false further = further

  sorted_part : (xs : List A) → IsPermutation (filter test xs) (filter test (sorted_by before xs))
  sorted_part [] = IsPermutation-refl []
  sorted_part (x ∷ xs) =
      IsPermutation-trans _ _ _ (both_more x xs (sorted_by before xs) (sorted_part xs))
      (placed_part x (sorted_by before xs))

-- ---- what is due

-- the day of the entry is this one or an earlier one
abbrev pub is_entry_due : Day → Day × PageId → Bool
is_entry_due day entry = nat_le entry.0.0 day.0

-- the page of an entry
abbrev pub page_of : Day × PageId → PageId
page_of entry = entry.1

-- what stands behind an entry that is not due is not due either
later_too : (day : Day) (x y : Day × PageId) → is_entry_due day x ≡ false → entry_cmp x y ≡ Less
    → is_entry_due day y ≡ false
later_too day x y = numbers x.0.0 y.0.0 x.1.0 y.1.0 day.0
  where
    numbers : (a b m n d : ℕ) → nat_le a d ≡ false → ordering_then (nat_cmp a b) (nat_cmp m n) ≡ Less
        → nat_le b d ≡ false
    numbers a b m n d late less = grind (arith, nat_tests)

-- the walk that stops at the first entry that is not due passes all that are
due_front : (day : Day) (entries : List (Day × PageId)) → IsStrictlySortedBy entry_cmp entries
    → take_while (is_entry_due day) entries ≡ filter (is_entry_due day) entries
unfolding IsStrictlySortedBy
due_front day [] up = refl
due_front day (e ∷ es) up = choose (is_entry_due day e) refl (due_front day es up.1)
  where
    choose : (b : Bool) → is_entry_due day e ≡ b
        → take_while (is_entry_due day) es ≡ filter (is_entry_due day) es
        → take (cond b (1 + prefix_len (is_entry_due day) es) 0) (e ∷ es)
        ≡ (if b then e ∷ filter (is_entry_due day) es else filter (is_entry_due day) es)
    choose true is rest =
        let more : 1 + prefix_len (is_entry_due day) es ≡ suc (prefix_len (is_entry_due day) es) = omega arith in
        ap (λ n. take n (e ∷ es)) more ∙ ap (λ zs. e ∷ zs) rest
    choose false is rest =
        sym (none_kept (is_entry_due day) es
        (weaker (λ f. entry_cmp e f ≡ Less) (λ f. is_entry_due day f ≡ false) es (λ f. later_too day e f is) up.0))

-- the pages of the due entries of the views
due_listed : (day : Day) (views : List View)
    → map page_of (filter (is_entry_due day) (due_entries views)) ≡ due_pages day views
due_listed day [] = refl
due_listed day (v ∷ vs) = choose v.due (due_listed day vs)
  where
    pick : (due : Day) (b : Bool)
        → map page_of (filter (is_entry_due day) (due_entries vs)) ≡ due_pages day vs
        → map page_of (if b then (due, v.id) ∷ filter (is_entry_due day) (due_entries vs)
        else filter (is_entry_due day) (due_entries vs))
        ≡ map (λ (w : View). w.id) (if b then v ∷ filter (is_due_by day) vs else filter (is_due_by day) vs)
    pick due true rest = ap (λ ids. v.id ∷ ids) rest
    pick due false rest = rest

    choose : (due : Option Day)
        → map page_of (filter (is_entry_due day) (due_entries vs)) ≡ due_pages day vs
        → map page_of (filter (is_entry_due day)
        (cons_option (option_map (λ (d : Day). (d, v.id)) due) (due_entries vs)))
        ≡ map (λ (w : View). w.id)
        (if option_map_or (λ (d : Day). nat_le d.0 day.0) due false then v ∷ filter (is_due_by day) vs
        else filter (is_due_by day) vs)
    choose None rest = rest
    choose (Some due) rest = pick due (nat_le due.0 day.0) rest

-- ---- in the order of ids

-- the first page has the lesser id
abbrev is_before : PageId → PageId → Bool
is_before p q = is_lt (nat_cmp p.0 q.0)

before_ranks : IsStrictWeakOrder is_before
before_ranks = ranks_by nat_cmp_total (λ (p : PageId). p.0)

due_ascend : (day : Day) (views : List View) → AreInOrder views
    → AllPairs (λ (p q : PageId). p.0 < q.0) (due_pages day views)
due_ascend day views ordered =
    AllPairs-map (λ (p q : PageId). p.0 < q.0) (λ (v : View). v.id) (filter (is_due_by day) views)
    (AllPairs-filter (λ (v w : View). v.id.0 < w.id.0) (is_due_by day) views ordered)

-- pages that ascend are what a sort makes of them
ascending_is : (pages sorted : List PageId) → AllPairs (λ (p q : PageId). p.0 < q.0) pages
    → IsPermutation pages sorted → IsSortedBy is_before sorted → sorted ≡ pages
ascending_is pages sorted up moves falls =
    weak_sorted_is is_before before_ranks pages sorted distinct moves falls
    ∙ sym (weak_sorted_is is_before before_ranks pages pages distinct (IsPermutation-refl pages) itself)
  where
    tied : (m n : ℕ) → ties (λ a b. is_lt (nat_cmp a b)) m n ≡ true → m ≡ n
    tied m n tie = grind (arith, nat_tests)

    distinct : IsDistinct (ties is_before) pages
    distinct =
        none_tie is_before (λ (p : PageId). p.0) (λ p q. tied p.0 q.0) pages
        (λ i j d less within same. absurd (omega (arith, same, up i j d less within)))

    not_below : (m n : ℕ) → m < n → is_lt (nat_cmp n m) ≡ false
    not_below m n less = grind (arith, nat_tests)

    itself : IsSortedBy is_before pages
    itself k d low within = not_below _ _ (up k (k + 1) d (omega arith) within)

-- the pages of the due entries, once they are sorted
pub due_is : (day : Day) (entries : List (Day × PageId)) (views : List View) (pages sorted : List PageId)
    → AreInOrder views → entries ≡ sorted_by is_sooner (due_entries views) → IsStrictlySortedBy entry_cmp entries
    → pages ≡ map page_of (take_while (is_entry_due day) entries) → IsPermutation pages sorted
    → IsSortedBy is_before sorted → sorted ≡ due_pages day views
due_is day entries views pages sorted ordered stood up walked moves falls =
    ascending_is (due_pages day views) sorted (due_ascend day views ordered)
    (IsPermutation-trans (due_pages day views) pages sorted
    (subst (λ ps. IsPermutation ps pages) (due_listed day views)
    (subst (IsPermutation (map page_of (filter (is_entry_due day) (due_entries views)))) (sym pages_are)
    (IsPermutation-map page_of (filter (is_entry_due day) (due_entries views))
    (filter (is_entry_due day) (sorted_by is_sooner (due_entries views)))
    (sorted_part is_sooner (is_entry_due day) (due_entries views)))))
    moves) falls
  where
    pages_are : pages ≡ map page_of (filter (is_entry_due day) (sorted_by is_sooner (due_entries views)))
    pages_are =
        walked ∙ ap (map page_of) (due_front day entries up)
        ∙ ap (λ es. map page_of (filter (is_entry_due day) es)) stood
