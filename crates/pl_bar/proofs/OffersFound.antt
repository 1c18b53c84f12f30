-- What the two lists of offers are in the end, and what finding them costs.
use Rattle.std.proofs.Common.{◌≡◌, ◌≢◌, ◌∙◌, ◌+◌, ◌-◌, ◌<◌, ◌≤◌, ◌++◌, ◌&&◌, ◌||◌, ℕ, ℤ, Bool, true, false}
use Rattle.std.proofs.Common.{List, []}
use Rattle.std.proofs.Common.{All, Some, ap, ap₂, arith, filter, length, map, min, nat_lt, not, pos}
use Rattle.std.proofs.Common.{refl, reverse, subst, sym, take}
use Rattle.std.specs.List.{AllByRecursion, AllPairs, list_any, sum_by}
use Rattle.std.proofs.lemmas.Bool.{or_right}
use Rattle.std.proofs.lemmas.Bool.Decides.{nat_tests}
use Rattle.std.proofs.lemmas.List.{length-append, map-append, take-append-le, take-map}
use Rattle.std.proofs.lemmas.List.Elements.{All-from_recursion, filter-append, filter_agree, recursion_from_All}
use Rattle.std.proofs.lemmas.List.Sorted.{length_permutation, sum_by-IsPermutation}
use Rattle.std.proofs.lemmas.List.Sums.{sum_by-append}
use Rattle.pl_base.specs.declared.id.PageId.{PageId}
use Rattle.pl_base.specs.declared.view.View.{View}
use Rattle.pl_base.specs.Fold.{folded}
use Rattle.pl_base.specs.Frecency.{frecency_of}
use Rattle.pl_base.specs.Marks.{visit_count}
use Rattle.pl_base.specs.Rows.{IsWellKept, Kept, KeptPage, store_of}
use Rattle.pl_base.specs.Sorting.{sorted_by}
use Rattle.pl_base.specs.Store.{Page, Store}
use Rattle.pl_base.specs.Tags.{is_bookmarked, is_tagged}
use Rattle.pl_base.specs.View.{AreViewsOf}
use Rattle.pl_base.proofs.ListLaws.{All-from_map, all-filter, filter-map, filter-where, sum_by-map, to_map, weaker}
use Rattle.pl_base.proofs.LookUps.{found_self, where_passes}
use Rattle.pl_base.proofs.SortLaws.{all_sorted, sorted_moves}
use Rattle.pl_follow.specs.Order.{entries_of, is_ahead, leads}
use Rattle.pl_follow.proofs.EntriesFollow.{Entry}
use Rattle.pl_words.specs.Bar.{AreTokens, marks_of, words_of}
use Rattle.pl_words.specs.declared.bar_text.BarText.{BarText}
use Rattle.pl_words.specs.declared.bar_text.Marks.{Marks}
use Rattle.pl_bar.specs.declared.offers.Offers.{Offers}
use Rattle.pl_bar.specs.AddressBar.{all_match, first_tier, is_candidate, offered, ranks_before, second_tier, tiers}
use Rattle.pl_bar.specs.Cost.{gone_through, is_counted, is_reached, page_cost}
use Rattle.pl_bar.specs.Offers.{GoOn, filled_up, has_counted, has_id, ids_of, in_first, in_second, up_to}
use Rattle.pl_marks.proofs.PageRows.{ids_apart}
use Rattle.pl_bar.proofs.FilledLists.{ascends_kept, filled_cut, filled_full, filled_length, filled_more, filled_take}
use Rattle.pl_bar.proofs.FilledLists.{up_to_alike, up_to_cost, up_to_map, up_to_more, up_to_reached}
use Rattle.pl_bar.proofs.PageTiers.{both_filters, has_filtered, page_with}
use Rattle.pl_bar.proofs.WalkedPages.{ascends, comes_before, ids_walked, in_order, is_negative, is_positive}
use Rattle.pl_bar.proofs.WalkedPages.{negative_is, one_or_other, order_is, page_pairs, page_ranks, positive_is, rank}
use Rattle.pl_bar.proofs.WalkedPages.{some_in_order, walk, walk_joined}

-- a page that is not counted is in no tier
same : (a b c d e : Bool) → (a && ((((a && b) && c) && d) && e)) ≡ ((((a && b) && c) && d) && e)
same true b c d e = refl
same false b c d e = refl

abbrev pub id_of : Page → PageId
id_of p = p.id

-- what is asked is what the text says
pub asked_is : (text folds : List ℕ) (asked : BarText) → folds ≡ folded text → AreTokens folds asked
    → (asked.marks ≡ marks_of (folded text)) × (asked.words ≡ words_of (folded text))
asked_is text folds asked is are = (are.marks ∙ ap marks_of is, are.words ∙ ap words_of is)

pub offered_is : (store : Store) (text folds : List ℕ) (asked : BarText) (most : ℕ) → folds ≡ folded text
    → AreTokens folds asked → take most (tiers store asked.marks asked.words) ≡ offered store text most
offered_is store text folds asked most is are =
    let told = asked_is text folds asked is are in
    ap₂ (λ (marks : Marks) (words : List (List ℕ)). take most (tiers store marks words)) told.0 told.1

pub first_tier_is : (store : Store) (text folds : List ℕ) (asked : BarText) → folds ≡ folded text
    → AreTokens folds asked
    → first_tier store asked.marks asked.words ≡ first_tier store (marks_of (folded text)) (words_of (folded text))
first_tier_is store text folds asked is are =
    let told = asked_is text folds asked is are in
    ap₂ (λ (marks : Marks) (words : List (List ℕ)). first_tier store marks words) told.0 told.1

module _ (kept : Kept) (well : IsWellKept kept) (asked : BarText) where
  abbrev store : Store
  store = store_of kept

  pairs : AllPairs (λ (p q : Page). p.id.0 ≢ q.id.0) store.pages
  pairs = page_pairs kept well

  -- the pages of each tier by a test
  abbrev first_test : Page → Bool
  first_test p = is_candidate store asked.marks p && all_match store asked.marks asked.words true p

  abbrev second_test : Page → Bool
  second_test p =
      is_candidate store asked.marks p
      && (all_match store asked.marks asked.words false p && not (all_match store asked.marks asked.words true p))

  first_are : filter first_test store.pages ≡ first_tier store asked.marks asked.words
  first_are =
      sym (both_filters (all_match store asked.marks asked.words true) (is_candidate store asked.marks) store.pages)

  second_are : filter second_test store.pages ≡ second_tier store asked.marks asked.words
  second_are =
      sym (both_filters (λ p. all_match store asked.marks asked.words false p
      && not (all_match store asked.marks asked.words true p)) (is_candidate store asked.marks) store.pages)

  -- where an id of these is one of a page that passes
  tells : (test : Page → Bool) → AllByRecursion (λ p. has_id (filter test store.pages) p.id ≡ test p) store.pages
  tells test =
      weaker (λ p. page_with p.id store.pages ≡ Some p) (λ p. has_id (filter test store.pages) p.id ≡ test p)
      store.pages (λ p at. has_filtered test store.pages p.id p (ids_apart kept well) at)
      (found_self (λ (p : Page). p.id.0) store.pages (ids_apart kept well))

  on_walk : (P : Page → Type 0) → AllByRecursion P store.pages → AllByRecursion P (walk store)
  on_walk P all = all-filter P (is_counted store) (in_order store) (all_sorted (comes_before store) P store.pages all)

  module _ (test : Page → Bool) (is_one : PageId → Bool)
      (one_is : (id : PageId) → is_one id ≡ has_id (filter test store.pages) id)
      (counts : (p : Page) → (is_counted store p && test p) ≡ test p) where
    told : AllByRecursion (λ p. is_one p.id ≡ test p) (walk store)
    told =
        on_walk (λ p. is_one p.id ≡ test p)
        (weaker (λ p. has_id (filter test store.pages) p.id ≡ test p) (λ p. is_one p.id ≡ test p) store.pages
        (λ p so. one_is p.id ∙ so) (tells test))

    in_tier : filter test (walk store) ≡ sorted_by (ranks_before store) (filter test store.pages)
    in_tier =
        both_filters test (is_counted store) (in_order store)
        ∙ filter_agree (λ p. is_counted store p && test p) test counts (in_order store)
        ∙ some_in_order store test pairs

    -- their ids, as they are found on the way
    found_are : filter is_one (map id_of (walk store))
        ≡ map id_of (sorted_by (ranks_before store) (filter test store.pages))
    found_are =
        filter-map is_one id_of (walk store)
        ∙ ap (map id_of) (filter-where (λ p. is_one p.id) test (walk store) told ∙ in_tier)

  counts_first : (p : Page) → (is_counted store p && first_test p) ≡ first_test p
  counts_first p =
      same (is_counted store p) (not asked.marks.history || nat_lt 0 (visit_count store p.id))
      (not asked.marks.bookmark || is_bookmarked store p.id) (not asked.marks.tag || is_tagged store p.id)
      (all_match store asked.marks asked.words true p)

  counts_second : (p : Page) → (is_counted store p && second_test p) ≡ second_test p
  counts_second p =
      same (is_counted store p) (not asked.marks.history || nat_lt 0 (visit_count store p.id))
      (not asked.marks.bookmark || is_bookmarked store p.id) (not asked.marks.tag || is_tagged store p.id)
      (all_match store asked.marks asked.words false p && not (all_match store asked.marks asked.words true p))

  -- the two tiers in their order
  abbrev firsts : List Page
  firsts = sorted_by (ranks_before store) (first_tier store asked.marks asked.words)

  abbrev seconds : List Page
  seconds = sorted_by (ranks_before store) (second_tier store asked.marks asked.words)

  pub first_found : filter (in_first store asked) (map id_of (walk store)) ≡ map id_of firsts
  first_found =
      found_are first_test (in_first store asked) (λ id. ap (λ pages. has_id pages id) (sym first_are)) counts_first
      ∙ ap (λ pages. map id_of (sorted_by (ranks_before store) pages)) first_are

  pub second_found : filter (in_second store asked) (map id_of (walk store)) ≡ map id_of seconds
  second_found =
      found_are second_test (in_second store asked) (λ id. ap (λ pages. has_id pages id) (sym second_are))
      counts_second
      ∙ ap (λ pages. map id_of (sorted_by (ranks_before store) pages)) second_are

  -- ---- the ids that are gone through

  -- their pages have another frecency than 0
  pub all_counted : (part : Page → Bool) → ((p : Page) → part p ≡ true → is_counted store p ≡ true)
      → (ids : List PageId) → ids ≡ map id_of (filter part (in_order store))
      → All (λ (id : PageId). has_counted store id ≡ true) ids
  all_counted part counts ids is =
      All-from_recursion (λ (id : PageId). has_counted store id ≡ true) ids
      (subst (AllByRecursion (λ (id : PageId). has_counted store id ≡ true)) (sym is)
      (to_map (λ (id : PageId). has_counted store id ≡ true) id_of (filter part (in_order store))
      (where_passes (λ p. has_counted store p.id ≡ true) part (in_order store)
      (all_sorted (comes_before store) (λ p. part p ≡ true → has_counted store p.id ≡ true) store.pages
      (weaker (λ p. has_id (filter (is_counted store) store.pages) p.id ≡ is_counted store p)
      (λ p. part p ≡ true → has_counted store p.id ≡ true) store.pages (λ p so passes. so ∙ counts p passes)
      (tells (is_counted store)))))))

  pub positive_counted : (p : Page) → is_positive store p ≡ true → is_counted store p ≡ true
  positive_counted p is =
      one_or_other (frecency_of store p) ∙ ap (λ b. b || is_negative store p) is

  pub negative_counted : (p : Page) → is_negative store p ≡ true → is_counted store p ≡ true
  negative_counted p is =
      one_or_other (frecency_of store p) ∙ or_right (is_positive store p) (is_negative store p) is

  module _ (views : List View) (are : AreViewsOf store views) (entries : List Entry) where
    pub positive_ids : reverse entries
        ≡ filter (λ (e : Entry). is_ahead e.0 (pos 1, record { 0 = 0 })) (sorted_by leads (entries_of views))
        → ids_of entries ≡ map id_of (filter (is_positive store) (in_order store))
    positive_ids is =
        ids_walked store (λ (r : ℤ × PageId). is_ahead r (pos 1, record { 0 = 0 })) views entries are is
        ∙ ap (map id_of) (filter-where (λ p. is_ahead (rank store p) (pos 1, record { 0 = 0 })) (is_positive store)
        (in_order store) (all_sorted (comes_before store)
        (λ p. is_ahead (rank store p) (pos 1, record { 0 = 0 }) ≡ is_positive store p) store.pages
        (to_map (λ p. is_ahead (rank store p) (pos 1, record { 0 = 0 }) ≡ is_positive store p)
        (λ (p : KeptPage). p.page) kept.pages
        (weaker (λ (p : KeptPage). 0 < p.page.id.0)
        (λ (p : KeptPage). is_ahead (rank store p.page) (pos 1, record { 0 = 0 }) ≡ is_positive store p.page) kept.pages
        (λ p above. positive_is (frecency_of store p.page) p.page.id.0 above) ids_above))))
      where
        ids_above : AllByRecursion (λ (p : KeptPage). 0 < p.page.id.0) kept.pages
        ids_above =
            recursion_from_All (λ (p : KeptPage). 0 < p.page.id.0) kept.pages
            (λ k d within. (All-from_map (λ (n : ℕ). (0 < n) × (n < kept.ids.page)) (λ (p : KeptPage). p.page.id.0)
            kept.pages well.page_ids.given k d within).0)

    pub negative_ids : reverse entries
        ≡ filter (λ (e : Entry). is_ahead (pos 0, record { 0 = 0 }) e.0) (sorted_by leads (entries_of views))
        → ids_of entries ≡ map id_of (filter (is_negative store) (in_order store))
    negative_ids is =
        ids_walked store (is_ahead (pos 0, record { 0 = 0 })) views entries are is
        ∙ ap (map id_of) (filter_agree (λ p. is_ahead (pos 0, record { 0 = 0 }) (rank store p)) (is_negative store)
        (λ p. negative_is (frecency_of store p) p.id.0) (in_order store))

  pub ids_joined : (ones others : List PageId) → ones ≡ map id_of (filter (is_positive store) (in_order store))
      → others ≡ map id_of (filter (is_negative store) (in_order store)) → ones ++ others ≡ map id_of (walk store)
  ids_joined ones others is are =
      ap₂ (λ (xs ys : List PageId). xs ++ ys) is are
      ∙ sym (map-append id_of (filter (is_positive store) (in_order store))
      (filter (is_negative store) (in_order store)))
      ∙ ap (map id_of) (walk_joined store pairs)

  -- ---- what is answered

  module _ (most : ℕ) (start middle end : Offers) (ones others : List PageId) (max_is : start.max ≡ most)
      (no_first : start.first.items ≡ []) (no_second : start.second.items ≡ [])
      (one : GoOn store asked ones start middle)
      (two : GoOn store asked others middle end) (joined : ones ++ others ≡ map id_of (walk store)) where
    middle_max : middle.max ≡ most
    middle_max = one.most ∙ max_is

    middle_first : middle.first.items ≡ filled_up most [] (filter (in_first store asked) ones)
    middle_first =
        one.first
        ∙ ap₂ (λ (m : ℕ) (xs : List PageId). filled_up m xs (filter (in_first store asked) ones)) max_is no_first

    both : (test : PageId → Bool) → filter test ones ++ filter test others ≡ filter test (map id_of (walk store))
    both test = sym (filter-append test ones others) ∙ ap (filter test) joined

    end_first : end.first.items ≡ filled_up most [] (map id_of firsts)
    end_first =
        two.first
        ∙ ap₂ (λ (m : ℕ) (xs : List PageId). filled_up m xs (filter (in_first store asked) others)) middle_max
        middle_first
        ∙ filled_more most [] (filter (in_first store asked) ones) (filter (in_first store asked) others)
        ∙ ap (filled_up most []) (both (in_first store asked) ∙ first_found)

    end_second : length end.first.items < most → end.second.items ≡ filled_up most [] (map id_of seconds)
    end_second room =
        let more : length end.first.items ≡ _ =
        ap length two.first
        ∙ length-append middle.first.items
        (take (middle.max - length middle.first.items) (filter (in_first store asked) others)) in
        let first_room : length middle.first.items < start.max = omega (arith, more, room, max_is) in
        let last_room : length end.first.items < middle.max = omega (arith, room, middle_max) in
        two.second last_room
        ∙ ap₂ (λ (m : ℕ) (xs : List PageId). filled_up m xs (filter (in_second store asked) others)) middle_max
        (one.second first_room
        ∙ ap₂ (λ (m : ℕ) (xs : List PageId). filled_up m xs (filter (in_second store asked) ones)) max_is no_second)
        ∙ filled_more most [] (filter (in_second store asked) ones) (filter (in_second store asked) others)
        ∙ ap (filled_up most []) (both (in_second store asked) ∙ second_found)

    whole : filled_up most end.first.items end.second.items ≡ filled_up most end.first.items (map id_of seconds)
    whole = choose (nat_lt (length end.first.items) most) refl
      where
        choose : (b : Bool) → nat_lt (length end.first.items) most ≡ b
            → filled_up most end.first.items end.second.items ≡ filled_up most end.first.items (map id_of seconds)
        choose true is =
            let room : length end.first.items < most = grind (arith, nat_tests) in
            ap (filled_up most end.first.items) (end_second room)
            ∙ filled_cut most end.first.items (map id_of seconds)
        choose false is =
            let full : most ≤ length end.first.items = grind (arith, nat_tests) in
            filled_full most end.first.items end.second.items full
            ∙ sym (filled_full most end.first.items (map id_of seconds) full)

    pub answered : filled_up end.max end.first.items end.second.items
        ≡ map id_of (take most (tiers store asked.marks asked.words))
    answered =
        ap (λ m. filled_up m end.first.items end.second.items) (two.most ∙ middle_max)
        ∙ whole
        ∙ ap (λ xs. filled_up most xs (map id_of seconds)) end_first
        ∙ filled_take most (map id_of firsts) (map id_of seconds)
        ∙ ap (take most) (sym (map-append id_of firsts seconds))
        ∙ take-map id_of most (firsts ++ seconds)

    -- ---- what it costs

    abbrev cost_of : List PageId → ℕ
    cost_of ids = sum_by (page_cost store) ids

    abbrev page_costs : List Page → ℕ
    page_costs pages = sum_by (λ (p : Page). page_cost store p.id) pages

    -- of the walk up to the page at which the first list is full
    costs : cost_of (up_to (in_first store asked) (start.max - length start.first.items) ones)
        + cost_of (up_to (in_first store asked) (middle.max - length middle.first.items) others)
        ≡ page_costs (up_to first_test most (walk store))
    costs =
        ap₂ (λ (m n : ℕ).
        cost_of (up_to (in_first store asked) m ones) + cost_of (up_to (in_first store asked) n others)) start_room
        middle_room
        ∙ sym (sum_by-append (page_cost store) (up_to (in_first store asked) most ones)
        (up_to (in_first store asked) (most - length (filter (in_first store asked) ones)) others))
        ∙ ap cost_of (sym (up_to_more (in_first store asked) most ones others)
        ∙ ap (up_to (in_first store asked) most) joined
        ∙ up_to_map id_of (in_first store asked) most (walk store))
        ∙ sum_by-map (page_cost store) id_of (up_to (λ p. in_first store asked p.id) most (walk store))
        ∙ ap page_costs (up_to_alike (λ p. in_first store asked p.id) first_test most (walk store)
        (told first_test (in_first store asked) (λ id. ap (λ pages. has_id pages id) (sym first_are)) counts_first))
      where
        start_room : start.max - length start.first.items ≡ most
        start_room =
            let none : length start.first.items ≡ 0 = ap length no_first in
            omega (arith, none, max_is)

        middle_room : middle.max - length middle.first.items ≡ most - length (filter (in_first store asked) ones)
        middle_room =
            let long : length middle.first.items ≡ min most (length (filter (in_first store asked) ones)) =
            ap length middle_first ∙ filled_length most (filter (in_first store asked) ones) in
            omega (arith, long, middle_max)

    abbrev offers : List Page
    offers = take most (tiers store asked.marks asked.words)

    fills : most ≤ length (first_tier store asked.marks asked.words) → most ≤ length firsts
    fills enough =
        let long : length firsts ≡ length (first_tier store asked.marks asked.words) =
        length_permutation (first_tier store asked.marks asked.words) firsts
        (sorted_moves (ranks_before store) (first_tier store asked.marks asked.words)) in
        omega (arith, long, enough)

    first_walked : filter first_test (walk store) ≡ firsts
    first_walked =
        in_tier first_test (in_first store asked) (λ id. ap (λ pages. has_id pages id) (sym first_are)) counts_first
        ∙ ap (sorted_by (ranks_before store)) first_are

    all_reached : most ≤ length firsts
        → AllByRecursion (λ p. is_reached store offers p ≡ true) (up_to first_test most (walk store))
    all_reached enough =
        subst (λ (found : List Page).
        AllByRecursion (λ p. is_reached store found p ≡ true) (up_to first_test most (walk store)))
        (ap (take most) first_walked ∙ sym (take-append-le most firsts seconds enough))
        (subst (λ (before : Page → Page → Bool). AllByRecursion
        (λ p. list_any (λ (q : Page). not (before q p)) (take most (filter first_test (walk store))) ≡ true)
        (up_to first_test most (walk store))) (order_is store)
        (up_to_reached (comes_before store) first_test (λ p q. (page_ranks store).one_way p q) most (walk store)
        (ascends_kept (comes_before store) (is_counted store) (in_order store) (ascends store pairs))
        (subst (λ n. most ≤ n) (sym (ap length first_walked)) enough)))

    gone : page_costs (filter (is_reached store offers) (walk store)) ≡ page_costs (gone_through store offers)
    gone =
        ap page_costs (both_filters (is_reached store offers) (is_counted store) (in_order store)
        ∙ some_in_order store (λ p. is_counted store p && is_reached store offers p) pairs)
        ∙ sum_by-IsPermutation (λ (p : Page). page_cost store p.id) (gone_through store offers)
        (sorted_by (ranks_before store) (gone_through store offers))
        (sorted_moves (ranks_before store) (gone_through store offers))

    pub cost_told : (before between after : ℕ)
        → between ≤ before + cost_of (up_to (in_first store asked) (start.max - length start.first.items) ones)
        → after ≤ between + cost_of (up_to (in_first store asked) (middle.max - length middle.first.items) others)
        → most ≤ length (first_tier store asked.marks asked.words)
        → after ≤ before + page_costs (gone_through store offers)
    cost_told before between after first second enough =
        let less = up_to_cost first_test (λ (p : Page). page_cost store p.id) (is_reached store offers) most
        (walk store) (all_reached (fills enough)) in
        omega (arith, costs, gone, first, second, less)
