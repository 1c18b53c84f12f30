-- The pages that gained an item, by ascending id: what an import tells is what the stores tell.
use Rattle.std.proofs.Common.{◌≡◌, ◌∙◌, ◌<◌, ◌≤◌, ◌==◌, ◌&&◌, ◌||◌, ℕ, Bool, true, false, List, [], ◌∷◌}
use Rattle.std.proofs.Common.{ap, arith, eq-eqb, filter, if◌then◌else◌, map, nat_le}
use Rattle.std.proofs.Common.{refl}
use Rattle.std.proofs.Common.{suc, sym}
use Rattle.std.specs.List.{AllByRecursion, AllPairs, list_any}
use Rattle.std.specs.List.Sorted.{IsStrictlyIncreasing, IsStrictlySortedBy}
use Rattle.std.specs.Ordering.{nat_cmp}
use Rattle.std.specs.declared.cmp.Ordering.TheVariants.{Less}
use Rattle.std.proofs.lemmas.Bool.{and_parts, eqb-true, false≢true}
use Rattle.std.proofs.lemmas.Bool.Decides.{nat_tests}
use Rattle.std.proofs.lemmas.List.Elements.{All-weaker, recursion_from_All}
use Rattle.std.proofs.lemmas.List.Folds.{list_any_none}
use Rattle.std.proofs.lemmas.List.Kept.{AllPairs-from_increasing}
use Rattle.std.proofs.lemmas.Map.Keys.{IsStrictlyIncreasing-from_sorted}
use Rattle.pl_base.specs.declared.id.PageId.{PageId}
use Rattle.pl_base.specs.Good.{HasGoodItems, IsGoodItem, has_page_at}
use Rattle.pl_base.specs.Rows.{IsWellKept, Kept, KeptPage, store_of}
use Rattle.pl_base.specs.Store.{Item, Page, Store}
use Rattle.pl_base.specs.Tree.{is_page}
use Rattle.pl_base.proofs.IdsLaws.{same_page}
use Rattle.pl_base.proofs.ListLaws.{All-from_map, all-filter, list_any-map, to_map}
use Rattle.pl_base.proofs.PageLaws.{page_of_item}
use Rattle.pl_base.proofs.PagesRun.{Ascend, ascend}
use Rattle.pl_graft.specs.declared.grafting.Grafting.{Grafting}
use Rattle.pl_graft.specs.Gained.{gained, has_new_item}
use Rattle.pl_graft.specs.Standing.{HasGained}
use Rattle.pl_graft.proofs.GainedPages.{by_number, holds}

-- ---- numbers that ascend

abbrev Up : List ℕ → Type 0
Up [] = Unit {0}
Up (n ∷ ns) = AllByRecursion (λ m. n < m) ns × Up ns

up_from_pairs : (ns : List ℕ) → AllPairs (λ m n. m < n) ns → Up ns
up_from_pairs [] pairs = tt
up_from_pairs (n ∷ ns) pairs = (
  recursion_from_All (λ m. n < m) ns (λ k d within. pairs 0 (suc k) d (omega arith) (omega arith)),
  up_from_pairs ns (λ i j d less within. pairs (suc i) (suc j) d (omega arith) (omega arith)),
)

up : (ns : List ℕ) → IsStrictlyIncreasing ns → Up ns
up ns increasing = up_from_pairs ns (AllPairs-from_increasing ns increasing)

abbrev has : ℕ → List ℕ → Bool
has n ns = list_any (λ m. m == n) ns

above : (a b : ℕ) (ns : List ℕ) → AllByRecursion (λ m. a < m) ns → has b ns ≡ true → a < b
above a b [] all some = absurd (cc)
above a b (n ∷ ns) all some = choose (n == b) refl some (above a b ns all.1)
  where
    choose : (t : Bool) → (n == b) ≡ t → (t || has b ns) ≡ true → (has b ns ≡ true → a < b) → a < b
    choose true same here later = omega (arith, eqb-true n b same, all.0)
    choose false apart here later = later here

least : (a b : ℕ) (ns : List ℕ) → AllByRecursion (λ m. a < m) ns → has b (a ∷ ns) ≡ true → a ≤ b
least a b ns all some = choose (a == b) refl some
  where
    choose : (t : Bool) → (a == b) ≡ t → (t || has b ns) ≡ true → a ≤ b
    choose true same here = omega (arith, eqb-true a b same)
    choose false apart here = omega (arith, above a b ns all here)

none_there : (a b : ℕ) (ns : List ℕ) → AllByRecursion (λ m. a < m) ns → a ≡ b → has b ns ≡ false
none_there a b ns all same = choose (has b ns) refl
  where
    choose : (t : Bool) → has b ns ≡ t → t ≡ false
    choose true some = absurd (omega (arith, same, above a b ns all some))
    choose false none = refl

has_first : (n : ℕ) (ns : List ℕ) → has n (n ∷ ns) ≡ true
has_first n ns = ap (λ (b : Bool). b || has n ns) (eq-eqb n n refl)

-- numbers that ascend are told by which are there
same_numbers : (ms ns : List ℕ) → Up ms → Up ns → ((n : ℕ) → has n ms ≡ has n ns) → ms ≡ ns
same_numbers [] [] up_m up_n same = refl
same_numbers [] (n ∷ ns) up_m up_n same = absurd (false≢true (same n ∙ has_first n ns))
same_numbers (m ∷ ms) [] up_m up_n same = absurd (false≢true (sym (same m) ∙ has_first m ms))
same_numbers (m ∷ ms) (n ∷ ns) up_m up_n same =
    let first : m ≡ n =
    omega (
      arith,
      least n m ns up_n.0 (sym (same m) ∙ has_first m ms),
      least m n ms up_m.0 (same n ∙ has_first n ns),
    ) in
    ap (λ k. k ∷ ms) first
    ∙ ap (λ ks. n ∷ ks) (same_numbers ms ns up_m.1 up_n.1 (λ k. behind k first (m == k) refl))
  where
    behind : (k : ℕ) → m ≡ n → (t : Bool) → (m == k) ≡ t → has k ms ≡ has k ns
    behind k first true here =
        none_there m k ms up_m.0 (eqb-true m k here)
        ∙ sym (none_there n k ns up_n.0 (sym first ∙ eqb-true m k here))
    behind k first false apart =
        ap (λ (b : Bool). b || has k ms) (sym apart) ∙ same k
        ∙ ap (λ (b : Bool). b || has k ns) (ap (λ j. j == k) (sym first) ∙ apart)

-- ---- ids of pages

abbrev pub numbers : List PageId → List ℕ
numbers pages = map (λ (page : PageId). page.0) pages

sorted_numbers : (pages : List PageId) → IsStrictlySortedBy by_number pages → IsStrictlySortedBy nat_cmp (numbers pages)
unfolding IsStrictlySortedBy
sorted_numbers [] sorted = tt
sorted_numbers (p ∷ pages) sorted =
    (to_map (λ n. nat_cmp p.0 n ≡ Less) (λ (q : PageId). q.0) pages sorted.0, sorted_numbers pages sorted.1)

pub increasing : (pages : List PageId) → IsStrictlySortedBy by_number pages → IsStrictlyIncreasing (numbers pages)
increasing pages sorted = IsStrictlyIncreasing-from_sorted (numbers pages) (sorted_numbers pages sorted)

by_numbers : (pages : List PageId) → map (λ n. let id : PageId = record { 0 = n } in id) (numbers pages) ≡ pages
by_numbers [] = refl
by_numbers (p ∷ pages) = ap (λ (ps : List PageId). p ∷ ps) (by_numbers pages)

same_pages : (ps qs : List PageId) → Up (numbers ps) → Up (numbers qs)
    → ((page : PageId) → holds page ps ≡ holds page qs) → ps ≡ qs
same_pages ps qs up_p up_q same =
    let test : (n : ℕ) → PageId → Bool = λ n p. p.0 == n in
    sym (by_numbers ps)
    ∙ ap (map (λ n. let id : PageId = record { 0 = n } in id))
    (same_numbers (numbers ps) (numbers qs) up_p up_q (λ n.
    list_any-map (λ m. m == n) (λ (p : PageId). p.0) ps ∙ same (record { 0 = n })
    ∙ sym (list_any-map (λ m. m == n) (λ (p : PageId). p.0) qs)))
    ∙ by_numbers qs

-- ---- the pages of new items

abbrev rows : List KeptPage → List Page
rows pages = map (λ (p : KeptPage). p.page) pages

abbrev ids : List Page → List PageId
ids pages = map (λ (p : Page). p.id) pages

higher : (n : ℕ) (test : Page → Bool) (pages : List KeptPage)
    → AllByRecursion (λ (p : KeptPage). n < p.page.id.0) pages
    → AllByRecursion (λ m. n < m) (numbers (ids (filter test (rows pages))))
higher n test pages all =
    to_map (λ m. n < m) (λ (id : PageId). id.0) (ids (filter test (rows pages)))
    (to_map (λ (id : PageId). n < id.0) (λ (p : Page). p.id) (filter test (rows pages))
    (all-filter (λ (p : Page). n < p.id.0) test (rows pages)
    (to_map (λ (p : Page). n < p.id.0) (λ (p : KeptPage). p.page) pages all)))

up_filtered : (test : Page → Bool) (pages : List KeptPage) → Ascend pages
    → Up (numbers (ids (filter test (rows pages))))
up_filtered test [] up = tt
up_filtered test (p ∷ pages) up = choose (test p.page) (up_filtered test pages up.1)
  where
    choose : (b : Bool) → Up (numbers (ids (filter test (rows pages))))
        → Up (numbers (ids (if b then p.page ∷ filter test (rows pages) else filter test (rows pages))))
    choose true later = (higher p.page.id.0 test pages up.0, later)
    choose false later = later

both_false : (a : Bool) → (a && false) ≡ false
both_false true = refl
both_false false = refl

-- a page with this id is there
abbrev any : PageId → List Page → Bool
any page pages = list_any (λ (p : Page). p.id.0 == page.0) pages

filtered : (test : PageId → Bool) (pages : List Page) (page : PageId)
    → any page (filter (λ (p : Page). test p.id) pages) ≡ (any page pages && test page)
filtered test [] page = refl
filtered test (p ∷ pages) page =
    choose (p.id.0 == page.0) refl (test p.id) refl (filter (λ (q : Page). test q.id) pages) (filtered test pages page)
  where
    choose : (a : Bool) → (p.id.0 == page.0) ≡ a → (b : Bool) → test p.id ≡ b → (rest : List Page)
        → any page rest ≡ (any page pages && test page)
        → any page (if b then p ∷ rest else rest) ≡ ((a || any page pages) && test page)
    choose true same true passes rest is =
        ap (λ (c : Bool). c || any page rest) same
        ∙ sym (ap test (sym (same_page p.id page same)) ∙ passes)
    choose true same false fails rest is =
        let none : test page ≡ false = ap test (sym (same_page p.id page same)) ∙ fails in
        is ∙ ap (λ (c : Bool). any page pages && c) none ∙ both_false (any page pages) ∙ sym none
    choose false apart true passes rest is = ap (λ (c : Bool). c || any page rest) apart ∙ is
    choose false apart false fails rest is = is

page_there : (store : Store) (first : ℕ) (items : List Item) (page : PageId) → AllByRecursion (IsGoodItem store) items
    → has_new_item first items page ≡ true → has_page_at store page ≡ true
page_there store first [] page all some = absurd (cc)
page_there store first (i ∷ items) page all some =
    choose (nat_le first i.id.0 && is_page page i.page) refl some (page_there store first items page all.1)
  where
    choose : (b : Bool) → (nat_le first i.id.0 && is_page page i.page) ≡ b
        → (b || has_new_item first items page) ≡ true
        → (has_new_item first items page ≡ true → has_page_at store page ≡ true) → has_page_at store page ≡ true
    choose true is here later =
        page_of_item store page i.page (and_parts (nat_le first i.id.0) (is_page page i.page) is).1 all.0.page
    choose false is here later = later here

covered : (a b : Bool) → (b ≡ true → a ≡ true) → (a && b) ≡ b
covered true b there = refl
covered false true there = there refl
covered false false there = refl

pub gained_is : (old new : Kept) (pages : List PageId) → IsWellKept new → HasGoodItems (store_of new)
    → IsStrictlyIncreasing (numbers pages)
    → ((page : PageId) → holds page pages ≡ has_new_item old.ids.item new.items page)
    → pages ≡ gained (store_of old) (store_of new)
gained_is old new pages well good ascending are =
    let store : Store = store_of new in
    let test : PageId → Bool = has_new_item old.ids.item new.items in
    let all : AllByRecursion (IsGoodItem store) new.items =
    recursion_from_All (IsGoodItem store) new.items good.items in
    same_pages pages (gained (store_of old) store) (up (numbers pages) ascending)
    (up_filtered (λ (p : Page). test p.id) new.pages (ascend new well))
    (λ page.
    are page
    ∙ sym (covered (has_page_at store page) (test page) (page_there store old.ids.item new.items page all))
    ∙ sym (filtered test store.pages page)
    ∙ sym (list_any-map (λ (id : PageId). id.0 == page.0) (λ (p : Page). p.id)
    (filter (λ (p : Page). test p.id) store.pages)))

-- ---- before the import

not_from : (first n : ℕ) → n < first → nat_le first n ≡ false
not_from first n less = grind (arith, nat_tests)

-- no item is new
pub none_gained : (kept : Kept) (grafting : Grafting) → IsWellKept kept → grafting.gained.keys ≡ []
    → HasGained kept.ids.item kept.items grafting
none_gained kept grafting well none page =
    ap (holds page) none
    ∙ sym (list_any_none (λ (i : Item). nat_le kept.ids.item i.id.0 && is_page page i.page) kept.items
    (All-weaker (λ (i : Item). (0 < i.id.0) × (i.id.0 < kept.ids.item))
    (λ (i : Item). (nat_le kept.ids.item i.id.0 && is_page page i.page) ≡ false)
    (λ i given. ap (λ (b : Bool). b && is_page page i.page) (not_from kept.ids.item i.id.0 given.1)) kept.items
    (All-from_map (λ n. (0 < n) × (n < kept.ids.item)) (λ (i : Item). i.id.0) kept.items well.item_ids.given)))
