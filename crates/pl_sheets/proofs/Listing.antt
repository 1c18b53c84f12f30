-- The pages that have changed, by ascending number.
use Rattle.std.proofs.Common.{◌≡◌, ◌∙◌, ◌+◌, ◌-◌, ◌<◌, ◌≤◌, ◌++◌, ◌∷◌, [], ap, append-nil, arith, Bool, cond, false}
use Rattle.std.proofs.Common.{filter, List, ltb, map, map-id, refl, suc, sym, true, zero, ℕ}
use Rattle.std.specs.List.{range_with_len}
use Rattle.std.proofs.lemmas.Bool.{and_from, lt-ltb}
use Rattle.std.proofs.lemmas.List.{map_push}
use Rattle.std.proofs.lemmas.List.FromFn.{filter_of_map_range_with_len_more}
use Rattle.pl_base.specs.Touched.{ascends_above, Change, page_numbers, PageImage, with_one_more}
use Rattle.pl_sheets.specs.Marks.{IsFirst}
use Rattle.pl_sheets.specs.Sheets.{change_of, changed_below, has_changed, image_of, page_count, Pages}

-- ---- the changed pages below a number

pub below_more : (n : ℕ) (pages : Pages)
    → changed_below (n + 1) pages ≡ changed_below n pages ++ cond (has_changed n pages) (n ∷ []) []
below_more n pages =
    let p : ℕ → Bool = λ k. has_changed k pages in
    ap (filter p) (sym (map-id (range_with_len 0 (n + 1))))
    ∙ filter_of_map_range_with_len_more p (λ k. k) 0 n n (omega arith)
    ∙ ap (λ ns. filter p ns ++ cond (p n) (n ∷ []) []) (map-id (range_with_len 0 n))

none_between : (from gap : ℕ) (pages : Pages)
    → ((k : ℕ) → from ≤ k → k < from + gap → has_changed k pages ≡ false)
    → changed_below (from + gap) pages ≡ changed_below from pages
none_between from zero pages none =
    let same : from + 0 ≡ from = omega arith in
    ap (λ n. changed_below n pages) same
none_between from (suc gap) pages none =
    let next : from + suc gap ≡ from + gap + 1 = omega arith in
    ap (λ n. changed_below n pages) next ∙ below_more (from + gap) pages
    ∙ ap (λ b. changed_below (from + gap) pages ++ cond b ((from + gap) ∷ []) [])
    (none (from + gap) (omega arith) (omega arith))
    ∙ append-nil (changed_below (from + gap) pages)
    ∙ none_between from gap pages (λ k above below. none k above (omega arith))

none_up_to : (from n : ℕ) (pages : Pages) → from ≤ n
    → ((k : ℕ) → from ≤ k → k < n → has_changed k pages ≡ false)
    → changed_below n pages ≡ changed_below from pages
none_up_to from n pages above none =
    let gap : from + (n - from) ≡ n = omega arith in
    ap (λ m. changed_below m pages) (sym gap)
    ∙ none_between from (n - from) pages (λ k low high. none k low (omega arith))

first_more : (from n : ℕ) (pages : Pages) → IsFirst (λ k. has_changed k pages) from n
    → changed_below (n + 1) pages ≡ changed_below from pages ++ n ∷ []
first_more from n pages first =
    below_more n pages
    ∙ ap (λ b. changed_below n pages ++ cond b (n ∷ []) []) first.found
    ∙ ap (λ ns. ns ++ n ∷ []) (none_up_to from n pages first.from_on first.none_before)

-- ---- they ascend

filter_ascends : (p : ℕ → Bool) (last first n : ℕ) → last < first
    → ascends_above last (filter p (range_with_len first n)) ≡ true
filter_ascends p last first zero below = refl
filter_ascends p last first (suc n) below =
    elim (p first) as (λ b. ascends_above last
    (cond b (first ∷ filter p (range_with_len (first + 1) n)) (filter p (range_with_len (first + 1) n))) ≡ true) [
      | true ↦ and_from (ltb last first) (ascends_above first (filter p (range_with_len (first + 1) n)))
          (lt-ltb last first below) (filter_ascends p first (first + 1) n (omega arith))
      | false ↦ filter_ascends p last (first + 1) n (omega arith)
    ]

ascend_from : (n : ℕ) (pages : Pages) → has_changed 0 pages ≡ false
    → ascends_above 0 (changed_below (suc n) pages) ≡ true
ascend_from n pages gate =
    let rest : List ℕ = filter (λ k. has_changed k pages) (range_with_len (0 + 1) n) in
    ap (λ b. ascends_above 0 (cond b (0 ∷ rest) rest)) gate
    ∙ filter_ascends (λ k. has_changed k pages) 0 (0 + 1) n (omega arith)

pub numbers_same : (pages : Pages) (ns : List ℕ) → page_numbers (map (image_of pages) ns) ≡ ns
numbers_same pages [] = refl
numbers_same pages (n ∷ ns) = ap (λ ms. n ∷ ms) (numbers_same pages ns)

-- ---- the list so far

-- the change with the pages below a number
abbrev pub listed_below : ℕ → Pages → Change
listed_below count pages =
    record {
      before = pages.before;
      after = page_count pages;
      pages = map (image_of pages) (changed_below count pages);
    }

-- the next changed page is above those so far
pub next_above : (from n : ℕ) (pages : Pages) (change : Change) → has_changed 0 pages ≡ false
    → change ≡ listed_below from pages → IsFirst (λ k. has_changed k pages) from n
    → ascends_above 0 (page_numbers change.pages ++ n ∷ []) ≡ true
next_above from n pages change gate is first =
    let next : n + 1 ≡ suc n = omega arith in
    ap (λ (c : Change). ascends_above 0 (page_numbers c.pages ++ n ∷ [])) is
    ∙ ap (λ ns. ascends_above 0 (ns ++ n ∷ [])) (numbers_same pages (changed_below from pages))
    ∙ ap (ascends_above 0) (sym (first_more from n pages first))
    ∙ ap (λ m. ascends_above 0 (changed_below m pages)) next
    ∙ ascend_from n pages gate

pub next_listed : (from n : ℕ) (image : List ℕ) (pages : Pages) (change new : Change)
    → change ≡ listed_below from pages → IsFirst (λ k. has_changed k pages) from n
    → image ≡ (image_of pages n).image → new ≡ with_one_more n image change
    → new ≡ listed_below (n + 1) pages
next_listed from n image pages change new is first image_is pushed =
    pushed
    ∙ ap (λ (c : Change). with_one_more n image c) is
    ∙ ap (λ bytes. with_one_more n bytes (listed_below from pages)) image_is
    ∙ ap (λ (l : List PageImage). record { before = pages.before; after = page_count pages; pages = l })
    (sym (map_push (image_of pages) (changed_below from pages) n)
    ∙ ap (map (image_of pages)) (sym (first_more from n pages first)))

-- all pages are listed where no further one has changed
pub all_listed : (from : ℕ) (pages : Pages) (change : Change) → change ≡ listed_below from pages
    → from ≤ page_count pages → ((k : ℕ) → from ≤ k → has_changed k pages ≡ false) → change ≡ change_of pages
all_listed from pages change is within none =
    is ∙ ap (λ (ns : List ℕ). record {
      before = pages.before;
      after = page_count pages;
      pages = map (image_of pages) ns;
    })
    (sym (none_up_to from (page_count pages) pages within (λ k above _. none k above)))
