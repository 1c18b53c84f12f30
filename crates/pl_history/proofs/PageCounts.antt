-- How many visits the pages have together.
use Rattle.std.proofs.Common.{◌≡◌, ◌≢◌, ◌∙◌, ◌+◌, ◌≤◌, ◌==◌, ◌||◌, ℕ, Bool, true, false}
use Rattle.std.proofs.Common.{List, [], ◌∷◌}
use Rattle.std.proofs.Common.{ap, arith, count_by, get_or, if◌then◌else◌, length, refl, sym}
use Rattle.std.specs.List.{AllByRecursion, list_any, sum_by}
use Rattle.std.proofs.lemmas.Bool.{eqb-false, eqb-true, false≢true, ne_eqb}
use Rattle.std.proofs.lemmas.List.Sums.{sum_by-cons}
use Rattle.pl_base.specs.Marks.{is_counted, visit_count}
use Rattle.pl_base.specs.Rows.{IsWellKept, Kept, KeptPage, store_of}
use Rattle.pl_base.specs.Store.{Visit}
use Rattle.pl_base.proofs.ListLaws.{count_by-and-le, sum_by-agree, sum_by-le, weaker}
use Rattle.pl_base.proofs.LookUps.{Apart}
use Rattle.pl_base.proofs.PageLaws.{pages_apart}

-- ---- sums

sum_zero : {X : Type 0} (xs : List X) → sum_by (λ (x : X). 0) xs ≡ 0
sum_zero [] = refl
sum_zero {X} (x ∷ xs) = sum_by-cons (λ (y : X). 0) x xs ∙ omega (arith, sum_zero xs)

sum_ones : {X : Type 0} (xs : List X) → sum_by (λ (x : X). 1) xs ≡ length xs
sum_ones [] = refl
sum_ones {X} (x ∷ xs) = sum_by-cons (λ (y : X). 1) x xs ∙ omega (arith, sum_ones xs)

sum_plus : {X : Type 0} (f g : X → ℕ) (xs : List X) → sum_by (λ x. f x + g x) xs ≡ sum_by f xs + sum_by g xs
sum_plus f g [] = refl
sum_plus f g (x ∷ xs) =
    omega (
      arith,
      sum_by-cons (λ y. f y + g y) x xs,
      sum_by-cons f x xs,
      sum_by-cons g x xs,
      sum_plus f g xs,
    )

-- pairs are counted row by row or column by column
pub counts_swap : {X Y : Type 0} (r : X → Y → Bool) (xs : List X) (ys : List Y)
    → sum_by (λ x. count_by (r x) ys) xs ≡ sum_by (λ y. count_by (λ x. r x y) xs) ys
counts_swap r [] ys = sym (sum_zero ys)
counts_swap {X} {Y} r (x ∷ xs) ys =
    sum_by-cons (λ (z : X). count_by (r z) ys) x xs
    ∙ ap (λ (n : ℕ). count_by (r x) ys + n) (counts_swap r xs ys)
    ∙ sym (sum_plus (λ (y : Y). if r x y then 1 else 0) (λ (y : Y). count_by (λ (z : X). r z y) xs) ys)
    ∙ sum_by-agree (λ (y : Y). (if r x y then 1 else 0) + count_by (λ (z : X). r z y) xs)
    (λ (y : Y). count_by (λ (z : X). r z y) (x ∷ xs)) ys
    (λ k d within. sym (sum_by-cons (λ (z : X). if r z (get_or ys k d) then 1 else 0) x xs))

-- ---- a number that stands once

count_none : {X : Type 0} (key : X → ℕ) (n : ℕ) (xs : List X) → AllByRecursion (λ x. key x ≢ n) xs
    → count_by (λ x. n == key x) xs ≡ 0
count_none key n [] apart = refl
count_none {X} key n (x ∷ xs) apart =
    sum_by-cons (λ (y : X). if n == key y then 1 else 0) x xs
    ∙ ap (λ (b : Bool). (if b then 1 else 0) + count_by (λ (y : X). n == key y) xs)
    (ne_eqb n (key x) (λ same. apart.0 (sym same)))
    ∙ omega (arith, count_none key n xs apart.1)

pub count_once : {X : Type 0} (key : X → ℕ) (n : ℕ) (xs : List X) → Apart key xs
    → list_any (λ x. key x == n) xs ≡ true → count_by (λ x. n == key x) xs ≡ 1
count_once key n [] apart there = absurd (false≢true there)
count_once {X} key n (x ∷ xs) apart there =
    sum_by-cons (λ (y : X). if n == key y then 1 else 0) x xs
    ∙ choose (n == key x) refl there (count_once key n xs apart.1)
  where
    choose : (b : Bool) → (n == key x) ≡ b → ((key x == n) || list_any (λ (y : X). key y == n) xs) ≡ true
        → (list_any (λ (y : X). key y == n) xs ≡ true → count_by (λ (y : X). n == key y) xs ≡ 1)
        → (if b then 1 else 0) + count_by (λ (y : X). n == key y) xs ≡ 1
    choose true is here rest =
        omega (
          arith,
          count_none key n xs
              (weaker (λ y. key y ≢ key x) (λ y. key y ≢ n) xs
              (λ y other same. other (same ∙ eqb-true n (key x) is)) apart.0),
        )
    choose false is here rest =
        omega (
          arith,
          rest (sym (ap (λ (b : Bool). b || list_any (λ (y : X). key y == n) xs)
              (ne_eqb (key x) n (λ same. eqb-false n (key x) is (sym same)))) ∙ here),
        )

-- ---- the visits of the pages

-- each visit is one of one page
counted_once : (kept : Kept) → IsWellKept kept
    → sum_by (λ (p : KeptPage). count_by (λ (v : Visit). v.page.0 == p.page.id.0) kept.visits) kept.pages
    ≡ length kept.visits
counted_once kept h =
    counts_swap (λ (p : KeptPage) (v : Visit). v.page.0 == p.page.id.0) kept.pages kept.visits
    ∙ sum_by-agree (λ (v : Visit). count_by (λ (p : KeptPage). v.page.0 == p.page.id.0) kept.pages) (λ (v : Visit). 1)
    kept.visits
    (λ k d within.
    count_once (λ (p : KeptPage). p.page.id.0) (get_or kept.visits k d).page.0 kept.pages (pages_apart kept h)
    (h.visits k d within).1)
    ∙ sum_ones kept.visits

pub counts_of_pages : (kept : Kept) → IsWellKept kept
    → sum_by (λ (p : KeptPage). visit_count (store_of kept) p.page.id) kept.pages ≤ length kept.visits
counts_of_pages kept h =
    omega (
      arith,
      sum_by-le (λ (p : KeptPage). visit_count (store_of kept) p.page.id)
          (λ (p : KeptPage). count_by (λ (v : Visit). v.page.0 == p.page.id.0) kept.visits) kept.pages
          (λ p. count_by-and-le (λ (v : Visit). v.page.0 == p.page.id.0) (λ (v : Visit). is_counted v.transition)
          kept.visits),
      counted_once kept h,
    )
