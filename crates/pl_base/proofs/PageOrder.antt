-- Pages that were put in order, each once.
use Rattle.std.proofs.Common.{◌≡◌, ◌+◌, ◌<◌, ◌==◌, ℕ, Bool, true, false, List, [], ◌∷◌, ap, arith, eqb}
use Rattle.std.proofs.Common.{if◌then◌else◌, length, map, refl, subst, sym}
use Rattle.std.specs.List.{dedup, dedup_from}
use Rattle.std.specs.List.Sorted.{IsSortedBy, IsStrictlyIncreasing}
use Rattle.std.specs.Ordering.{is_lt, nat_cmp}
use Rattle.std.proofs.lemmas.List.{get_or-map, length-map}
use Rattle.std.proofs.lemmas.Map.Keys.{IsStrictlyIncreasing-dedup}
use Rattle.pl_base.specs.declared.id.PageId.{PageId}

-- two ids have the same number
abbrev pub alike : PageId → PageId → Bool
alike a b = a.0 == b.0

abbrev pub numbers : List PageId → List ℕ
numbers pages = map (λ (page : PageId). page.0) pages

numbers_from : (k : PageId) (pages : List PageId)
    → numbers (dedup_from alike k pages) ≡ dedup_from eqb k.0 (numbers pages)
numbers_from k [] = refl
numbers_from k (p ∷ pages) = choose (p.0 == k.0) (numbers_from k pages) (numbers_from p pages)
  where
    choose : (b : Bool) → numbers (dedup_from alike k pages) ≡ dedup_from eqb k.0 (numbers pages)
        → numbers (dedup_from alike p pages) ≡ dedup_from eqb p.0 (numbers pages)
        → numbers (if b then dedup_from alike k pages else k ∷ dedup_from alike p pages)
        ≡ (if b then dedup_from eqb k.0 (numbers pages) else k.0 ∷ dedup_from eqb p.0 (numbers pages))
    choose true same other = same
    choose false same other = ap (λ (ns : List ℕ). k.0 ∷ ns) other

numbers_once : (pages : List PageId) → numbers (dedup alike pages) ≡ dedup eqb (numbers pages)
numbers_once [] = refl
numbers_once (p ∷ pages) = numbers_from p pages

pub ascend_once : (pages : List PageId) → IsSortedBy (λ (a b : PageId). is_lt (nat_cmp a.0 b.0)) pages
    → IsStrictlyIncreasing (numbers (dedup alike pages))
ascend_once pages sorted =
    subst IsStrictlyIncreasing (sym (numbers_once pages))
    (IsStrictlyIncreasing-dedup (numbers pages) (λ k d from within.
    let last : k + 1 < length pages = rw (length-map pages (λ (page : PageId). page.0)) at within in
    rw (
      get_or-map (λ (page : PageId). page.0) pages (k + 1) (record { 0 = d }) d last,
      get_or-map (λ (page : PageId). page.0) pages k (record { 0 = d }) d (omega arith),
    )
    (sorted k (record { 0 = d }) from last)))
