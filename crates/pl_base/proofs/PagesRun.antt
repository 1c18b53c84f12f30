-- The pages of rows, as their cursor runs through them: by ascending id.
use Rattle.std.proofs.Common.{◌≡◌, ◌<◌, ◌≤◌, ◌++◌, ◌||◌, ◌==◌, ◌∙◌, ℕ, Bool, true}
use Rattle.std.proofs.Common.{false, List, [], ◌∷◌, Option, Some, None, ap, append_assoc, arith, eq-eqb}
use Rattle.std.proofs.Common.{eqb, find, ltb, map, nat_lt, refl, suc, subst, sym}
use Rattle.std.specs.List.{AllByRecursion, AllPairs, list_any}
use Rattle.std.specs.Option.{option_map}
use Rattle.std.proofs.lemmas.Bool.{lt-ltb}
use Rattle.std.proofs.lemmas.Bool.Decides.{nat_tests}
use Rattle.std.proofs.lemmas.List.Elements.{recursion_from_All}
use Rattle.std.proofs.lemmas.List.Kept.{AllPairs-from_increasing}
use Rattle.pl_base.specs.declared.id.PageId.{PageId}
use Rattle.pl_base.specs.Rows.{IsWellKept, Kept, KeptPage, has_page, page_at, page_behind}
use Rattle.pl_base.proofs.ListLaws.{all_push, from_map, weaker}
use Rattle.pl_base.proofs.LookUps.{part}
use Rattle.pl_base.proofs.Walk.{Names, Runs, StandsAt}

-- ---- the ids ascend

abbrev pub Ascend : List KeptPage → Type 0
Ascend [] = Unit {0}
Ascend (p ∷ ps) = AllByRecursion (λ (q : KeptPage). p.page.id.0 < q.page.id.0) ps × Ascend ps

from_pairs : (ps : List KeptPage) → AllPairs (λ m n. m < n) (map (λ (p : KeptPage). p.page.id.0) ps) → Ascend ps
from_pairs [] pairs = tt
from_pairs (p ∷ ps) pairs = (
  from_map (λ n. p.page.id.0 < n) (λ (q : KeptPage). q.page.id.0) ps
      (recursion_from_All (λ n. p.page.id.0 < n) (map (λ (q : KeptPage). q.page.id.0) ps)
      (λ k d within. pairs 0 (suc k) d (omega arith) (omega arith))),
  from_pairs ps (λ i j d before within. pairs (suc i) (suc j) d (omega arith) (omega arith)),
)

pub ascend : (kept : Kept) → IsWellKept kept → Ascend kept.pages
ascend kept h =
    from_pairs kept.pages (AllPairs-from_increasing (map (λ (p : KeptPage). p.page.id.0) kept.pages)
    h.page_ids.ascending)

pub given : (kept : Kept) → IsWellKept kept
    → AllByRecursion (λ (p : KeptPage). (0 < p.page.id.0) × (p.page.id.0 < kept.ids.page)) kept.pages
given kept h =
    from_map (λ n. (0 < n) × (n < kept.ids.page)) (λ (p : KeptPage). p.page.id.0) kept.pages
    (recursion_from_All (λ n. (0 < n) × (n < kept.ids.page)) (map (λ (p : KeptPage). p.page.id.0) kept.pages)
    h.page_ids.given)

pub below : (front : List KeptPage) (p : KeptPage) (rest : List KeptPage) → Ascend (front ++ p ∷ rest)
    → AllByRecursion (λ (q : KeptPage). q.page.id.0 < p.page.id.0) front
below [] p rest ordered = tt
below (q ∷ front) p rest ordered =
    (part (λ (x : KeptPage). q.page.id.0 < x.page.id.0) front p rest ordered.0, below front p rest ordered.1)

pub above : (front : List KeptPage) (p : KeptPage) (rest : List KeptPage) → Ascend (front ++ p ∷ rest)
    → AllByRecursion (λ (q : KeptPage). p.page.id.0 < q.page.id.0) rest
above [] p rest ordered = ordered.0
above (q ∷ front) p rest ordered = above front p rest ordered.1

-- ---- look-ups

abbrev pub first_page : List KeptPage → Option PageId
first_page [] = None
first_page (p ∷ ps) = Some p.page.id

not_less : (m n : ℕ) → n ≤ m → ltb m n ≡ false
not_less m n le = grind (arith, nat_tests)

pub not_equal : (m n : ℕ) → m < n → eqb m n ≡ false
not_equal m n less = grind (arith, nat_tests)

pub behind : (n : ℕ) (front rest : List KeptPage) → AllByRecursion (λ (p : KeptPage). p.page.id.0 ≤ n) front
    → AllByRecursion (λ (p : KeptPage). n < p.page.id.0) rest
    → option_map (λ (p : KeptPage). p.page.id) (find (λ (p : KeptPage). nat_lt n p.page.id.0) (front ++ rest))
    ≡ first_page rest
behind n [] [] low high = refl
behind n [] (p ∷ ps) low high = rw (lt-ltb n p.page.id.0 high.0) refl
behind n (q ∷ front) rest low high = rw (not_less n q.page.id.0 low.0) (behind n front rest low.1 high)

at : (front : List KeptPage) (p : KeptPage) (rest : List KeptPage)
    → AllByRecursion (λ (q : KeptPage). q.page.id.0 < p.page.id.0) front
    → find (λ (q : KeptPage). q.page.id.0 == p.page.id.0) (front ++ p ∷ rest) ≡ Some p
at [] p rest low = rw (eq-eqb p.page.id.0 p.page.id.0 refl) refl
at (q ∷ front) p rest low = rw (not_equal q.page.id.0 p.page.id.0 low.0) (at front p rest low.1)

-- a page is found by its id
pub found_at : (kept : Kept) (id : PageId) (front : List KeptPage) (p : KeptPage) (rest : List KeptPage)
    → IsWellKept kept → kept.pages ≡ front ++ p ∷ rest → p.page.id ≡ id → page_at kept id ≡ Some p
found_at kept id front p rest h whole is =
    let ordered : Ascend (front ++ p ∷ rest) = subst Ascend whole (ascend kept h) in
    rw (whole, ← is) (at front p rest (below front p rest ordered))

pub there : {X : Type 0} (t : X → Bool) (front : List X) (x : X) (rest : List X) → t x ≡ true
    → list_any t (front ++ x ∷ rest) ≡ true
there t [] x rest passes = rw passes refl
there t (y ∷ front) x rest passes = rw (there t front x rest passes) (or_true (t y))
  where
    or_true : (b : Bool) → (b || true) ≡ true
    or_true true = refl
    or_true false = refl

-- ---- the cursor

abbrev pub page_names : Names KeptPage PageId
page_names =
    record {
      name = λ (p : KeptPage). p.page.id;
      first = first_page;
      of_none = refl;
      of_some = λ p pages. refl;
    }

pub first_behind : (kept : Kept) → IsWellKept kept → page_behind kept None ≡ first_page kept.pages
first_behind kept h =
    behind 0 [] kept.pages tt
    (weaker (λ (p : KeptPage). (0 < p.page.id.0) × (p.page.id.0 < kept.ids.page))
    (λ (p : KeptPage). 0 < p.page.id.0) kept.pages (λ p both. both.0) (given kept h))

-- behind a page stands the next one
pub next_behind : (kept : Kept) (id : PageId) (front : List KeptPage) (p : KeptPage) (rest : List KeptPage)
    → IsWellKept kept → kept.pages ≡ front ++ p ∷ rest → p.page.id ≡ id
    → page_behind kept (Some id) ≡ first_page rest
next_behind kept id front p rest h stands is =
    let ordered : Ascend (front ++ p ∷ rest) = subst Ascend stands (ascend kept h) in
    let whole : kept.pages ≡ (front ++ p ∷ []) ++ rest = stands ∙ sym (append_assoc front (p ∷ []) rest) in
    let number : p.page.id.0 ≡ id.0 = ap (λ (i : PageId). i.0) is in
    let low : AllByRecursion (λ (q : KeptPage). q.page.id.0 ≤ id.0) (front ++ p ∷ []) =
    all_push (λ (q : KeptPage). q.page.id.0 ≤ id.0) front p
    (weaker (λ (q : KeptPage). q.page.id.0 < p.page.id.0) (λ (q : KeptPage). q.page.id.0 ≤ id.0) front
    (λ q less. omega arith) (below front p rest ordered))
    (omega arith) in
    let high : AllByRecursion (λ (q : KeptPage). id.0 < q.page.id.0) rest =
    weaker (λ (q : KeptPage). p.page.id.0 < q.page.id.0) (λ (q : KeptPage). id.0 < q.page.id.0) rest
    (λ q more. omega arith) (above front p rest ordered) in
    rw whole (behind id.0 (front ++ p ∷ []) rest low high)

-- the page behind one
abbrev pub following : Kept → PageId → Option PageId
following kept id = page_behind kept (Some id)

pub pages_run : (kept : Kept) → IsWellKept kept → Runs page_names (following kept) kept.pages
pages_run kept h front p rest whole = next_behind kept p.page.id front p rest h whole refl

module _ (kept : Kept) (P : List KeptPage → Type 0) (id : PageId)
    (w : StandsAt page_names kept.pages P id) where
  -- the page that a walk stands at is found by its id
  pub page_here : IsWellKept kept → page_at kept id ≡ Some w.element
  page_here h = found_at kept id w.front w.element w.rest h w.whole w.is

  pub has_page_here : has_page kept id ≡ true
  has_page_here =
      rw w.whole (there (λ (p : KeptPage). p.page.id.0 == id.0) w.front w.element w.rest
      (eq-eqb w.element.page.id.0 id.0 (ap (λ (i : PageId). i.0) w.is)))
