-- Pages that are still to be settled, in another order.
use Rattle.std.proofs.Common.{◌≡◌, ◌≢◌, ◌∙◌, ◌++◌, ◌||◌, All, Bool, true, false, List, [], ◌∷◌, ap, arith, get_or}
use Rattle.std.proofs.Common.{◌==◌, refl, suc, sym}
use Rattle.std.specs.List.{AllByRecursion, AllPairs, list_any}
use Rattle.std.proofs.lemmas.List.Elements.{All-cons, All-from_recursion, recursion_from_All}
use Rattle.std.proofs.lemmas.List.Kept.{AllPairs-cons}
use Rattle.pl_base.specs.declared.id.PageId.{PageId}
use Rattle.pl_base.specs.Rows.{Kept, has_page}
use Rattle.pl_base.proofs.ListLaws.{all_append}
use Rattle.pl_base.proofs.LookUps.{front, part, rest_of}
use Rattle.pl_history.specs.Settled.{AreSettledBut}

module _ {X : Type 0} where
  any_moved : (p : X → Bool) (before : List X) (x : X) (behind : List X)
      → list_any p (before ++ x ∷ behind) ≡ (p x || list_any p (before ++ behind))
  any_moved p [] x behind = refl
  any_moved p (y ∷ before) x behind =
      ap (λ (b : Bool). p y || b) (any_moved p before x behind) ∙ swap (p y) (p x) (list_any p (before ++ behind))
    where
      swap : (a b c : Bool) → (a || (b || c)) ≡ (b || (a || c))
      swap true true c = refl
      swap true false c = refl
      swap false b c = refl

  all_moved : (P : X → Type 0) (before : List X) (x : X) (behind : List X) → AllByRecursion P (before ++ x ∷ behind)
      → P x × AllByRecursion P (before ++ behind)
  all_moved P before x behind all = (
    part P before x behind all,
    all_append P before behind (front P before (x ∷ behind) all) (rest_of P before (x ∷ behind) all).1,
  )

  head_pairs : (R : X → X → Type 0) (x : X) (xs : List X) → AllPairs R (x ∷ xs) → All (R x) xs
  head_pairs R x xs pairs k d within = pairs 0 (suc k) d (omega arith) (omega arith)

  rest_pairs : (R : X → X → Type 0) (x : X) (xs : List X) → AllPairs R (x ∷ xs) → AllPairs R xs
  rest_pairs R x xs pairs i j d before within = pairs (suc i) (suc j) d (omega arith) (omega arith)

  -- a relation that holds both ways
  pairs_moved : (R : X → X → Type 0) → ((x y : X) → R x y → R y x) → (before : List X) (x : X) (behind : List X)
      → AllPairs R (before ++ x ∷ behind) → All (R x) (before ++ behind) × AllPairs R (before ++ behind)
  pairs_moved R back [] x behind pairs = (head_pairs R x behind pairs, rest_pairs R x behind pairs)
  pairs_moved R back (y ∷ before) x behind pairs =
      let rest : All (R x) (before ++ behind) × AllPairs R (before ++ behind) =
      pairs_moved R back before x behind (rest_pairs R y (before ++ x ∷ behind) pairs) in
      let of_y : R y x × AllByRecursion (R y) (before ++ behind) =
      all_moved (R y) before x behind
      (recursion_from_All (R y) (before ++ x ∷ behind) (head_pairs R y (before ++ x ∷ behind) pairs)) in (
        All-cons (R x) y (before ++ behind) (back y x of_y.0) rest.0,
        AllPairs-cons R y (before ++ behind) (All-from_recursion (R y) (before ++ behind) of_y.1) rest.1,
      )

-- one of them is the first
pub in_front : (before : List PageId) (page : PageId) (behind : List PageId) (kept : Kept)
    → AreSettledBut (before ++ page ∷ behind) kept → AreSettledBut (page ∷ before ++ behind) kept
in_front before page behind kept s =
    let There : PageId → Type 0 = λ (id : PageId). has_page kept id ≡ true in
    let Apart : PageId → PageId → Type 0 = λ (a b : PageId). a.0 ≢ b.0 in
    let there : There page × AllByRecursion There (before ++ behind) =
    all_moved There before page behind (recursion_from_All There (before ++ page ∷ behind) s.there) in
    let apart : All (Apart page) (before ++ behind) × AllPairs Apart (before ++ behind) =
    pairs_moved Apart (λ a b differ same. differ (sym same)) before page behind s.apart in
    record {
      there = All-from_recursion There (page ∷ before ++ behind) there;
      apart = AllPairs-cons Apart page (before ++ behind) apart.0 apart.1;
      items = s.items;
      counts = s.counts;
      right =
          λ k d within other.
          s.right k d within
          (any_moved (λ (id : PageId). (get_or kept.pages k d).page.id.0 == id.0) before page behind ∙ other);
      by_row =
          λ k d within other.
          s.by_row k d within
          (any_moved (λ (id : PageId). (get_or kept.pages k d).page.id.0 == id.0) before page behind ∙ other);
      typed = s.typed;
      sums = s.sums;
    }
