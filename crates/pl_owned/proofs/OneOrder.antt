-- Slots by ascending numbers stand in one order: two such lists of the same slots are the same.
use Rattle.std.proofs.Common.{◌≡◌, ◌∙◌, ◌<◌, ◌≤◌, ◌∷◌, [], ℕ, List, ap, arith, inl, inr, refl, suc, sym}
use Rattle.std.proofs.Common.{Bool, Decides, eq-eqb, eqb, eqb-true, false, subst, true}
use Rattle.std.specs.Cmp.Lexicographic.{pointwise}
use Rattle.std.specs.List.{AllByRecursion}
use Rattle.std.specs.List.Sorted.{IsNonDecreasingBy, IsPermutation}
use Rattle.std.proofs.lemmas.Bool.{cases_lt, true≢false}
use Rattle.std.proofs.lemmas.List.Elements.{recursion_from_All}
use Rattle.std.proofs.lemmas.List.Sorted.{IsPermutation-refl, IsPermutation-sym, IsPermutation-trans}
use Rattle.std.proofs.lemmas.List.Sorted.{sum_by-IsPermutation}
use Rattle.std.proofs.lemmas.Slice.Eq.{slice_eq-Decides}
use Rattle.pl_base.specs.declared.id.Slot.{Slot}
use Rattle.pl_base.proofs.KeyCounts.{count, count-cons, tick, tick_other, tick_same}
use Rattle.pl_base.proofs.ListLaws.{weaker}
use Rattle.pl_rail.specs.declared.owner.Owner.{Owner}
use Rattle.pl_rail.specs.Rails.{Lists}
use Rattle.pl_rail.proofs.ListLaws.{one_list}
use Rattle.pl_rail.proofs.SideLaws.{numbered}
use Rattle.pl_sheets.specs.Sheets.{Pages}
use Rattle.pl_slot.specs.declared.links.Rail.{Rail}

abbrev number : Slot → ℕ
number s = s.0

-- no slot has a greater number than those behind it
abbrev InOrder : List Slot → Type 0
InOrder [] = Unit {0}
InOrder (x ∷ xs) = AllByRecursion (λ (y : Slot). x.0 ≤ y.0) xs × InOrder xs

in_order : (xs : List Slot) → IsNonDecreasingBy number xs → InOrder xs
in_order [] up = tt
in_order (x ∷ xs) up = (
  recursion_from_All (λ (y : Slot). x.0 ≤ y.0) xs (λ k d within. up 0 (suc k) d (omega arith) (omega arith)),
  in_order xs (λ i j d before within. up (suc i) (suc j) d (omega arith) (omega arith)),
)

-- a number below all of them is that of none
none_below : (k : ℕ) (xs : List Slot) → AllByRecursion (λ (y : Slot). k < y.0) xs → count number k xs ≡ 0
none_below k [] above = refl
none_below k (x ∷ xs) above =
    let other : tick (eqb x.0 k) ≡ 0 = tick_other x.0 k (λ same. apart x.0 same above.0) in
    omega (arith, count-cons number k x xs, none_below k xs above.1)
  where
    apart : (n : ℕ) → n ≡ k → k < n → ⊥
    apart n same less = omega arith

above_all : (k : ℕ) (x : Slot) (xs : List Slot) → k < x.0 → AllByRecursion (λ (y : Slot). x.0 ≤ y.0) xs
    → AllByRecursion (λ (y : Slot). k < y.0) xs
above_all k x xs less up =
    weaker (λ (y : Slot). x.0 ≤ y.0) (λ (y : Slot). k < y.0) xs (λ y within. further y.0 within) up
  where
    further : (n : ℕ) → x.0 ≤ n → k < n
    further n within = omega arith

counted_first : (x : Slot) (xs : List Slot) → 1 ≤ count number x.0 (x ∷ xs)
counted_first x xs = omega (arith, count-cons number x.0 x xs, tick_same x.0 x.0 refl)

-- the first one of a list is no lower than that of another with the same slots
no_lower : (x y : Slot) (xs ys : List Slot) → InOrder (y ∷ ys)
    → count number x.0 (x ∷ xs) ≡ count number x.0 (y ∷ ys) → y.0 ≤ x.0
no_lower x y xs ys up same = elim (cases_lt x.0 y.0) [
  | inl less ↦
      let none : count number x.0 (y ∷ ys) ≡ 0 =
      none_below x.0 (y ∷ ys) (less, above_all x.0 y ys less up.0) in
      absurd (omega (arith, none, same, counted_first x xs))
  | inr within ↦ within
]

same_counts : (xs ys : List Slot) → InOrder xs → InOrder ys
    → ((k : ℕ) → count number k xs ≡ count number k ys) → xs ≡ ys
same_counts [] [] up_x up_y same = refl
same_counts [] (y ∷ ys) up_x up_y same = absurd (omega (arith, same y.0, counted_first y ys, none_below y.0 [] tt))
same_counts (x ∷ xs) [] up_x up_y same = absurd (omega (arith, same x.0, counted_first x xs, none_below x.0 [] tt))
same_counts (x ∷ xs) (y ∷ ys) up_x up_y same =
    let number_is : x.0 ≡ y.0 =
    both x.0 y.0 (no_lower y x ys xs up_x (sym (same y.0))) (no_lower x y xs ys up_y (same x.0)) in
    let first : x ≡ y = ap numbered number_is in
    let rest : xs ≡ ys = same_counts xs ys up_x.1 up_y.1 (λ k. less k (ap (λ n. tick (eqb n k)) number_is)) in
    ap (λ z. z ∷ xs) first ∙ ap (λ zs. y ∷ zs) rest
  where
    both : (m n : ℕ) → m ≤ n → n ≤ m → m ≡ n
    both m n one other = omega arith

    less : (k : ℕ) → tick (eqb x.0 k) ≡ tick (eqb y.0 k) → count number k xs ≡ count number k ys
    less k alike = omega (arith, alike, same k, count-cons number k x xs, count-cons number k y ys)

one_order : (xs ys : List Slot) → IsNonDecreasingBy (λ (s : Slot). s.0) xs
    → IsNonDecreasingBy (λ (s : Slot). s.0) ys → IsPermutation xs ys → xs ≡ ys
one_order xs ys up_x up_y moves =
    same_counts xs ys (in_order xs up_x) (in_order ys up_y)
    (λ k. sym (sum_by-IsPermutation (λ (s : Slot). tick (eqb s.0 k)) xs ys moves))

-- ---- lists that are compared

same_slots : (a b : Slot) → Decides (eqb a.0 b.0) (a ≡ b)
same_slots a b = ((λ is. ap numbered (eqb-true a.0 b.0 is)), (λ same. eq-eqb a.0 b.0 (ap number same)))

-- the list of an owner, compared with the one that is wanted
module _ (rail : Rail) (owner : Owner) (slots wanted : List Slot) (pages : Pages) (same : Bool)
    (told : same ≡ pointwise (λ (a b : Slot). eqb a.0 b.0) slots wanted) (lists : Lists rail owner slots pages) where
  pub wanted_listed : same ≡ true → Lists rail owner wanted pages
  wanted_listed is =
      subst (λ l. Lists rail owner l pages) ((slice_eq-Decides same_slots slots wanted same told).0 is) lists

  pub not_listed : same ≡ false → Lists rail owner wanted pages → ⊥
  not_listed is others =
      true≢false (sym ((slice_eq-Decides same_slots slots wanted same told).1
      (one_list rail owner slots wanted pages lists others)) ∙ is)

-- two lists, compared as they are
pub all_same : (slots others : List Slot) (same : Bool) → same ≡ pointwise (λ (a b : Slot). eqb a.0 b.0) slots others
    → same ≡ true → IsPermutation slots others
all_same slots others same told is =
    subst (IsPermutation slots) ((slice_eq-Decides same_slots slots others same told).0 is) (IsPermutation-refl slots)

-- two lists, compared as they are sorted
module _ (slots others xs ys : List Slot) (same : Bool)
    (told : same ≡ pointwise (λ (a b : Slot). eqb a.0 b.0) xs ys) (to_xs : IsPermutation slots xs)
    (to_ys : IsPermutation others ys) where
  pub moved : same ≡ true → IsPermutation slots others
  moved is =
      IsPermutation-trans slots ys others
      (subst (IsPermutation slots) ((slice_eq-Decides same_slots xs ys same told).0 is) to_xs)
      (IsPermutation-sym others ys to_ys)

  pub not_moved : IsNonDecreasingBy number xs → IsNonDecreasingBy number ys → same ≡ false
      → IsPermutation slots others → ⊥
  not_moved up_x up_y is moves =
      let all : IsPermutation xs ys =
      IsPermutation-trans xs slots ys (IsPermutation-sym slots xs to_xs)
      (IsPermutation-trans slots others ys moves to_ys) in
      true≢false (sym ((slice_eq-Decides same_slots xs ys same told).1 (one_order xs ys up_x up_y all)) ∙ is)
