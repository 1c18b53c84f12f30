-- Where a title is cut.
use Rattle.std.proofs.Common.{◌≡◌, ◌<◌, ◌≤◌, ◌-◌, ℕ, Bool, true, false, List, ap, arith, if◌then◌else◌, inl, inr}
use Rattle.std.proofs.Common.{◌∙◌, leb, take}
use Rattle.std.proofs.Common.{length, refl, slice_index, subst, suc, sym, zero}
use Rattle.std.proofs.lemmas.Bool.{cases_order}
use Rattle.std.proofs.lemmas.Bool.Decides.{nat_tests}
use Rattle.std.proofs.lemmas.List.{length-take}
use Rattle.std.specs.Fmt.{is_char_start}
use Rattle.std.specs.Fmt.Cut.{floor_char_boundary}
use Rattle.std.specs.Str.{IsCharBoundary}
use Rattle.pl_base.specs.Good.{longest_title}
use Rattle.pl_base.specs.Title.{cut_title}

pub starts : (b : ℕ) → is_char_start b ≡ true → 128 ≤ b → 192 ≤ b
starts b is high = grind (arith, nat_tests)

goes_on : (b : ℕ) → is_char_start b ≡ false → (128 ≤ b) × (b < 192)
goes_on b is = (grind (arith, nat_tests), grind (arith, nat_tests))

-- a boundary is no place within a character
apart : (text : List ℕ) (i n : ℕ) → n < length text → IsCharBoundary text n
    → is_char_start (slice_index text i) ≡ false → n ≡ i → ⊥
apart text i n within boundary inside same =
    let at : (128 ≤ slice_index text i) × (slice_index text i < 192) = goes_on (slice_index text i) inside in
    let high : 192 ≤ slice_index text n =
    boundary.1 within (subst (λ (m : ℕ). 128 ≤ slice_index text m) (sym same) at.0) in
    omega (arith, ap (slice_index text) same, at.1, high)

-- the greatest boundary that is not above a place
pub greatest : (text : List ℕ) (i n : ℕ) → n ≤ i → i < length text → IsCharBoundary text n
    → ((j : ℕ) → n < j → j ≤ i → ¬ (IsCharBoundary text j)) → floor_char_boundary text i ≡ n
unfolding floor_char_boundary
greatest text zero n least within boundary nearest = omega (arith, least)
greatest text (suc i) n least within boundary nearest =
    choose (is_char_start (slice_index text (suc i))) refl
    (λ less. greatest text i n less (omega arith) boundary (λ j above low. nearest j above (omega arith)))
  where
    choose : (b : Bool) → is_char_start (slice_index text (suc i)) ≡ b
        → (n ≤ i → floor_char_boundary text i ≡ n) → (if b then suc i else floor_char_boundary text i) ≡ n
    choose true is rest =
        elim (cases_order n (suc i)) [
          | inl equal ↦ sym equal
          | inr (inl below) ↦ absurd (nearest (suc i) below (omega arith)
              (omega arith, λ _ high. starts (slice_index text (suc i)) is high))
          | inr (inr above) ↦ absurd (omega arith)
        ]
    choose false is rest =
        let less : n ≤ i =
        elim (cases_order n (suc i)) [
          | inl equal ↦ absurd (apart text (suc i) n (omega (arith, equal)) boundary is equal)
          | inr (inl below) ↦ omega arith
          | inr (inr above) ↦ absurd (omega arith)
        ] in
        rest less

longer : (m n : ℕ) → n < m → leb m n ≡ false
longer m n more = grind (arith, nat_tests)

-- a longer text is cut there
pub cut_at : (text : List ℕ) (n : ℕ) → longest_title < length text → floor_char_boundary text longest_title ≡ n
    → take (n - 0) text ≡ cut_title text
cut_at text n long is =
    let whole : n - 0 ≡ n = omega arith in
    ap (λ (m : ℕ). take m text) whole
    ∙ sym (ap (λ (b : Bool). if b then text else take (floor_char_boundary text longest_title) text)
    (longer (length text) longest_title long)
    ∙ ap (λ (m : ℕ). take m text) is)

floor-le : (text : List ℕ) (i : ℕ) → floor_char_boundary text i ≤ i
unfolding floor_char_boundary
floor-le text zero = omega arith
floor-le text (suc i) = choose (is_char_start (slice_index text (suc i))) (floor-le text i)
  where
    choose : (b : Bool) → floor_char_boundary text i ≤ i → (if b then suc i else floor_char_boundary text i) ≤ suc i
    choose true rest = omega arith
    choose false rest = omega (arith, rest)

-- a title that is cut is short
pub cut_title-le : (text : List ℕ) → length (cut_title text) ≤ longest_title
cut_title-le text = choose (leb (length text) longest_title) refl
  where
    choose : (b : Bool) → leb (length text) longest_title ≡ b
        → length (if b then text else take (floor_char_boundary text longest_title) text) ≤ longest_title
    choose true few = grind (arith, nat_tests)
    choose false many =
        omega (
          arith,
          length-take (floor_char_boundary text longest_title) text,
          floor-le text longest_title,
        )
