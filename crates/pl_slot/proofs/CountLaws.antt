-- How many numbers of a range pass a test.
use Rattle.std.proofs.Common.{◌≡◌, ◌≢◌, ◌∙◌, ◌==◌, ◌||◌, ◌+◌, ◌-◌, ◌<◌, ◌≤◌, ◌∷◌, [], ℕ, Bool, List, ap, arith, cond}
use Rattle.std.proofs.Common.{eq-eqb, false, filter, inl, inr, length, refl, suc, sym, true, zero}
use mir.Val.{bool_byte}
use Rattle.std.specs.List.{range_with_len}
use Rattle.std.proofs.lemmas.Bool.{cases_eq, ne_eqb}
use Rattle.pl_slot.specs.Arena.{is_among}

abbrev pub passed : (ℕ → Bool) → ℕ → ℕ → ℕ
passed p from n = length (filter p (range_with_len from n))

step : (p : ℕ → Bool) (from n : ℕ) → passed p from (suc n) ≡ cond (p from) 1 0 + passed p (from + 1) n
step p from n =
    elim (p from) as (λ b. length (cond b (from ∷ filter p (range_with_len (from + 1) n)) (filter p (range_with_len (from + 1) n)))
    ≡ cond b 1 0 + passed p (from + 1) n) [ true ↦ omega arith | false ↦ omega arith ]

pub passed_same : (p q : ℕ → Bool) (from n : ℕ) → ((k : ℕ) → from ≤ k → q k ≡ p k) → passed q from n ≡ passed p from n
passed_same p q from zero same = refl
passed_same p q from (suc n) same =
    step q from n
    ∙ ap (λ b. cond b 1 0 + passed q (from + 1) n) (same from (omega arith))
    ∙ ap (λ m. cond (p from) 1 0 + m) (passed_same p q (from + 1) n (λ k above. same k (omega arith)))
    ∙ sym (step p from n)

-- one number more passes
pub passed_more : (p q : ℕ → Bool) (m from n : ℕ) → from ≤ m → m < from + n → p m ≡ false → q m ≡ true
    → ((k : ℕ) → k ≢ m → q k ≡ p k) → passed q from n ≡ passed p from n + 1
passed_more p q m from zero above below none some same = absurd (omega arith)
passed_more p q m from (suc n) above below none some same = elim (cases_eq from m) [
  | inl here ↦
      let old : p from ≡ false = ap p here ∙ none in
      let new : q from ≡ true = ap q here ∙ some in
      let rest : passed q (from + 1) n ≡ passed p (from + 1) n =
      passed_same p q (from + 1) n (λ k past. same k (apart k from m here past)) in
      step q from n ∙ ap (λ b. cond b 1 0 + passed q (from + 1) n) new
      ∙ one_more (passed q (from + 1) n) (passed p (from + 1) n) rest
      ∙ ap (λ k. k + 1) (sym (step p from n ∙ ap (λ b. cond b 1 0 + passed p (from + 1) n) old))
  | inr there ↦
      let rest : passed q (from + 1) n ≡ passed p (from + 1) n + 1 =
      passed_more p q m (from + 1) n (above_more from m above there) (omega arith) none some same in
      step q from n
      ∙ ap (λ b. cond b 1 0 + passed q (from + 1) n) (same from there)
      ∙ ap (λ k. cond (p from) 1 0 + k) rest
      ∙ regroup (cond (p from) 1 0) (passed p (from + 1) n)
      ∙ ap (λ k. k + 1) (sym (step p from n))
]
  where
    apart : (k from m : ℕ) → from ≡ m → from + 1 ≤ k → k ≢ m
    apart k from m here past is = absurd (omega arith)

    one_more : (a b : ℕ) → a ≡ b → 1 + a ≡ 0 + b + 1
    one_more a b same = omega arith

    above_more : (from m : ℕ) → from ≤ m → from ≢ m → from + 1 ≤ m
    above_more from m above there = elim (cases_eq from m) [ inl is ↦ absurd (there is) | inr other ↦ omega arith ]

    regroup : (a b : ℕ) → a + (b + 1) ≡ a + b + 1
    regroup a b = omega arith

-- of numbers behind a range none passes
pub passed_past : (p : ℕ → Bool) (from n more : ℕ) → ((k : ℕ) → from + n ≤ k → p k ≡ false)
    → passed p from (n + more) ≡ passed p from n
passed_past p from zero more none = ap (passed p from) (omega arith) ∙ no_one p from more (λ k above. none k (omega arith))
  where
    no_one : (p : ℕ → Bool) (from n : ℕ) → ((k : ℕ) → from ≤ k → p k ≡ false) → passed p from n ≡ 0
    no_one p from zero none = refl
    no_one p from (suc n) none =
        step p from n ∙ ap (λ b. cond b 1 0 + passed p (from + 1) n) (none from (omega arith))
        ∙ ap (λ k. 0 + k) (no_one p (from + 1) n (λ k above. none k (omega arith)))
passed_past p from (suc n) more none =
    let next : suc n + more ≡ suc (n + more) = omega arith in
    ap (passed p from) next ∙ step p from (n + more)
    ∙ ap (λ k. cond (p from) 1 0 + k) (passed_past p (from + 1) n more (λ k above. none k (omega arith)))
    ∙ sym (step p from n)

-- all numbers of a range pass
pub passed_all : (p : ℕ → Bool) (from n : ℕ) → ((k : ℕ) → from ≤ k → k < from + n → p k ≡ true) → passed p from n ≡ n
passed_all p from zero all = refl
passed_all p from (suc n) all =
    step p from n ∙ ap (λ b. cond b 1 0 + passed p (from + 1) n) (all from (omega arith) (omega arith))
    ∙ ap (λ k. 1 + k) (passed_all p (from + 1) n (λ k above below. all k (omega arith) (omega arith)))
    ∙ omega arith

-- ---- how numbers are counted one after another

pub passed_last : (p : ℕ → Bool) (from n : ℕ) → passed p from (n + 1) ≡ passed p from n + cond (p (from + n)) 1 0
passed_last p from zero =
    let one : 0 + 1 ≡ suc 0 = omega arith in
    let here : from + 0 ≡ from = omega arith in
    ap (passed p from) one ∙ step p from 0 ∙ turned (cond (p from) 1 0)
    ∙ ap (λ k. 0 + cond (p k) 1 0) (sym here)
  where
    turned : (a : ℕ) → a + 0 ≡ 0 + a
    turned a = omega arith
passed_last p from (suc n) =
    let next : suc n + 1 ≡ suc (n + 1) = omega arith in
    let place : from + 1 + n ≡ from + suc n = omega arith in
    ap (passed p from) next ∙ step p from (n + 1)
    ∙ ap (λ k. cond (p from) 1 0 + k) (passed_last p (from + 1) n)
    ∙ regroup (cond (p from) 1 0) (passed p (from + 1) n) (cond (p (from + 1 + n)) 1 0)
    ∙ ap (λ k. k + cond (p (from + 1 + n)) 1 0) (sym (step p from n))
    ∙ ap (λ k. passed p from (suc n) + cond (p k) 1 0) place
  where
    regroup : (a b c : ℕ) → a + (b + c) ≡ a + b + c
    regroup a b c = omega arith

pub byte_is : (b : Bool) → bool_byte b ≡ cond b 1 0
byte_is true = refl
byte_is false = refl

pub one_at_most : (b : Bool) → cond b 1 0 ≤ 1
one_at_most true = omega arith
one_at_most false = omega arith

pub passed_le : (p : ℕ → Bool) (from n : ℕ) → passed p from n ≤ n
passed_le p from zero = omega arith
passed_le p from (suc n) = omega (arith, step p from n, one_at_most (p from), passed_le p (from + 1) n)

pub count_on : (p : ℕ → Bool) (slot free more : ℕ) (b : Bool) → 1 ≤ slot → free ≡ passed p 1 (slot - 1)
    → more ≡ cond b 1 0 → b ≡ p slot → free + more ≡ passed p 1 (slot + 1 - 1)
count_on p slot free more b some counted more_is is =
    let size : slot + 1 - 1 ≡ slot - 1 + 1 = omega arith in
    let place : 1 + (slot - 1) ≡ slot = omega arith in
    sum counted (more_is ∙ ap (λ k. cond k 1 0) (is ∙ ap p (sym place)))
    ∙ sym (ap (passed p 1) size ∙ passed_last p 1 (slot - 1))
  where
    sum : {a b c d : ℕ} → a ≡ b → c ≡ d → a + c ≡ b + d
    sum same too = omega (arith, same, too)

-- tests that differ for one number at most
one_apart : (p q : ℕ → Bool) (x from n : ℕ) → ((k : ℕ) → k ≢ x → q k ≡ p k) → passed q from n ≤ passed p from n + 1
one_apart p q x from zero same = omega arith
one_apart p q x from (suc n) same = elim (cases_eq from x) [
  | inl here ↦
      let rest : passed q (from + 1) n ≡ passed p (from + 1) n =
      passed_same p q (from + 1) n (λ k past. same k (past_is k from x here past)) in
      omega (arith, step q from n, step p from n, rest, one_at_most (q from))
  | inr there ↦
      omega (
        arith,
        step q from n,
        step p from n,
        ap {B = ℕ} (λ (b : Bool). cond b 1 0) (same from there),
        one_apart p q x (from + 1) n same,
      )
]
  where
    past_is : (k from x : ℕ) → from ≡ x → from + 1 ≤ k → k ≢ x
    past_is k from x here past is = absurd (omega arith)

-- the one test where a number is this, and the other elsewhere
abbrev mixed : (ℕ → Bool) → (ℕ → Bool) → ℕ → ℕ → Bool
mixed p q x k = cond (k == x) (q k) (p k)

-- tests that differ for so many numbers
pub passed_few : (p q : ℕ → Bool) (these : List ℕ) (from n : ℕ)
    → ((k : ℕ) → is_among k these ≡ false → q k ≡ p k) → passed q from n ≤ passed p from n + length these
passed_few p q [] from n same = omega (arith, passed_same p q from n (λ k _. same k refl))
passed_few p q (x ∷ these) from n same =
    omega (
      arith,
      one_apart p (mixed p q x) x from n (λ k apart. ap (λ b. cond b (q k) (p k)) (ne_eqb k x apart)),
      passed_few (mixed p q x) q these from n mixed_is,
    )
  where
    mixed_is : (k : ℕ) → is_among k these ≡ false → q k ≡ mixed p q x k
    mixed_is k other = elim (cases_eq k x) [
      | inl here ↦ sym (ap (λ b. cond b (q k) (p k)) (eq-eqb k x here))
      | inr apart ↦
          same k (ap (λ b. b || is_among k these) (ne_eqb k x apart) ∙ other)
          ∙ sym (ap (λ b. cond b (q k) (p k)) (ne_eqb k x apart))
    ]
