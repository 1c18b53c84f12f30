-- Bits in words of 64.
use Rattle.std.proofs.Common.{◌≡◌, ◌≢◌, ◌∙◌, ◌==◌, ◌+◌, ◌-◌, ◌*◌, ◌/◌, ◌%◌, ◌^◌, ◌<◌, ◌≤◌, ap, arith, bit_and, bit_or}
use Rattle.std.proofs.Common.{Bool, eqb-true, false, get_or, inl, inr, length, length-set, List, min, refl, replicate}
use Rattle.std.proofs.Common.{set, slice_index, sym, true, true≢false, w64, ℕ}
use Rattle.std.specs.Int.{bit_at, trailing_zeros}
use Rattle.std.proofs.lemmas.Bool.{cases_Bool, cases_eq, cases_lt, eqb-false}
use Rattle.std.proofs.lemmas.List.{get_or-replicate, get_or-set_other, get_or-set_same, get_or_past, get_or_read}
use Rattle.std.proofs.lemmas.List.{length-replicate}
use Rattle.std.proofs.lemmas.Nat.{and_le_r}
use Rattle.std.proofs.lemmas.Nat.Bits.{bit_at-lt, bit_at-trailing_zeros, bit_at-zero, bit_at_and, bit_at_clear_other}
use Rattle.std.proofs.lemmas.Nat.Bits.{bit_at_clear_same, bit_at_mask_below, bit_at_mask_inside, bit_at_set_other}
use Rattle.std.proofs.lemmas.Nat.Bits.{bit_at_set_same, ones_shl}
use Rattle.pl_sheets.specs.Marks.{has_bit, is_empty, IsFirst, IsWithBit}

-- ---- words that are 0, and words with a bit

pub empty_bit : (n : ℕ) (words : List ℕ) → slice_index words (n / 64) ≡ 0 → has_bit n words ≡ false
empty_bit n words zero =
    ap (λ w. bit_at w (n % 64) == 1) zero ∙ ap (λ b. b == 1) (bit_at-zero (n % 64))

pub some_bit : (n : ℕ) (words : List ℕ) → has_bit n words ≡ true → is_empty (n / 64) words ≡ false
some_bit n words has = elim (cases_Bool (is_empty (n / 64) words)) [
  | inl empty ↦ absurd (true≢false (sym has ∙ empty_bit n words (eqb-true _ _ empty)))
  | inr some ↦ some
]

pub bit_within : (n : ℕ) (words : List ℕ) → has_bit n words ≡ true → n / 64 < length words
bit_within n words has = elim (cases_lt (n / 64) (length words)) [
  | inl within ↦ within
  | inr past ↦ absurd (true≢false (sym has ∙ empty_bit n words (get_or_past words (n / 64) 0 past)))
]

pub same_bit : (n : ℕ) (old new : List ℕ) → ((w : ℕ) → slice_index new w ≡ slice_index old w)
    → has_bit n new ≡ has_bit n old
same_bit n old new same = ap (λ w. bit_at w (n % 64) == 1) (same (n / 64))

pub zero_in : (count w : ℕ) → slice_index (replicate count 0) w ≡ 0
zero_in count w = elim (cases_lt w count) [
  | inl within ↦ get_or-replicate count w 0 0 within
  | inr past ↦ get_or_past (replicate count 0) w 0 (rw length-replicate past)
]

-- ---- one bit changed

-- one word changed, in which one bit has this value
with_bit : (value : Bool) (n word : ℕ) (old : List ℕ) → n / 64 < length old
    → (bit_at word (n % 64) == 1) ≡ value
    → ((i : ℕ) → i < 64 → i ≢ n % 64 → bit_at word i ≡ bit_at (slice_index old (n / 64)) i)
    → IsWithBit value n old (set old (n / 64) word)
with_bit value n word old within is others =
    record {
      bit = ap (λ w. bit_at w (n % 64) == 1) (get_or-set_same old (n / 64) word 0 within) ∙ is;
      bits = λ k other. elim (cases_eq (k / 64) (n / 64)) [
        | inl same ↦
            let apart : k % 64 ≢ n % 64 = λ e. other (omega arith) in
            ap (λ i. bit_at (slice_index (set old (n / 64) word) i) (k % 64) == 1) same
            ∙ ap (λ w. bit_at w (k % 64) == 1) (get_or-set_same old (n / 64) word 0 within)
            ∙ ap (λ b. b == 1) (others (k % 64) (omega arith) apart)
            ∙ ap (λ i. bit_at (slice_index old i) (k % 64) == 1) (sym same)
        | inr apart ↦
            ap (λ w. bit_at w (k % 64) == 1) (get_or-set_other old (n / 64) (k / 64) word 0 apart)
      ];
      words = λ w apart. get_or-set_other old (n / 64) w word 0 apart;
      as_long = length-set old (n / 64) word;
    }

pub set_is : (n was : ℕ) (old : List ℕ) → n / 64 < length old → was ≡ get_or old (n / 64) was
    → IsWithBit true n old (set old (n / 64) (bit_or was (1 * 2 ^ (n % 64) % 2 ^ 64)))
set_is n was old within read =
    let is : was ≡ slice_index old (n / 64) = get_or_read old (n / 64) was within read 0 in
    let inside : n % 64 < 64 = omega arith in
    with_bit true n (bit_or was (1 * 2 ^ (n % 64) % 2 ^ 64)) old within
    (ap (λ b. b == 1) (bit_at_set_same w64 was (n % 64) inside))
    (λ i _ apart. bit_at_set_other w64 was (n % 64) inside i apart ∙ ap (λ w. bit_at w i) is)

pub clear_is : (n was : ℕ) (old : List ℕ) → n / 64 < length old → was ≡ get_or old (n / 64) was
    → IsWithBit false n old (set old (n / 64) (bit_and was (2 ^ 64 - 1 - 1 * 2 ^ (n % 64) % 2 ^ 64)))
clear_is n was old within read =
    let is : was ≡ slice_index old (n / 64) = get_or_read old (n / 64) was within read 0 in
    let inside : n % 64 < 64 = omega arith in
    with_bit false n (bit_and was (2 ^ 64 - 1 - 1 * 2 ^ (n % 64) % 2 ^ 64)) old within
    (ap (λ b. b == 1) (bit_at_clear_same w64 was (n % 64) inside))
    (λ i below apart. bit_at_clear_other w64 was (n % 64) inside i below apart ∙ ap (λ w. bit_at w i) is)

-- ---- the next bit within a word

-- a word without its lowest bits
abbrev pub from_bit : ℕ → ℕ → ℕ
from_bit low word = bit_and word ((2 ^ 64 - 1) * 2 ^ low % 2 ^ 64)

left_fits : (low word : ℕ) → from_bit low word < 2 ^ 64
left_fits low word = omega (arith, and_le_r word ((2 ^ 64 - 1) * 2 ^ low % 2 ^ 64))

masked : (word low : ℕ) → low < 64 → from_bit low word ≡ bit_and word (2 ^ 64 - 2 ^ low)
masked word low within = ap (bit_and word) (ones_shl 64 low (omega arith))

bit_kept : (word low i : ℕ) → low < 64 → low ≤ i → i < 64 → bit_at (from_bit low word) i ≡ bit_at word i
bit_kept word low i within above below =
    ap (λ w. bit_at w i) (masked word low within) ∙ bit_at_and word (2 ^ 64 - 2 ^ low) i
    ∙ ap (min (bit_at word i)) (bit_at_mask_inside low 64 i above below)
    ∙ omega (arith, bit_at-lt word i)

bit_gone : (word low i : ℕ) → low < 64 → i < low → bit_at (from_bit low word) i ≡ 0
bit_gone word low i within below =
    ap (λ w. bit_at w i) (masked word low within) ∙ bit_at_and word (2 ^ 64 - 2 ^ low) i
    ∙ ap (min (bit_at word i)) (bit_at_mask_below low 64 i below)
    ∙ omega arith

-- where nothing is left of the word, none of its bits from there on is 1
pub none_left : (from word : ℕ) (words : List ℕ) → from / 64 < length words → word ≡ get_or words (from / 64) word
    → from_bit (from % 64) word ≡ 0 → (k : ℕ) → from ≤ k → k / 64 ≡ from / 64 → has_bit k words ≡ false
none_left from word words within read none k above same =
    let is : word ≡ slice_index words (from / 64) = get_or_read words (from / 64) word within read 0 in
    let kept : bit_at (from_bit (from % 64) word) (k % 64) ≡ bit_at word (k % 64) =
    bit_kept word (from % 64) (k % 64) (omega arith) (omega arith) (omega arith) in
    ap (λ w. bit_at (slice_index words w) (k % 64) == 1) same
    ∙ ap (λ w. bit_at w (k % 64) == 1) (sym is)
    ∙ ap (λ b. b == 1) (sym kept ∙ ap (λ w. bit_at w (k % 64)) none ∙ bit_at-zero (k % 64))

-- the lowest bit of what is left of a word
first_left : (from left n : ℕ) (words : List ℕ) → 0 < left → left < 2 ^ 64
    → ((i : ℕ) → from % 64 ≤ i → i < 64 → bit_at left i ≡ bit_at (slice_index words (from / 64)) i)
    → ((i : ℕ) → i < from % 64 → bit_at left i ≡ 0)
    → n ≡ from / 64 * 64 + trailing_zeros w64 left → IsFirst (λ k. has_bit k words) from n
first_left from left n words some fits kept gone is =
    let lowest = bit_at-trailing_zeros w64 left some fits in
    let place : ℕ = trailing_zeros w64 left in
    let inside : place < 64 = lowest.0 in
    let above : from % 64 ≤ place = elim (cases_lt place (from % 64)) [
      | inl below ↦ absurd (one_apart (bit_at left place) lowest.1 (gone place below))
      | inr above ↦ above
    ] in
    let word_is : n / 64 ≡ from / 64 = omega arith in
    let place_is : n % 64 ≡ place = omega arith in
    record {
      from_on = omega arith;
      found =
          ap (λ w. bit_at (slice_index words w) (n % 64) == 1) word_is
          ∙ ap (λ i. bit_at (slice_index words (from / 64)) i == 1) place_is
          ∙ ap (λ b. b == 1) (sym (kept place above inside) ∙ lowest.1);
      none_before = λ k low high.
          let same : k / 64 ≡ from / 64 = omega arith in
          ap (λ w. bit_at (slice_index words w) (k % 64) == 1) same
          ∙ ap (λ b. b == 1) (sym (kept (k % 64) (omega arith) (omega arith)) ∙ lowest.2 (k % 64) (omega arith));
    }
  where
    one_apart : (bit : ℕ) → bit ≡ 1 → bit ≡ 0 → ⊥
    one_apart bit one none = omega arith

pub next_left : (from word : ℕ) (words : List ℕ) → from / 64 < length words → word ≡ get_or words (from / 64) word
    → 0 < from_bit (from % 64) word
    → IsFirst (λ k. has_bit k words) from (from / 64 * 64 + trailing_zeros w64 (from_bit (from % 64) word))
next_left from word words within read some =
    let is : word ≡ slice_index words (from / 64) = get_or_read words (from / 64) word within read 0 in
    first_left from (from_bit (from % 64) word) (from / 64 * 64 + trailing_zeros w64 (from_bit (from % 64) word)) words
    some (left_fits (from % 64) word)
    (λ i low high. bit_kept word (from % 64) i (omega arith) low high ∙ ap (λ w. bit_at w i) is)
    (λ i low. bit_gone word (from % 64) i (omega arith) low) refl

not_zero : (word : ℕ) (words : List ℕ) → is_empty word words ≡ false → 0 < slice_index words word
not_zero word words some = elim (cases_eq (slice_index words word) 0) [
  | inl none ↦ absurd (eqb-false (slice_index words word) 0 some none)
  | inr other ↦ omega arith
]

pub lowest_fits : (word : ℕ) (words : List ℕ) → length words ≤ 2 ^ 32 → is_empty word words ≡ false
    → slice_index words word < 2 ^ 64 → 64 * word + trailing_zeros w64 (slice_index words word) < 2 ^ 64
lowest_fits word words few some fits =
    let lowest = bit_at-trailing_zeros w64 (slice_index words word) (not_zero word words some) fits in
    let inside : trailing_zeros w64 (slice_index words word) < 64 = lowest.0 in
    let there : word < length words = elim (cases_lt word (length words)) [
      | inl within ↦ within
      | inr past ↦ absurd (eqb-false (slice_index words word) 0 some (get_or_past words word 0 past))
    ] in
    omega arith

pub lowest_of : (word : ℕ) (words : List ℕ) → is_empty word words ≡ false → slice_index words word < 2 ^ 64
    → IsFirst (λ k. has_bit k words) (64 * word) (64 * word + trailing_zeros w64 (slice_index words word))
lowest_of word words some fits =
    let at : 64 * word / 64 ≡ word = omega arith in
    let low : 64 * word % 64 ≡ 0 = omega arith in
    first_left (64 * word) (slice_index words word) (64 * word + trailing_zeros w64 (slice_index words word)) words
    (not_zero word words some) fits
    (λ i _ _. ap (λ w. bit_at (slice_index words w) i) (sym at))
    (λ i below. absurd (never i (omega arith))) (omega arith)
  where
    never : (i : ℕ) → i < 0 → ⊥
    never i below = omega arith
