-- Truth values of the numbers below a count.
use Rattle.std.proofs.Common.{◌≡◌, ◌∙◌, ◌+◌, ◌<◌, ◌≤◌, ◌++◌, ◌∷◌, [], ◌/◌, ap, arith, Bool, ext_get_or, false}
use Rattle.std.proofs.Common.{get_or, inl, inr, length, length-set, List, map, None, Option, replicate, set, Some}
use Rattle.std.proofs.Common.{sym, true, true≢false, ℕ}
use Rattle.std.specs.List.{range_with_len}
use Rattle.std.proofs.lemmas.Bool.{cases_eq, cases_lt}
use Rattle.std.proofs.lemmas.List.{get_or-replicate, get_or-set_other, get_or-set_same, get_or_past, length-replicate}
use Rattle.std.proofs.lemmas.List.{set_at}
use Rattle.std.proofs.lemmas.List.FromFn.{get_or-map-range_with_len, length-map-range_with_len}
use Rattle.std.proofs.lemmas.List.FromFn.{map-range_with_len_more}
use Rattle.pl_sheets.specs.Marks.{has_bit, HasMoreRoom, IsNext, IsWithBit, marked}
use Rattle.pl_sheets.proofs.Bits.{empty_bit, same_bit, zero_in}

-- ---- a list of truth values, which is false past its end

pub all_false : (flags : List Bool) → ((k : ℕ) → get_or flags k false ≡ false)
    → flags ≡ replicate (length flags) false
all_false flags none =
    ext_get_or false flags (replicate (length flags) false) (sym (length-replicate (length flags) false))
    (λ k within. none k ∙ sym (get_or-replicate (length flags) k false false within))

pub true_within : (flags : List Bool) (n : ℕ) → get_or flags n false ≡ true → n < length flags
true_within flags n is = elim (cases_lt n (length flags)) [
  | inl within ↦ within
  | inr past ↦ absurd (true≢false (sym is ∙ get_or_past flags n false past))
]

-- ---- the truth values of bits

pub length-marked : (count : ℕ) (words : List ℕ) → length (marked count words) ≡ count
length-marked count words = length-map-range_with_len (λ n. has_bit n words) 0 count

marked_at : (count k : ℕ) (words : List ℕ) (d : Bool) → k < count → get_or (marked count words) k d ≡ has_bit k words
marked_at count k words d below =
    get_or-map-range_with_len (λ n. has_bit n words) 0 count k k d below (omega arith)

mark_is : (count k : ℕ) (words : List ℕ) → ((n : ℕ) → count ≤ n → has_bit n words ≡ false)
    → get_or (marked count words) k false ≡ has_bit k words
mark_is count k words none = elim (cases_lt k count) [
  | inl below ↦ marked_at count k words false below
  | inr past ↦ get_or_past (marked count words) k false (rw length-marked past) ∙ sym (none k past)
]

-- what a list of truth values that is that of bits says of them
pub below_marked : (count n : ℕ) (words : List ℕ) (flags : List Bool) → marked count words ≡ flags
    → n < length flags → n < count
below_marked count n words flags is below = omega (arith, ap length is, length-marked count words)

pub bit_marked : (count n : ℕ) (words : List ℕ) (flags : List Bool) → marked count words ≡ flags
    → ((k : ℕ) → count ≤ k → has_bit k words ≡ false) → get_or flags n false ≡ has_bit n words
bit_marked count n words flags is none =
    sym (ap (λ l. get_or l n false) is) ∙ mark_is count n words none

pub marked_zeros : (count size : ℕ) → marked count (replicate size 0) ≡ replicate count false
marked_zeros count size =
    ext_get_or false (marked count (replicate size 0)) (replicate count false)
    (length-marked count (replicate size 0) ∙ sym (length-replicate count false))
    (λ k within. let below : k < count = rw length-marked at within in
    marked_at count k (replicate size 0) false below ∙ empty_bit k (replicate size 0) (zero_in size (k / 64))
    ∙ sym (get_or-replicate count k false false below))

pub marked_with : (value : Bool) (count n : ℕ) (old new : List ℕ) → n < count → IsWithBit value n old new
    → marked count new ≡ set (marked count old) n value
marked_with value count n old new inside changed =
    ext_get_or false (marked count new) (set (marked count old) n value)
    (length-marked count new ∙ sym (length-set (marked count old) n value ∙ length-marked count old))
    (λ k within. let below : k < count = rw length-marked at within in
    elim (cases_eq k n) [
      | inl same ↦ rw same
          (marked_at count n new false inside ∙ changed.bit
          ∙ sym (get_or-set_same (marked count old) n value false (rw length-marked inside)))
      | inr apart ↦
          marked_at count k new false below ∙ changed.bits k apart ∙ sym (marked_at count k old false below)
          ∙ sym (get_or-set_other (marked count old) n k value false apart)
    ])

pub marked_kept : (count : ℕ) (old new : List ℕ) → HasMoreRoom old new → marked count new ≡ marked count old
marked_kept count old new more i = map (λ n. same_bit n old new more.words i) (range_with_len 0 count)

marked_more : (count : ℕ) (words : List ℕ) → has_bit count words ≡ false
    → marked (count + 1) words ≡ marked count words ++ false ∷ []
marked_more count words none =
    map-range_with_len_more (λ n. has_bit n words) 0 count count (omega arith)
    ∙ ap (λ b. marked count words ++ b ∷ []) none

-- one number more, marked
pub grown_flags : (n : ℕ) (old new : List ℕ) (flags now : List Bool) → marked n old ≡ flags → HasMoreRoom old new
    → has_bit n old ≡ false → now ≡ set (marked (n + 1) new) n true → now ≡ flags ++ true ∷ []
grown_flags n old new flags now flags_is more none is =
    is
    ∙ ap (λ l. set l n true)
    (marked_more n new (same_bit n old new more.words ∙ none)
    ∙ ap (λ l. l ++ false ∷ []) (marked_kept n old new more ∙ flags_is))
    ∙ set_at flags false [] true n (sym (ap length flags_is) ∙ length-marked n old)

pub next_same : (p q : ℕ → Bool) (from : ℕ) (answer : Option ℕ) → ((k : ℕ) → p k ≡ q k) → IsNext p from answer
    → IsNext q from answer
next_same p q from None same none = λ k above. sym (same k) ∙ none k above
next_same p q from (Some n) same first =
    record {
      from_on = first.from_on;
      found = sym (same n) ∙ first.found;
      none_before = λ k above below. sym (same k) ∙ first.none_before k above below;
    }
