-- Levels of bits, of which each says which words below are not 0.
use Rattle.std.proofs.Common.{◌≡◌, ◌≢◌, ◌∙◌, ◌==◌, ◌+◌, ◌*◌, ◌/◌, ◌^◌, ◌<◌, ◌≤◌, ◌∷◌, ap, arith, Bool, eqb-true}
use Rattle.std.proofs.Common.{false, IfSome, inl, inr, length, List, map, None, not, Option, refl, replicate, Some}
use Rattle.std.proofs.Common.{subst, sym, true, true≢false, ℕ}
use Rattle.std.proofs.lemmas.Bool.{cases_eq, cases_lt, not-false}
use Rattle.std.proofs.lemmas.List.{length-replicate}
use Rattle.pl_sheets.specs.Marks.{AreLevels, AreSummed, has_bit, HasMoreRoom, HasRoom, is_empty, IsFirst, IsNext}
use Rattle.pl_sheets.specs.Marks.{IsWithBit, SumsUp, word_count}
use Rattle.pl_sheets.proofs.Bits.{empty_bit, same_bit, some_bit, zero_in}

-- ---- a level above another

pub bit_above : (n : ℕ) (below above : List ℕ) → SumsUp below above → has_bit n below ≡ true
    → has_bit (n / 64) above ≡ true
bit_above n below above sums has = sums (n / 64) ∙ ap not (some_bit n below has)

other_word : (n w : ℕ) (value : Bool) (old new : List ℕ) → IsWithBit value n old new → w ≢ n / 64
    → is_empty w new ≡ is_empty w old
other_word n w value old new changed apart = ap (λ x. x == 0) (changed.words w apart)

sums_set : (n : ℕ) (below below' above above' : List ℕ) → SumsUp below above → IsWithBit true n below below'
    → IsWithBit true (n / 64) above above' → SumsUp below' above'
sums_set n below below' above above' sums low high w = elim (cases_eq w (n / 64)) [
  | inl same ↦ rw same (high.bit ∙ ap not (sym (some_bit n below' low.bit)))
  | inr apart ↦ high.bits w apart ∙ sums w ∙ ap not (sym (other_word n w true below below' low apart))
]

-- the word is 0 now, and the bit above too
pub sums_cleared : (n : ℕ) (below below' above above' : List ℕ) → SumsUp below above
    → IsWithBit false n below below' → is_empty (n / 64) below' ≡ true → IsWithBit false (n / 64) above above'
    → SumsUp below' above'
sums_cleared n below below' above above' sums low empty high w = elim (cases_eq w (n / 64)) [
  | inl same ↦ rw same (high.bit ∙ ap not (sym empty))
  | inr apart ↦ high.bits w apart ∙ sums w ∙ ap not (sym (other_word n w false below below' low apart))
]

-- the word is not 0 yet
pub sums_left : (n : ℕ) (below below' above : List ℕ) → SumsUp below above → has_bit n below ≡ true
    → IsWithBit false n below below' → is_empty (n / 64) below' ≡ false → SumsUp below' above
sums_left n below below' above sums has low some w = elim (cases_eq w (n / 64)) [
  | inl same ↦ rw same (sums (n / 64) ∙ ap not (some_bit n below has ∙ sym some))
  | inr apart ↦ sums w ∙ ap not (sym (other_word n w false below below' low apart))
]

sums_kept : (below below' above above' : List ℕ) → SumsUp below above → HasMoreRoom below below'
    → HasMoreRoom above above' → SumsUp below' above'
sums_kept below below' above above' sums low high w =
    same_bit w above above' high.words ∙ sums w ∙ ap (λ x. not (x == 0)) (sym (low.words w))

-- the first of several levels sums up the words below them
pub first_sums : {X : Type 0} (words_of : X → List ℕ) (words : List ℕ) (levels rest : List X) (first : X)
    → levels ≡ first ∷ rest → AreSummed words (map words_of levels) → SumsUp words (words_of first)
first_sums words_of words levels rest first is summed =
    let at_first = subst (λ l. AreSummed words (map words_of l)) is summed in
    at_first.1

-- ---- all levels

pub room_at : (n count : ℕ) (words : List ℕ) → HasRoom count words → n < count → n / 64 < length words
room_at n count words had below =
    let room : count ≤ 64 * length words = had.room in
    omega arith

room_kept : (n : ℕ) (old new : List ℕ) → HasRoom n old → length new ≡ length old → HasRoom n new
room_kept n old new had same =
    let room : n ≤ 64 * length old = had.room in
    let few : length old ≤ 2 ^ 32 = had.few in
    record { room = omega arith; few = omega arith }

more_room : (n : ℕ) (old new : List ℕ) → HasRoom n old → HasMoreRoom old new → HasRoom n new
more_room n old new had more =
    let room : n ≤ 64 * length old = had.room in
    let longer : length old ≤ length new = more.longer in
    record { room = omega arith; few = more.few had.few }

pub no_room : (words : List ℕ) → HasMoreRoom words words
no_room words = record { words = λ w. refl; longer = omega arith; few = λ few. few }

-- room for more in each level
pub levels_kept : (count : ℕ) (bits bits' groups groups' blocks blocks' areas areas' : List ℕ)
    → AreLevels count bits groups blocks areas → HasMoreRoom bits bits' → HasMoreRoom groups groups'
    → HasMoreRoom blocks blocks' → HasMoreRoom areas areas' → AreLevels count bits' groups' blocks' areas'
levels_kept count bits bits' groups groups' blocks blocks' areas areas' levels in_bits in_groups in_blocks in_areas =
    record {
      few = levels.few;
      bits_room = more_room count bits bits' levels.bits_room in_bits;
      groups_room = more_room (word_count count) groups groups' levels.groups_room in_groups;
      blocks_room = more_room (word_count (word_count count)) blocks blocks' levels.blocks_room in_blocks;
      areas_room = more_room (word_count (word_count (word_count count))) areas areas' levels.areas_room in_areas;
      none_past = λ n past. same_bit n bits bits' in_bits.words ∙ levels.none_past n past;
      groups_sum = sums_kept bits bits' groups groups' levels.groups_sum in_bits in_groups;
      blocks_sum = sums_kept groups groups' blocks blocks' levels.blocks_sum in_groups in_blocks;
      areas_sum = sums_kept blocks blocks' areas areas' levels.areas_sum in_blocks in_areas;
    }

one_word_more : (m n : ℕ) → m ≤ n + 1 → word_count m ≤ n / 64 + 1
one_word_more m n most = omega arith

pub word_within : (n count : ℕ) → n < count → n / 64 < word_count count
word_within n count below = omega arith

-- one number more, for which there is room
pub levels_grown : (n : ℕ) (bits groups blocks areas : List ℕ) → AreLevels n bits groups blocks areas → n < 2 ^ 32
    → n < 64 * length bits → n / 64 < 64 * length groups → n / 64 / 64 < 64 * length blocks
    → n / 64 / 64 / 64 < 64 * length areas → AreLevels (n + 1) bits groups blocks areas
levels_grown n bits groups blocks areas levels few in_bits in_groups in_blocks in_areas =
    let groups_most : word_count (n + 1) ≤ n / 64 + 1 = one_word_more (n + 1) n (omega arith) in
    let blocks_most : word_count (word_count (n + 1)) ≤ n / 64 / 64 + 1 =
    one_word_more (word_count (n + 1)) (n / 64) groups_most in
    let areas_most : word_count (word_count (word_count (n + 1))) ≤ n / 64 / 64 / 64 + 1 =
    one_word_more (word_count (word_count (n + 1))) (n / 64 / 64) blocks_most in
    record {
      few = omega arith;
      bits_room = record { room = omega arith; few = levels.bits_room.few };
      groups_room = record { room = omega arith; few = levels.groups_room.few };
      blocks_room = record { room = omega arith; few = levels.blocks_room.few };
      areas_room = record { room = omega arith; few = levels.areas_room.few };
      none_past = λ k past. levels.none_past k (omega arith);
      groups_sum = levels.groups_sum;
      blocks_sum = levels.blocks_sum;
      areas_sum = levels.areas_sum;
    }

pub levels_of_zeros : (count : ℕ) → count ≤ 2 ^ 32
    → AreLevels count (replicate (count / 64 + 1) 0) (replicate (count / 64 / 64 + 1) 0)
    (replicate (count / 64 / 64 / 64 + 1) 0) (replicate (count / 64 / 64 / 64 / 64 + 1) 0)
levels_of_zeros count few =
    let groups_most : word_count count ≤ count / 64 + 1 = one_word_more count count (omega arith) in
    let blocks_most : word_count (word_count count) ≤ count / 64 / 64 + 1 =
    one_word_more (word_count count) (count / 64) groups_most in
    let areas_most : word_count (word_count (word_count count)) ≤ count / 64 / 64 / 64 + 1 =
    one_word_more (word_count (word_count count)) (count / 64 / 64) blocks_most in
    record {
      few = few;
      bits_room = room count count (omega arith) few;
      groups_room = room (word_count count) (count / 64) groups_most (omega arith);
      blocks_room = room (word_count (word_count count)) (count / 64 / 64) blocks_most (omega arith);
      areas_room = room (word_count (word_count (word_count count))) (count / 64 / 64 / 64) areas_most (omega arith);
      none_past = λ n past. empty_bit n (replicate (count / 64 + 1) 0) (zero_in (count / 64 + 1) (n / 64));
      groups_sum = sums (count / 64 + 1) (count / 64 / 64 + 1);
      blocks_sum = sums (count / 64 / 64 + 1) (count / 64 / 64 / 64 + 1);
      areas_sum = sums (count / 64 / 64 / 64 + 1) (count / 64 / 64 / 64 / 64 + 1);
    }
  where
    room : (m n : ℕ) → m ≤ n + 1 → n ≤ 2 ^ 32 → HasRoom m (replicate (n / 64 + 1) 0)
    room m n most fits =
        let size : length (replicate {A = ℕ} (n / 64 + 1) 0) ≡ n / 64 + 1 = length-replicate (n / 64 + 1) 0 in
        record { room = omega arith; few = omega arith }

    sums : (m n : ℕ) → SumsUp (replicate m 0) (replicate n 0)
    sums m n w =
        empty_bit w (replicate n 0) (zero_in n (w / 64)) ∙ ap (λ x. not (x == 0)) (sym (zero_in m w))

-- the levels with other words, as many as before
levels_from : (count : ℕ) (bits bits' groups groups' blocks blocks' areas areas' : List ℕ)
    → AreLevels count bits groups blocks areas → ((k : ℕ) → count ≤ k → has_bit k bits' ≡ false)
    → length bits' ≡ length bits → length groups' ≡ length groups → length blocks' ≡ length blocks
    → length areas' ≡ length areas → SumsUp bits' groups' → SumsUp groups' blocks' → SumsUp blocks' areas'
    → AreLevels count bits' groups' blocks' areas'
levels_from count bits bits' groups groups' blocks blocks' areas areas' levels past in_bits in_groups in_blocks in_areas
    low middle high =
    record {
      few = levels.few;
      bits_room = room_kept count bits bits' levels.bits_room in_bits;
      groups_room = room_kept (word_count count) groups groups' levels.groups_room in_groups;
      blocks_room = room_kept (word_count (word_count count)) blocks blocks' levels.blocks_room in_blocks;
      areas_room = room_kept (word_count (word_count (word_count count))) areas areas' levels.areas_room in_areas;
      none_past = past;
      groups_sum = low;
      blocks_sum = middle;
      areas_sum = high;
    }

past_kept : (value : Bool) (count n : ℕ) (bits bits' : List ℕ) → ((k : ℕ) → count ≤ k → has_bit k bits ≡ false)
    → n < count → IsWithBit value n bits bits' → (k : ℕ) → count ≤ k → has_bit k bits' ≡ false
past_kept value count n bits bits' none below changed k past =
    let apart : k ≢ n = λ same. omega arith in
    changed.bits k apart ∙ none k past

pub levels_set : (count n : ℕ) (bits bits' groups groups' blocks blocks' areas areas' : List ℕ)
    → AreLevels count bits groups blocks areas → n < count → IsWithBit true n bits bits'
    → IsWithBit true (n / 64) groups groups' → IsWithBit true (n / 64 / 64) blocks blocks'
    → IsWithBit true (n / 64 / 64 / 64) areas areas' → AreLevels count bits' groups' blocks' areas'
levels_set count n bits bits' groups groups' blocks blocks' areas areas' levels below in_bits in_groups in_blocks
    in_areas =
    levels_from count bits bits' groups groups' blocks blocks' areas areas' levels
    (past_kept true count n bits bits' levels.none_past below in_bits)
    in_bits.as_long in_groups.as_long in_blocks.as_long in_areas.as_long
    (sums_set n bits bits' groups groups' levels.groups_sum in_bits in_groups)
    (sums_set (n / 64) groups groups' blocks blocks' levels.blocks_sum in_groups in_blocks)
    (sums_set (n / 64 / 64) blocks blocks' areas areas' levels.areas_sum in_blocks in_areas)

pub below_count : (count n : ℕ) (bits groups blocks areas : List ℕ) → AreLevels count bits groups blocks areas
    → has_bit n bits ≡ true → n < count
below_count count n bits groups blocks areas levels has = elim (cases_lt n count) [
  | inl below ↦ below
  | inr past ↦ absurd (true≢false (sym has ∙ levels.none_past n past))
]

-- a bit cleared in the lowest level, and in each level above a word that is 0 then
pub levels_cleared : (count n : ℕ) (bits bits' groups groups' blocks blocks' areas areas' : List ℕ)
    → AreLevels count bits groups blocks areas → has_bit n bits ≡ true → IsWithBit false n bits bits'
    → length groups' ≡ length groups → length blocks' ≡ length blocks → length areas' ≡ length areas
    → SumsUp bits' groups' → SumsUp groups' blocks' → SumsUp blocks' areas'
    → AreLevels count bits' groups' blocks' areas'
levels_cleared count n bits bits' groups groups' blocks blocks' areas areas' levels has cleared in_groups in_blocks
    in_areas =
    levels_from count bits bits' groups groups' blocks blocks' areas areas' levels
    (past_kept false count n bits bits' levels.none_past
    (below_count count n bits groups blocks areas levels has) cleared)
    cleared.as_long in_groups in_blocks in_areas

-- ---- the next number through the levels

empty_word : (k : ℕ) (below : List ℕ) (p : ℕ → Bool) → ((w : ℕ) → p w ≡ not (is_empty w below))
    → p (k / 64) ≡ false → has_bit k below ≡ false
empty_word k below p sums none =
    empty_bit k below (eqb-true _ _ (not-false (is_empty (k / 64) below) (sym (sums (k / 64)) ∙ none)))

-- none is left in the word of `from`, and none above in the words behind it
pub none_through : (from : ℕ) (below : List ℕ) (p : ℕ → Bool)
    → ((w : ℕ) → p w ≡ not (is_empty w below))
    → ((k : ℕ) → from ≤ k → k / 64 ≡ from / 64 → has_bit k below ≡ false)
    → ((w : ℕ) → from / 64 + 1 ≤ w → p w ≡ false) → (k : ℕ) → from ≤ k → has_bit k below ≡ false
none_through from below p sums here behind k above = elim (cases_eq (k / 64) (from / 64)) [
  | inl same ↦ here k above same
  | inr apart ↦ empty_word k below p sums (behind (k / 64) (omega arith))
]

-- none is left in the word of `from`; the next word behind it is told from above, and its lowest
-- bit
pub first_through : (from w n : ℕ) (below : List ℕ) (p : ℕ → Bool)
    → ((w : ℕ) → p w ≡ not (is_empty w below))
    → ((k : ℕ) → from ≤ k → k / 64 ≡ from / 64 → has_bit k below ≡ false)
    → IsFirst p (from / 64 + 1) w → IsFirst (λ k. has_bit k below) (64 * w) n → n / 64 ≡ w
    → IsFirst (λ k. has_bit k below) from n
first_through from w n below p sums here word lowest at =
    let behind : from / 64 + 1 ≤ w = word.from_on in
    let low : 64 * w ≤ n = lowest.from_on in
    record {
      from_on = omega arith;
      found = lowest.found;
      none_before = λ k above under. elim (cases_eq (k / 64) (from / 64)) [
        | inl same ↦ here k above same
        | inr apart ↦ elim (cases_lt (k / 64) w) [
          | inl between ↦ empty_word k below p sums (word.none_before (k / 64) (omega arith) between)
          | inr there ↦ lowest.none_before k (omega arith) under
        ]
      ];
    }

-- the next number is one of those below the count
pub next_below : (count from : ℕ) (bits groups blocks areas : List ℕ) (answer : Option ℕ)
    → AreLevels count bits groups blocks areas → IsNext (λ n. has_bit n bits) from answer
    → IfSome answer (λ n. n < 2 ^ 32)
next_below count from bits groups blocks areas None levels none = tt
next_below count from bits groups blocks areas (Some n) levels first =
    let below : n < count = below_count count n bits groups blocks areas levels first.found in
    let few : count ≤ 2 ^ 32 = levels.few in
    omega arith
