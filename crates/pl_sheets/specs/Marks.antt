-- Marked numbers as bits in words of 64, in levels of which each says which words below are not 0.
use Rattle.std.specs.Prelude.{◌≡◌, ◌≢◌, ℕ, ◌+◌, ◌*◌, ◌/◌, ◌%◌, ◌^◌, ◌<◌, ◌≤◌, ◌==◌, Bool, true, false}
use Rattle.std.specs.Prelude.{not}
use Rattle.std.specs.Prelude.{List, [], ◌∷◌, length, map, slice_index, Option, Some, None}
use Rattle.std.specs.List.{range_with_len}
use Rattle.std.specs.Int.{bit_at}

-- the word at this place is 0, or there is none
abbrev pub is_empty : ℕ → List ℕ → Bool
is_empty word words = slice_index words word == 0

-- the bit of this number is 1
abbrev pub has_bit : ℕ → List ℕ → Bool
has_bit n words = bit_at (slice_index words (n / 64)) (n % 64) == 1

-- n is the first number from `from` on that passes
pub record IsFirst (passes : ℕ → Bool) (from n : ℕ) : Type 0 where
  pub from_on : from ≤ n
  pub found : passes n ≡ true
  pub none_before : (k : ℕ) → from ≤ k → k < n → passes k ≡ false

-- the answer is that number, or that there is none
abbrev pub IsNext : (ℕ → Bool) → ℕ → Option ℕ → Type 0
IsNext passes from None = (k : ℕ) → from ≤ k → passes k ≡ false
IsNext passes from (Some n) = IsFirst passes from n

-- the answer is the first number from `from` on whose bit in its word is 1, or that there is none
abbrev pub IsNextInWord : ℕ → List ℕ → Option ℕ → Type 0
IsNextInWord from words None = (k : ℕ) → from ≤ k → k / 64 ≡ from / 64 → has_bit k words ≡ false
IsNextInWord from words (Some n) = IsFirst (λ k. has_bit k words) from n

-- the words with one bit set to this value
pub record IsWithBit (value : Bool) (n : ℕ) (old new : List ℕ) : Type 0 where
  pub bit : has_bit n new ≡ value
  pub bits : (k : ℕ) → k ≢ n → has_bit k new ≡ has_bit k old
  pub words : (w : ℕ) → w ≢ n / 64 → slice_index new w ≡ slice_index old w
  pub as_long : length new ≡ length old

-- the words with room for more, all else as it was
pub record HasMoreRoom (old new : List ℕ) : Type 0 where
  pub words : (w : ℕ) → slice_index new w ≡ slice_index old w
  pub longer : length old ≤ length new
  pub few : length old ≤ 2 ^ 32 → length new ≤ 2 ^ 32

-- a bit above says of each word below that it is not 0
abbrev pub SumsUp : List ℕ → List ℕ → Type 0
SumsUp below above = (w : ℕ) → has_bit w above ≡ not (is_empty w below)

-- these words are few, and each level above sums up the one below it
abbrev pub AreSummed : List ℕ → List (List ℕ) → Type 0
AreSummed words [] = length words ≤ 2 ^ 32
AreSummed words (next ∷ above) = (length words ≤ 2 ^ 32) × SumsUp words next × AreSummed next above

-- how many words so many bits fill
abbrev pub word_count : ℕ → ℕ
word_count n = (n + 63) / 64

-- the words have a bit for each number below n
pub record HasRoom (n : ℕ) (words : List ℕ) : Type 0 where
  pub room : n ≤ 64 * length words
  pub few : length words ≤ 2 ^ 32

-- what holds of the levels of so many numbers
pub record AreLevels (count : ℕ) (bits groups blocks areas : List ℕ) : Type 0 where
  pub few : count ≤ 2 ^ 32
  pub bits_room : HasRoom count bits
  pub groups_room : HasRoom (word_count count) groups
  pub blocks_room : HasRoom (word_count (word_count count)) blocks
  pub areas_room : HasRoom (word_count (word_count (word_count count))) areas
  pub none_past : (n : ℕ) → count ≤ n → has_bit n bits ≡ false
  pub groups_sum : SumsUp bits groups
  pub blocks_sum : SumsUp groups blocks
  pub areas_sum : SumsUp blocks areas

-- of each number below the count, whether its bit is 1
abbrev pub marked : ℕ → List ℕ → List Bool
marked count words = map (λ n. has_bit n words) (range_with_len 0 count)
