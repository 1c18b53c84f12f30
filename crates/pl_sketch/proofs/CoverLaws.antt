-- What a sketch covers: those of the parts of its text, and what each of two that are joined covers.
use Rattle.std.proofs.Common.{◌≡◌, ◌∙◌, ◌++◌, ℕ, List, [], ◌∷◌, ap, arith, sym}
use Rattle.std.specs.Prelude.{bit_or}
use Rattle.std.specs.Int.Bits.{or_self, or_zero_r}
use Rattle.std.proofs.lemmas.Nat.{or_comm}
use Rattle.std.proofs.lemmas.Nat.Bits.{bit_at_or, same_from_bits}
use Rattle.pl_sketch.specs.declared.sketch.Sketch.{Sketch}
use Rattle.pl_sketch.specs.Pairs.{Covers, at_place, nothing, place_of, sketch_of, union}

-- ---- unions

or_assoc : (a b c : ℕ) → bit_or (bit_or a b) c ≡ bit_or a (bit_or b c)
or_assoc a b c =
    same_from_bits _ _
    (λ i.
    omega (arith, bit_at_or (bit_or a b) c i, bit_at_or a b i, bit_at_or a (bit_or b c) i, bit_at_or b c i))

pub union_assoc : (a b c : Sketch) → union (union a b) c ≡ union a (union b c)
union_assoc a b c =
    λ i.
    record {
      from_0 = or_assoc a.from_0 b.from_0 c.from_0 i;
      from_64 = or_assoc a.from_64 b.from_64 c.from_64 i;
      from_128 = or_assoc a.from_128 b.from_128 c.from_128 i;
      from_192 = or_assoc a.from_192 b.from_192 c.from_192 i;
    }

pub union_comm : (a b : Sketch) → union a b ≡ union b a
union_comm a b =
    λ i.
    record {
      from_0 = or_comm a.from_0 b.from_0 i;
      from_64 = or_comm a.from_64 b.from_64 i;
      from_128 = or_comm a.from_128 b.from_128 i;
      from_192 = or_comm a.from_192 b.from_192 i;
    }

pub covers_itself : (a : Sketch) → Covers a a
covers_itself a =
    λ i.
    record {
      from_0 = or_self a.from_0 i;
      from_64 = or_self a.from_64 i;
      from_128 = or_self a.from_128 i;
      from_192 = or_self a.from_192 i;
    }

pub covers_nothing : (a : Sketch) → Covers a nothing
covers_nothing a =
    λ i.
    record {
      from_0 = or_zero_r a.from_0 i;
      from_64 = or_zero_r a.from_64 i;
      from_128 = or_zero_r a.from_128 i;
      from_192 = or_zero_r a.from_192 i;
    }

-- ---- what covers what

pub covers_on : (a b c : Sketch) → Covers a b → Covers b c → Covers a c
covers_on a b c first second =
    ap (λ s. union s c) (sym first) ∙ union_assoc a b c ∙ ap (union a) second ∙ first

pub covers_first : (a b : Sketch) → Covers (union a b) a
covers_first a b =
    union_comm (union a b) a ∙ sym (union_assoc a a b) ∙ ap (λ s. union s b) (covers_itself a)

pub covers_second : (a b : Sketch) → Covers (union a b) b
covers_second a b = union_assoc a b b ∙ ap (union a) (covers_itself b)

-- what covers two covers both together
pub covers_both : (all a b : Sketch) → Covers all a → Covers all b → Covers all (union a b)
covers_both all a b first second = sym (union_assoc all a b) ∙ ap (λ s. union s b) first ∙ second

-- ---- the parts of a text

-- with what stands behind it
covers_front : (word behind : List ℕ) → Covers (sketch_of (word ++ behind)) (sketch_of word)
covers_front [] behind = covers_nothing (sketch_of behind)
covers_front (a ∷ []) behind = covers_nothing (sketch_of (a ∷ behind))
covers_front (a ∷ b ∷ word) behind =
    let pair : Sketch = at_place (place_of a b) in
    let rest : Sketch = sketch_of (b ∷ word ++ behind) in
    covers_both (union pair rest) pair (sketch_of (b ∷ word))
    (covers_first pair rest)
    (covers_on (union pair rest) rest (sketch_of (b ∷ word)) (covers_second pair rest)
    (covers_front (b ∷ word) behind))

-- with a byte before it
pub covers_rest : (byte : ℕ) (text : List ℕ) → Covers (sketch_of (byte ∷ text)) (sketch_of text)
covers_rest byte [] = covers_nothing nothing
covers_rest byte (b ∷ text) = covers_second (at_place (place_of byte b)) (sketch_of (b ∷ text))

-- the sketch of a text covers that of each word that stands in it
pub covers_word : (before word behind : List ℕ)
    → Covers (sketch_of (before ++ word ++ behind)) (sketch_of word)
covers_word [] word behind = covers_front word behind
covers_word (byte ∷ before) word behind =
    covers_on (sketch_of (byte ∷ before ++ word ++ behind)) (sketch_of (before ++ word ++ behind))
    (sketch_of word) (covers_rest byte (before ++ word ++ behind)) (covers_word before word behind)
