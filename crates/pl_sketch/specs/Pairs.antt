-- Which pairs of neighbouring bytes texts have, as far as the places of the pairs tell.
use Rattle.std.specs.Prelude.{◌≡◌, ℕ, ◌==◌, ◌+◌, ◌*◌, ◌/◌, ◌%◌, ◌^◌, List, [], ◌∷◌, bit_or}
use Rattle.std.specs.Prelude.{if◌then◌else◌}
use Rattle.pl_sketch.specs.declared.sketch.Sketch.{Sketch}

-- no place
abbrev pub nothing : Sketch
nothing = record { from_0 = 0; from_64 = 0; from_128 = 0; from_192 = 0 }

-- the places of both
abbrev pub union : Sketch → Sketch → Sketch
union a b =
    record {
      from_0 = bit_or a.from_0 b.from_0;
      from_64 = bit_or a.from_64 b.from_64;
      from_128 = bit_or a.from_128 b.from_128;
      from_192 = bit_or a.from_192 b.from_192;
    }

-- the first has each place that the second has
abbrev pub Covers : Sketch → Sketch → Type 0
Covers all some = union all some ≡ all

-- the place of a pair of bytes
abbrev pub place_of : ℕ → ℕ → ℕ
place_of first second = (first * 11 + second) % 256

-- the bit of a place in the word whose places start there
abbrev pub bit_from : ℕ → ℕ → ℕ
bit_from start place = if place / 64 * 64 == start then 2 ^ (place % 64) else 0

-- one place
abbrev pub at_place : ℕ → Sketch
at_place place =
    record {
      from_0 = bit_from 0 place;
      from_64 = bit_from 64 place;
      from_128 = bit_from 128 place;
      from_192 = bit_from 192 place;
    }

-- the pairs of bytes that stand behind one
abbrev pub sketch_behind : ℕ → List ℕ → Sketch
sketch_behind first [] = nothing
sketch_behind first (second ∷ bytes) =
    union (at_place (place_of first second)) (sketch_behind second bytes)

-- the pairs of neighbouring bytes of a text
abbrev pub sketch_of : List ℕ → Sketch
sketch_of [] = nothing
sketch_of (byte ∷ bytes) = sketch_behind byte bytes
