-- The word that a line begins with, byte by byte.
use Rattle.std.proofs.Common.{◌≡◌, ◌+◌, ℕ, List, [], ◌∷◌, length, get_or, drop, drop-cons, ap, sym, arith, add-one}
use Rattle.std.proofs.lemmas.List.{drop_all}
use Rattle.pl_script.specs.Script.{word_of}

-- these bytes stand from a place on, and nothing behind them
abbrev pub EndsIn : List ℕ → ℕ → List ℕ → Type 0
EndsIn field i [] = length field ≡ i
EndsIn field i (b ∷ bytes) = (get_or field i 0 ≡ b) × EndsIn field (i + 1) bytes

long : (field : List ℕ) (i : ℕ) (bytes : List ℕ) → EndsIn field i bytes → length field ≡ i + length bytes
long field i [] ends = omega (arith, ends)
long field i (b ∷ bytes) ends = let more = long field (i + 1) bytes ends.1 in omega arith

back : (field : List ℕ) (i : ℕ) (bytes : List ℕ) → EndsIn field i bytes → drop i field ≡ bytes
back field i [] ends = drop_all i field (omega (arith, ends))
back field i (b ∷ bytes) ends =
    let length_is = long field i (b ∷ bytes) ends in
    rw (drop-cons field i 0 (omega arith))
    (rw (ends.0, ← add-one i) (ap (λ more. b ∷ more) (back field (i + 1) bytes ends.1)))

pub is_word : (field bytes : List ℕ) → EndsIn field 0 bytes → word_of bytes ≡ word_of field
is_word field bytes ends = ap word_of (sym (back field 0 bytes ends))
