-- Worked rows of folds, after CaseFolding.txt of the Unicode Standard. Letters are by their bytes.
use Rattle.std.proofs.Common.{◌≡◌, ◌++◌, [], ◌∷◌, map, refl}
use Rattle.std.specs.Prelude.{codes}
use lib.Utf8.{encode}
use Rattle.std.specs.Str.{chars}
use Rattle.caseless.proofs.Computing.{caseless}
use Rattle.pl_base.specs.Fold.{folded}

empty : folded [] ≡ []
unfolding caseless chars encode
empty = refl

-- Straße, and the same in capitals
sharp_s : map folded ((codes "Stra" ++ 195 ∷ 159 ∷ codes "e") ∷ codes "STRASSE" ∷ [])
    ≡ codes "strasse" ∷ codes "strasse" ∷ []
unfolding caseless chars encode
sharp_s = refl

-- U+1E9E, the capital of U+00DF
capital_sharp_s : folded (225 ∷ 186 ∷ 158 ∷ []) ≡ codes "ss"
unfolding caseless chars encode
capital_sharp_s = refl

-- U+03A3, U+03C3 and U+03C2: the capital sigma, the medial and the final
sigmas : map folded ((206 ∷ 163 ∷ []) ∷ (207 ∷ 131 ∷ []) ∷ (207 ∷ 130 ∷ []) ∷ [])
    ≡ (207 ∷ 131 ∷ []) ∷ (207 ∷ 131 ∷ []) ∷ (207 ∷ 131 ∷ []) ∷ []
unfolding caseless chars encode
sigmas = refl

-- U+0131 stays as it is
dotless_i : folded (196 ∷ 177 ∷ []) ≡ 196 ∷ 177 ∷ []
unfolding caseless chars encode
dotless_i = refl

-- U+0130 gives an i and U+0307, the dot above it
dotted_capital_i : folded (196 ∷ 176 ∷ []) ≡ 105 ∷ 204 ∷ 135 ∷ []
unfolding caseless chars encode
dotted_capital_i = refl

-- U+AB70 gives U+13A0: small letters of Cherokee fold to the capitals
cherokee : folded (234 ∷ 173 ∷ 176 ∷ []) ≡ 225 ∷ 142 ∷ 160 ∷ []
unfolding caseless chars encode
cherokee = refl

-- U+0390 gives U+03B9, U+0308 and U+0301
iota_with_marks : folded (206 ∷ 144 ∷ []) ≡ 206 ∷ 185 ∷ 204 ∷ 136 ∷ 204 ∷ 129 ∷ []
unfolding caseless chars encode
iota_with_marks = refl

-- U+FB03
ligature : folded (239 ∷ 172 ∷ 131 ∷ []) ≡ codes "ffi"
unfolding caseless chars encode
ligature = refl
