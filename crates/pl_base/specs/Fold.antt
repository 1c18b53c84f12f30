-- Texts that are compared without regard to case.
use Rattle.std.specs.Prelude.{ℕ, List, chars, encode_utf8_all}
use Rattle.caseless.specs.Caseless.{default_case_fold}

-- the text with its case folded, by the default case folding of the Unicode Standard
abbrev pub folded : List ℕ → List ℕ
folded text = encode_utf8_all (default_case_fold (chars text))
