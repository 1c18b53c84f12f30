-- What a text of ASCII bytes folds to.
use Rattle.std.proofs.Common.{◌≡◌, ◌∙◌, ℕ, List, ap, map}
use Rattle.std.specs.Char.{to_ascii_lowercase}
use Rattle.std.specs.Str.{IsAscii, encode_utf8_all}
use Rattle.std.proofs.lemmas.Str.{chars-IsAscii, encodes-IsAscii}
use Rattle.std.proofs.lemmas.Str.Ascii.{IsAscii-map, lowercase_ascii}
use Rattle.caseless.proofs.CaselessLemmas.{All-chars, default_case_fold-ascii}
use Rattle.pl_base.specs.Fold.{folded}

pub folded_ascii : (text : List ℕ) → IsAscii text → folded text ≡ map to_ascii_lowercase text
folded_ascii text ascii =
    ap encode_utf8_all (default_case_fold-ascii _ (All-chars text ascii)
    ∙ ap (map to_ascii_lowercase) (chars-IsAscii text ascii))
    ∙ encodes-IsAscii (map to_ascii_lowercase text)
    (IsAscii-map to_ascii_lowercase text lowercase_ascii ascii)
