-- How a bookmark file begins, and where bytes are refused that are none.
use Rattle.std.specs.Prelude.{ℕ, ◌-◌, Bool, List, [], ◌∷◌, bytes_eq, codes, drop, length, map}
use Rattle.std.specs.Prelude.{nat_eq, take, Option, Some, None, if◌then◌else◌}
use Rattle.std.specs.Char.{to_ascii_lowercase}
use Rattle.std.specs.List.{starts_with}
use Rattle.std.specs.Str.{is_utf8}
use Rattle.std.specs.Str.Lossy.{utf8_valid_len}
use Rattle.pl_words.specs.TagName.{trimmed_front}

-- U+FEFF, which may stand in front
abbrev pub byte_order_mark : List ℕ
byte_order_mark = 239 ∷ 187 ∷ 191 ∷ []

abbrev pub behind_mark : List ℕ → List ℕ
behind_mark bytes = if starts_with nat_eq bytes byte_order_mark then drop 3 bytes else bytes

abbrev pub doctype : List ℕ
doctype = codes "<!DOCTYPE NETSCAPE-Bookmark-file-1>"

-- a text with its letters of ASCII in lower case
abbrev pub lowered : List ℕ → List ℕ
lowered text = map to_ascii_lowercase text

-- a text begins with the doctype, its letters of either case
abbrev pub has_doctype : List ℕ → Bool
has_doctype text = bytes_eq (lowered (take (length doctype) text)) (lowered doctype)

-- what stands from the doctype on, if it is there: behind the mark and blanks
abbrev pub from_doctype : List ℕ → List ℕ
from_doctype bytes = trimmed_front (behind_mark bytes)

-- where bytes are refused: at the first that is no character, or where the doctype is missing
abbrev pub offset : List ℕ → Option ℕ
offset bytes =
    if is_utf8 bytes
    then if has_doctype (from_doctype bytes) then None
    else Some (length bytes - length (from_doctype bytes))
    else Some (utf8_valid_len bytes)

-- what stands behind the doctype
abbrev pub body : List ℕ → List ℕ
body bytes = drop (length doctype) (from_doctype bytes)

-- a file has fewer bytes
abbrev pub file_limit : ℕ
file_limit = 16_777_216
