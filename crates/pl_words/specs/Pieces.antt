-- The words of a text, and where a word stands in one.
use Rattle.std.specs.Prelude.{ℕ, ◌==◌, ◌&&◌, ◌||◌, not, Bool, true, false, List, [], ◌∷◌}
use Rattle.std.specs.Prelude.{◌-◌, map, length, Ok, Err, slice_index}
use Rattle.std.specs.Prelude.{chars, drop, encode_utf8_all, nat_eq, if◌then◌else◌}
use Rattle.std.specs.Char.{is_ascii_alphabetic, is_whitespace}
use Rattle.std.specs.List.{filter, slice_split, starts_with}
use Rattle.std.specs.Str.Lossy.{utf8_lossy}
use Rattle.percent_encoding.specs.Percent.{percent_decode}
use Rattle.url.specs.Parser.{Parsed}
use Rattle.url.specs.Parts.{Parts}
use Rattle.pl_base.specs.Address.{prefix, record_of}
use Rattle.pl_base.specs.Fold.{folded}
use Rattle.pl_words.specs.declared.stands.Standing.{Standing}
use Rattle.pl_words.specs.declared.stands.Standing.TheVariants.{Boundary, Inside, Nowhere}

-- the words of a text: what stands between its white space, as Unicode has it
abbrev pub pieces : List ℕ → List (List ℕ)
pieces text =
    map encode_utf8_all
    (filter (λ (word : List ℕ). not (length word == 0)) (slice_split is_whitespace (chars text)))

-- the word stands somewhere in the text
abbrev pub occurs : List ℕ → List ℕ → Bool
occurs word [] = starts_with nat_eq [] word
occurs word (b ∷ text) = starts_with nat_eq (b ∷ text) word || occurs word text

-- the word begins in the text at its front, if that is said to be a boundary, or behind a byte that
-- is no ASCII letter
abbrev pub occurs_behind : Bool → List ℕ → List ℕ → Bool
occurs_behind boundary word [] = boundary && starts_with nat_eq [] word
occurs_behind boundary word (b ∷ text) =
    (boundary && starts_with nat_eq (b ∷ text) word)
    || occurs_behind (not (is_ascii_alphabetic b)) word text

-- the word begins at the front of the text, or behind a byte that is no ASCII letter
abbrev pub on_boundary : List ℕ → List ℕ → Bool
on_boundary word text = occurs_behind true word text

-- the word stands in the text, on a boundary where that is asked
abbrev pub found : Bool → List ℕ → List ℕ → Bool
found boundary word text = if boundary then on_boundary word text else occurs word text

-- the place is at the front of the text, or behind a byte that is no ASCII letter
abbrev pub is_boundary : List ℕ → ℕ → Bool
is_boundary text place = (place == 0) || not (is_ascii_alphabetic (slice_index text (place - 1)))

-- how well the word stands in the text
abbrev pub standing : List ℕ → List ℕ → Standing
standing word text =
    if found true word text then Boundary else if found false word text then Inside else Nowhere

-- a URL as it is searched: without its prefix, its percent-escapes decoded, with U+FFFD for what is
-- no UTF-8 then, and folded
abbrev pub searched : List ℕ → List ℕ → List ℕ
searched url prefix = folded (utf8_lossy (percent_decode (drop (length prefix) url)))

-- the word stands in the URL with this record as it is searched; a text that is no URL has none
abbrev in_record : Bool → List ℕ → List ℕ → Parsed Parts → Bool
in_record boundary word url (Ok parts) = found boundary word (searched url (prefix parts))
in_record boundary word url (Err e) = false

-- the word stands in the URL as it is searched
abbrev pub in_address : Bool → List ℕ → List ℕ → Bool
in_address boundary word url = in_record boundary word url (record_of url)
