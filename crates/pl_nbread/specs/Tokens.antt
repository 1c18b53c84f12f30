-- The tokens of a bookmark file: its text, and its tags with their attributes. Comments and other
-- declarations are passed over, and so is a tag that the text's end cuts off.
use Rattle.std.specs.Prelude.{ℕ, zero, suc, ◌+◌, ◌-◌, ◌==◌, ◌||◌, Bool, true, false}
use Rattle.std.specs.Prelude.{List, [], ◌∷◌, ◌++◌, codes, drop, length, nat_eq}
use Rattle.std.specs.Prelude.{Option, Some, None, if◌then◌else◌}
use Rattle.std.specs.Char.{is_ascii_alphabetic}
use Rattle.std.specs.List.{before_first, position_or_len, starts_with}
use Rattle.std.specs.Option.{option_to_list}
use Rattle.pl_base.specs.Good.{is_blank}
use Rattle.pl_words.specs.TagName.{trimmed_front}

-- ---- parts of a text

-- what stands from the first byte on that passes the test
abbrev pub from_first : (ℕ → Bool) → List ℕ → List ℕ
from_first test text = drop (position_or_len test text) text

-- what stands behind it
abbrev pub behind_first : (ℕ → Bool) → List ℕ → List ℕ
behind_first test text = drop (position_or_len test text + 1) text

-- `<`
abbrev pub is_less : ℕ → Bool
is_less b = b == 60

-- `>`, which ends a tag
abbrev pub is_greater : ℕ → Bool
is_greater b = b == 62

-- the name of a tag goes up to a blank, `/` or `>`
abbrev pub ends_tag_name : ℕ → Bool
ends_tag_name b = is_blank b || (b == 47) || is_greater b

-- the name of an attribute goes up to one of these or `=`
abbrev pub ends_name : ℕ → Bool
ends_name b = ends_tag_name b || (b == 61)

-- a value without quotes goes up to a blank or `>`
abbrev pub ends_bare_value : ℕ → Bool
ends_bare_value b = is_blank b || is_greater b

-- between attributes blanks, `/` and `=` are passed over
abbrev pub is_stray : ℕ → Bool
is_stray b = is_blank b || (b == 47) || (b == 61)

-- a value in quotes goes up to the same quote
abbrev pub is_quote : ℕ → Bool
is_quote b = (b == 34) || (b == 39)

-- ---- attributes

-- an attribute, its value empty where it has none
pub record Attribute : Type 0 where
  pub name : List ℕ
  pub value : List ℕ

-- something that was read, and what stands behind it
pub record Read (A : Type 0) : Type 0 where
  pub what : A
  pub behind : List ℕ

-- a value at the front of a text
abbrev pub value_at : List ℕ → Read (List ℕ)
value_at [] = record { what = []; behind = [] }
value_at (b ∷ text) =
    if is_quote b
    then record { what = before_first (nat_eq b) text; behind = behind_first (nat_eq b) text }
    else record {
      what = before_first ends_bare_value (b ∷ text);
      behind = from_first ends_bare_value (b ∷ text);
    }

-- the value that follows a name: behind a `=`, with or without blanks around it
abbrev pub value_behind : List ℕ → Read (List ℕ)
value_behind text =
    if starts_with nat_eq (trimmed_front text) (61 ∷ [])
    then value_at (trimmed_front (drop 1 (trimmed_front text)))
    else record { what = []; behind = text }

-- an attribute at the front of a text
abbrev pub attribute_at : List ℕ → Read Attribute
attribute_at text =
    let value = value_behind (from_first ends_name text) in
    record {
      what = record { name = before_first ends_name text; value = value.what };
      behind = value.behind;
    }

-- one more attribute in front
abbrev pub with_attribute : Attribute → Option (Read (List Attribute))
    → Option (Read (List Attribute))
with_attribute attribute None = None
with_attribute attribute (Some more) =
    Some (record { what = attribute ∷ more.what; behind = more.behind })

-- the attributes of a tag, up to its `>`; none where the text ends before. `n` bytes more belong to
-- what was read last
abbrev pub attributes_from : ℕ → List ℕ → Option (Read (List Attribute))
attributes_from n [] = None
attributes_from (suc n) (b ∷ text) = attributes_from n text
attributes_from zero (b ∷ text) =
    elim (is_greater b) [
      | true ↦ Some (record { what = []; behind = text })
      | false ↦ elim (is_stray b) [
        | true ↦ attributes_from 0 text
        | false ↦ let read = attribute_at (b ∷ text) in
            with_attribute read.what (attributes_from (length text - length read.behind) text)
      ]
    ]

abbrev pub attributes : List ℕ → Option (Read (List Attribute))
attributes text = attributes_from 0 text

-- ---- tokens

pub data Token : Type 0 where
  -- `<NAME ..>`
  Open : List ℕ → List Attribute → Token
  -- `</NAME ..>`
  Close : List ℕ → Token
  Text : List ℕ → Token

-- what is passed over
abbrev pub passed : List ℕ → Read (Option Token)
passed behind = record { what = None; behind = behind }

-- a tag with its name and these attributes; nothing where the text's end cuts it off
abbrev pub tag_with : (List Attribute → Token) → Option (Read (List Attribute))
    → Read (Option Token)
tag_with tag None = passed []
tag_with tag (Some read) = record { what = Some (tag read.what); behind = read.behind }

-- a tag, from its name on
abbrev pub tag_at : (List ℕ → List Attribute → Token) → List ℕ → Read (Option Token)
tag_at tag text =
    tag_with (tag (before_first ends_tag_name text)) (attributes (from_first ends_tag_name text))

-- what stands behind a comment, which goes up to `-->`
abbrev pub behind_comment : List ℕ → List ℕ
behind_comment [] = []
behind_comment (b ∷ text) =
    if starts_with nat_eq (b ∷ text) (codes "-->") then drop 2 text else behind_comment text

abbrev pub begins_with_letter : List ℕ → Bool
begins_with_letter [] = false
begins_with_letter (b ∷ text) = is_ascii_alphabetic b

-- what `</` begins: a tag, or something up to the next `>` that is passed over
abbrev pub end_at : List ℕ → Read (Option Token)
end_at text =
    elim (begins_with_letter text) [
      | true ↦ tag_at (λ name attributes. Close name) text
      | false ↦ passed (behind_first is_greater text)
    ]

-- what `<!` begins: a comment, or something up to the next `>`; both are passed over
abbrev pub declaration_at : List ℕ → Read (Option Token)
declaration_at text =
    elim (starts_with nat_eq text (codes "--")) [
      | true ↦ passed (behind_comment (drop 2 text))
      | false ↦ passed (behind_first is_greater text)
    ]

-- what `<` begins with this byte behind it: where it begins nothing, it is text itself
abbrev pub less_at : ℕ → List ℕ → Read (Option Token)
less_at b text =
    elim (b == 33) [
      | true ↦ declaration_at text
      | false ↦
          elim (b == 47) [
            | true ↦ end_at text
            | false ↦
                elim (is_ascii_alphabetic b) [
                  | true ↦ tag_at Open (b ∷ text)
                  | false ↦
                      record { what = Some (Text (60 ∷ [])); behind = b ∷ text }
                ]
          ]
    ]

abbrev pub tag_or_text : List ℕ → Read (Option Token)
tag_or_text [] = record { what = Some (Text (60 ∷ [])); behind = [] }
tag_or_text (b ∷ text) = less_at b text

-- what stands at the front of a text with this first byte: text goes up to the next `<`
abbrev pub front : ℕ → List ℕ → Read (Option Token)
front b text =
    elim (is_less b) [
      | true ↦ tag_or_text text
      | false ↦ record {
        what = Some (Text (before_first is_less (b ∷ text)));
        behind = from_first is_less (b ∷ text);
      }
    ]

-- the tokens of a text, of which `n` bytes more belong to what was read last
abbrev pub tokens_from : ℕ → List ℕ → List Token
tokens_from n [] = []
tokens_from (suc n) (b ∷ text) = tokens_from n text
tokens_from zero (b ∷ text) =
    let read = front b text in
    option_to_list read.what ++ tokens_from (length text - length read.behind) text

abbrev pub tokens : List ℕ → List Token
tokens text = tokens_from 0 text
