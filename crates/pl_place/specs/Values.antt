-- What the value of a key stands for, its escapes decoded.
use Rattle.std.specs.Prelude.{ℕ, ℤ, pos, negsuc, neg_ℤ, ◌-◌, ◌^◌, ◌==◌, ◌||◌, Bool, true, false}
use Rattle.std.specs.Prelude.{List, [], ◌∷◌, bytes_eq, codes, length, map, nat_le, nat_lt}
use Rattle.std.specs.Prelude.{Option, Some, None, is_some, if◌then◌else◌}
use Rattle.std.specs.Char.{to_ascii_lowercase}
use Rattle.std.specs.List.{find}
use Rattle.std.specs.Option.{option_and_then, option_map}
use Rattle.std.specs.Str.{is_utf8}
use Rattle.pl_base.specs.declared.id.ItemId.{ItemId}
use Rattle.pl_base.specs.declared.transition.Transition.{Transition}
use Rattle.pl_base.specs.Address.{canon}
use Rattle.pl_base.specs.NumberText.{number_32_of, number_of}
use Rattle.pl_base.specs.Store.{item_id}
use Rattle.pl_base.specs.Transition.{transition_at}
use Rattle.pl_words.specs.TagName.{tag_named}
use Rattle.pl_place.specs.Kinds.{query_type_at, result_type_at, sort_at, time_ref_at}
use Rattle.pl_place.specs.declared.key.Key.{Key}
use Rattle.pl_place.specs.declared.key.Key.TheVariants as key
use Rattle.pl_place.specs.declared.kinds.QueryType.{QueryType}
use Rattle.pl_place.specs.declared.kinds.ResultType.{ResultType}
use Rattle.pl_place.specs.declared.kinds.TimeRef.{TimeRef}
use Rattle.pl_place.specs.declared.sort.Sort.{Sort}

-- ---- numbers

-- the number, where it is one of so many bits with a sign
abbrev pub positive : ℕ → ℕ → Option ℤ
positive bits n = if nat_lt n (2 ^ (bits - 1)) then Some (pos n) else None

-- the same of the number below 0
abbrev pub negative : ℕ → ℕ → Option ℤ
negative bits n = if nat_le n (2 ^ (bits - 1)) then Some (neg_ℤ (pos n)) else None

-- a number of so many bits with a sign: one with or without a `-` before it
abbrev pub signed_of : ℕ → List ℕ → Option ℤ
signed_of bits [] = None
signed_of bits (b ∷ text) =
    if b == 45 then option_and_then (negative bits) (number_of text)
    else option_and_then (positive bits) (number_of (b ∷ text))

-- a time is a number of microseconds
abbrev pub time_of : List ℕ → Option ℤ
time_of text = signed_of 64 text

-- a number of visits; one below 0 is no condition
abbrev pub count_of : List ℕ → Option ℤ
count_of text = signed_of 32 text

-- the condition that such a number is, if it is one
abbrev pub count_asked : ℤ → Option ℕ
count_asked (pos n) = Some n
count_asked (negsuc n) = None

-- what has a number
abbrev pub time_ref_of : List ℕ → Option TimeRef
time_ref_of text = option_and_then time_ref_at (number_of text)

abbrev pub transition_of : List ℕ → Option Transition
transition_of text = option_and_then transition_at (number_of text)

abbrev pub sort_of : List ℕ → Option Sort
sort_of text = option_and_then sort_at (number_of text)

abbrev pub result_type_of : List ℕ → Option ResultType
result_type_of text = option_and_then result_type_at (number_of text)

abbrev pub query_type_of : List ℕ → Option QueryType
query_type_of text = option_and_then query_type_at (number_of text)

-- ---- texts

-- a truth value: `1` and `true`, or `0` and `false`
abbrev pub truth_of : List ℕ → Option Bool
truth_of text =
    if bytes_eq text (codes "1") || bytes_eq text (codes "true") then Some true else
    if bytes_eq text (codes "0") || bytes_eq text (codes "false") then Some false else None

-- any text that is UTF-8
abbrev pub text_of : List ℕ → Option (List ℕ)
text_of text = if is_utf8 text then Some text else None

-- the words that are looked for; an empty text is no condition
abbrev pub terms_asked : List ℕ → Option (List ℕ)
terms_asked text = if length text == 0 then None else Some text

-- a domain, its letters of ASCII in lower case
abbrev pub domain_of : List ℕ → Option (List ℕ)
domain_of text = option_map (map to_ascii_lowercase) (text_of text)

-- a URL of the store
abbrev pub uri_of : List ℕ → Option (List ℕ)
uri_of text = option_and_then canon (text_of text)

-- the names of the roots, after the GUIDs of Mozilla Places
abbrev pub root_names : List (List ℕ × ItemId)
root_names =
    (codes "root________", item_id 1) ∷ (codes "menu________", item_id 2)
    ∷ (codes "toolbar_____", item_id 3) ∷ (codes "tags________", item_id 4)
    ∷ (codes "unfiled_____", item_id 5) ∷ (codes "mobile______", item_id 6) ∷ []

-- the root with this name
abbrev pub root_named : List ℕ → Option ItemId
root_named text = option_map (λ row. row.1) (find (λ row. bytes_eq row.0 text) root_names)

-- a folder: the name of a root, or an id
abbrev pub parent_of : List ℕ → Option ItemId
parent_of text =
    if is_some (root_named text) then root_named text else option_map item_id (number_32_of text)

-- ---- by key

-- the value is of the form of its key
abbrev pub is_value : Key → List ℕ → Bool
is_value key.BeginTime text = is_some (time_of text)
is_value key.BeginTimeRef text = is_some (time_ref_of text)
is_value key.EndTime text = is_some (time_of text)
is_value key.EndTimeRef text = is_some (time_ref_of text)
is_value key.Terms text = is_some (text_of text)
is_value key.MinVisits text = is_some (count_of text)
is_value key.MaxVisits text = is_some (count_of text)
is_value key.OnlyBookmarked text = is_some (truth_of text)
is_value key.DomainIsHost text = is_some (truth_of text)
is_value key.Domain text = is_some (domain_of text)
is_value key.Uri text = is_some (uri_of text)
is_value key.Parent text = is_some (parent_of text)
is_value key.Tag text = is_some (tag_named text)
is_value key.NotTags text = is_some (truth_of text)
is_value key.Transition text = is_some (transition_of text)
is_value key.Sort text = is_some (sort_of text)
is_value key.Type text = is_some (result_type_of text)
is_value key.QueryType text = is_some (query_type_of text)
is_value key.IncludeHidden text = is_some (truth_of text)
is_value key.MaxResults text = is_some (number_32_of text)
is_value key.ExcludeQueries text = is_some (truth_of text)
