-- The canonical text of a query.
use Rattle.std.specs.Prelude.{◌≡◌, ◌↔◌, ℕ, ℤ, ◌==◌, ◌||◌, Bool, true, false, List, [], ◌∷◌, ◌++◌}
use Rattle.std.specs.Prelude.{map, codes}
use Rattle.std.specs.Prelude.{decimal, Option, Some, None, if◌then◌else◌}
use Rattle.std.specs.Char.{is_ascii_alphanumeric}
use Rattle.std.specs.Fmt.{signed_decimal}
use Rattle.std.specs.List.{flat_map, join_with_byte}
use Rattle.percent_encoding.specs.Percent.{percent_encode_byte}
use Rattle.pl_base.specs.declared.id.ItemId.{ItemId}
use Rattle.pl_base.specs.NumberText.{number_32_of}
use Rattle.pl_base.specs.declared.transition.Transition.{Transition}
use Rattle.pl_base.specs.Transition.{transition_number}
use Rattle.pl_place.specs.declared.key.Key.{Key}
use Rattle.pl_place.specs.declared.key.Key.TheVariants as key
use Rattle.pl_place.specs.declared.query.Query.{Query}
use Rattle.pl_place.specs.Keys.{key_name}
use Rattle.pl_place.specs.Kinds.{query_type_number, result_type_number, sort_number}
use Rattle.pl_place.specs.Kinds.{time_ref_number}
use Rattle.pl_place.specs.PlaceText.{Reads, place_prefix}
use Rattle.pl_place.specs.Values.{time_of}

-- ---- the pairs

-- the characters that are unreserved by RFC 3986: ASCII letters, digits, `-`, `_`, `.` and `~`
abbrev pub is_unreserved : ℕ → Bool
is_unreserved b =
    is_ascii_alphanumeric b || (b == 45) || (b == 95) || (b == 46) || (b == 126)

-- a value with each other byte escaped
abbrev pub escaped : List ℕ → List ℕ
escaped value = flat_map (λ b. if is_unreserved b then b ∷ [] else percent_encode_byte b) value

-- a key, `=` and a value
abbrev pub pair : Key → List ℕ → List ℕ
pair k value = key_name k ++ 61 ∷ escaped value

-- a pair where there is a value, and else none
abbrev pub if_there : Key → Option (List ℕ) → List (List ℕ)
if_there k None = []
if_there k (Some value) = pair k value ∷ []

-- a pair for each value
abbrev pub for_each : Key → List (List ℕ) → List (List ℕ)
for_each k values = map (pair k) values

-- a pair where a truth value is true
abbrev pub if_true : Key → Bool → List (List ℕ)
if_true k false = []
if_true k true = pair k (codes "1") ∷ []

-- a pair where a number is not 0
abbrev pub if_not_0 : Key → ℕ → List (List ℕ)
if_not_0 k n = if n == 0 then [] else pair k (decimal n) ∷ []

-- a time, if it is there
abbrev pub time_text : Option ℤ → Option (List ℕ)
time_text None = None
time_text (Some time) = Some (signed_decimal time)

-- a number, if it is there
abbrev pub number_text : Option ℕ → Option (List ℕ)
number_text None = None
number_text (Some n) = Some (decimal n)

-- the text of an id
abbrev pub id_text : ItemId → List ℕ
id_text id = decimal id.0

-- the text of a transition
abbrev pub transition_text : Transition → List ℕ
transition_text t = decimal (transition_number t)

-- the pairs of times
abbrev pub time_pairs : Query → List (List ℕ)
time_pairs q =
    if_there key.BeginTime (time_text q.begin_time)
    ++ if_not_0 key.BeginTimeRef (time_ref_number q.begin_ref)
    ++ if_there key.EndTime (time_text q.end_time)
    ++ if_not_0 key.EndTimeRef (time_ref_number q.end_ref)

-- the pairs of what a page is asked for
abbrev pub page_pairs : Query → List (List ℕ)
page_pairs q =
    if_there key.Terms q.terms
    ++ if_there key.MinVisits (number_text q.min_visits)
    ++ if_there key.MaxVisits (number_text q.max_visits)
    ++ if_true key.OnlyBookmarked q.only_bookmarked
    ++ if_true key.DomainIsHost q.domain_is_host
    ++ if_there key.Domain q.domain
    ++ if_there key.Uri q.uri

-- the pairs of what its bookmarks and visits are asked for
abbrev pub bookmark_pairs : Query → List (List ℕ)
bookmark_pairs q =
    for_each key.Parent (map id_text q.parents)
    ++ for_each key.Tag q.tags
    ++ if_true key.NotTags q.not_tags
    ++ for_each key.Transition (map transition_text q.transitions)

-- the pairs of how the answer is given
abbrev pub option_pairs : Query → List (List ℕ)
option_pairs q =
    if_not_0 key.Sort (sort_number q.sort)
    ++ if_not_0 key.Type (result_type_number q.result_type)
    ++ if_not_0 key.QueryType (query_type_number q.query_type)
    ++ if_true key.IncludeHidden q.include_hidden
    ++ if_not_0 key.MaxResults q.max_results
    ++ if_true key.ExcludeQueries q.exclude_queries

-- the pairs of a query, each where it says something
abbrev pub pairs : Query → List (List ℕ)
pairs q = time_pairs q ++ page_pairs q ++ bookmark_pairs q ++ option_pairs q

-- the canonical text: `place:` and the pairs, apart by `&`
abbrev pub canonical : Query → List ℕ
canonical q = place_prefix ++ join_with_byte 38 (pairs q)

-- a form reads a value's text as that value
abbrev pub ReadsBack : {A : Type 0} → (List ℕ → Option A) → (A → List ℕ) → A → Type 0
ReadsBack form text value = form (text value) ≡ Some value

-- the text of a time is read as that time
abbrev pub ReadsTime : ℤ → Type 0
ReadsTime time = ReadsBack time_of signed_decimal time

-- the text of an id is read as its number
abbrev pub ReadsId : ItemId → Type 0
ReadsId id = ReadsBack number_32_of decimal id.0

-- a text as it is
abbrev pub itself : List ℕ → List ℕ
itself text = text

-- a text reads as this query, and as no other
abbrev pub ReadsAlone : Query → List ℕ → Type 0
ReadsAlone q text = (r : Query) → Reads text r ↔ (r ≡ q)
