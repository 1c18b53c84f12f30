-- Which query a `place:` text reads as.
use Rattle.std.specs.Prelude.{◌≡◌, ℕ, ℤ, ◌+◌, ◌==◌, ◌&&◌, not, Bool, false, List, [], ◌∷◌}
use Rattle.std.specs.Prelude.{codes, drop, length, map, nat_eq, unwrap_or, bytes_eq}
use Rattle.std.specs.Prelude.{Option, Some, None, is_some, if◌then◌else◌}
use Rattle.std.specs.List.{filter, filter_map, find, list_any, prefix_len, slice_split, starts_with}
use Rattle.std.specs.List.{take_while}
use Rattle.std.specs.Option.{option_and_then, option_map}
use Rattle.percent_encoding.specs.Percent.{percent_decode}
use Rattle.pl_base.specs.declared.transition.Transition.{Transition}
use Rattle.pl_base.specs.NumberText.{number_32_of}
use Rattle.pl_base.specs.Transition.{transition_number, transitions}
use Rattle.pl_words.specs.TagLists.{firsts, is_same_tag}
use Rattle.pl_words.specs.TagName.{tag_named}
use Rattle.pl_place.specs.declared.key.Key.{Key}
use Rattle.pl_place.specs.declared.key.Key.TheVariants as key
use Rattle.pl_place.specs.declared.kinds.QueryType.TheVariants.{History}
use Rattle.pl_place.specs.declared.kinds.ResultType.TheVariants.{Pages}
use Rattle.pl_place.specs.declared.kinds.TimeRef.{TimeRef}
use Rattle.pl_place.specs.declared.kinds.TimeRef.TheVariants.{Epoch}
use Rattle.pl_place.specs.declared.query.Query.{Query}
use Rattle.pl_place.specs.declared.sort.Sort.TheVariants.{Unsorted}
use Rattle.pl_place.specs.Keys.{key_name, key_named}
use Rattle.pl_place.specs.QueryForm.{is_same_item}
use Rattle.pl_place.specs.Values.{count_asked, count_of, domain_of, is_value, parent_of}
use Rattle.pl_place.specs.Values.{query_type_of, result_type_of, sort_of, terms_asked, text_of}
use Rattle.pl_place.specs.Values.{time_of, time_ref_of, transition_of, truth_of, uri_of}

-- ---- pieces

-- what a text begins with that holds a query
abbrev pub place_prefix : List ℕ
place_prefix = codes "place:"

-- a piece with a key that is known: its number, its key, and its value with the escapes decoded
pub record Piece : Type 0 where
  pub number : ℕ
  pub key : Key
  pub value : List ℕ

-- a byte that is no `=`
abbrev pub is_no_equals : ℕ → Bool
is_no_equals b = not (b == 61)

-- what stands before the first `=` of a piece
abbrev pub key_text : List ℕ → List ℕ
key_text piece = take_while is_no_equals piece

-- what stands behind it; nothing where there is none
abbrev pub value_text : List ℕ → List ℕ
value_text piece = drop (prefix_len is_no_equals piece + 1) piece

-- the same with its escapes decoded
abbrev pub value_of : List ℕ → List ℕ
value_of piece = percent_decode (value_text piece)

-- texts with their numbers, from this one on
abbrev pub numbered : ℕ → List (List ℕ) → List (ℕ × List ℕ)
numbered n [] = []
numbered n (piece ∷ pieces) = (n, piece) ∷ numbered (n + 1) pieces

-- the piece with this number, where its key is known
abbrev pub piece_of : ℕ × List ℕ → Option Piece
piece_of piece =
    option_map (λ k. record { number = piece.0; key = k; value = value_of piece.1 })
    (key_named (key_text piece.1))

-- the pieces that have a key: what stands behind `place:` is cut at each `&`, and the pieces count
-- from 1 on
abbrev pub pieces_in : List ℕ → List Piece
pieces_in body = filter_map piece_of (numbered 1 (slice_split (λ b. b == 38) body))

-- the pieces of a text that have a key
abbrev pub pieces_of : List ℕ → List Piece
pieces_of text = pieces_in (drop (length place_prefix) text)

-- ---- what is refused

-- the value of a piece is not of the form of its key
abbrev pub is_bad : Piece → Bool
is_bad piece = not (is_value piece.key piece.value)

-- the number of the first such piece
abbrev pub first_bad : List Piece → Option ℕ
first_bad pieces = option_map (λ (piece : Piece). piece.number) (find is_bad pieces)

-- the same of a text; 0 where it does not begin as it has to
abbrev pub refused_piece : List ℕ → Option ℕ
refused_piece text =
    if starts_with nat_eq text place_prefix then first_bad (pieces_of text) else Some 0

-- ---- what is read

-- two keys are the same
abbrev pub is_key : Key → Key → Bool
is_key a b = bytes_eq (key_name a) (key_name b)

-- the values of a key, in their order
abbrev pub values : Key → List Piece → List (List ℕ)
values k pieces =
    map (λ (piece : Piece). piece.value) (filter (λ (piece : Piece). is_key k piece.key) pieces)

-- the last of some texts
abbrev pub last_text : List (List ℕ) → Option (List ℕ)
last_text [] = None
last_text (text ∷ []) = Some text
last_text (text ∷ more ∷ texts) = last_text (more ∷ texts)

-- what the last piece with this key says
abbrev pub told : {A : Type 0} → (List ℕ → Option A) → Key → List Piece → Option A
told form k pieces = option_and_then form (last_text (values k pieces))

-- what all pieces with this key say, in their order
abbrev pub all_told : {A : Type 0} → (List ℕ → Option A) → Key → List Piece → List A
all_told form k pieces = filter_map form (values k pieces)

-- the last piece with this key says `1` or `true`
abbrev pub is_told : Key → List Piece → Bool
is_told k pieces = unwrap_or (told truth_of k pieces) false

-- a reference, if its time is there
abbrev pub with_time : Option ℤ → Option TimeRef → TimeRef
with_time None reference = Epoch
with_time (Some time) reference = unwrap_or reference Epoch

-- the transition is one of these
abbrev pub is_among : List Transition → Transition → Bool
is_among told t = list_any (λ u. transition_number u == transition_number t) told

-- the transitions that are among these, by their numbers
abbrev pub by_number : List Transition → List Transition
by_number told = filter (is_among told) transitions

-- a text reads as a query: no piece is refused, of a key that gathers its values all count, and of
-- every other key the last. A reference without its time, and what is asked of a domain or of tags
-- that are none, say nothing
pub record Reads (text : List ℕ) (q : Query) : Type 0 where
  pub taken : refused_piece text ≡ None
  pub begin_time : q.begin_time ≡ told time_of key.BeginTime (pieces_of text)
  pub begin_ref :
      q.begin_ref ≡ with_time q.begin_time (told time_ref_of key.BeginTimeRef (pieces_of text))
  pub end_time : q.end_time ≡ told time_of key.EndTime (pieces_of text)
  pub end_ref : q.end_ref ≡ with_time q.end_time (told time_ref_of key.EndTimeRef (pieces_of text))
  pub terms : q.terms ≡ option_and_then terms_asked (told text_of key.Terms (pieces_of text))
  pub min_visits :
      q.min_visits ≡ option_and_then count_asked (told count_of key.MinVisits (pieces_of text))
  pub max_visits :
      q.max_visits ≡ option_and_then count_asked (told count_of key.MaxVisits (pieces_of text))
  pub only_bookmarked : q.only_bookmarked ≡ is_told key.OnlyBookmarked (pieces_of text)
  pub domain_is_host :
      q.domain_is_host ≡ (is_some q.domain && is_told key.DomainIsHost (pieces_of text))
  pub domain : q.domain ≡ told domain_of key.Domain (pieces_of text)
  pub uri : q.uri ≡ told uri_of key.Uri (pieces_of text)
  pub parents : q.parents ≡ firsts is_same_item (all_told parent_of key.Parent (pieces_of text))
  pub tags : q.tags ≡ firsts is_same_tag (all_told tag_named key.Tag (pieces_of text))
  pub not_tags :
      q.not_tags ≡ (not (length q.tags == 0) && is_told key.NotTags (pieces_of text))
  pub transitions :
      q.transitions ≡ by_number (all_told transition_of key.Transition (pieces_of text))
  pub sort : q.sort ≡ unwrap_or (told sort_of key.Sort (pieces_of text)) Unsorted
  pub result_type :
      q.result_type ≡ unwrap_or (told result_type_of key.Type (pieces_of text)) Pages
  pub query_type :
      q.query_type ≡ unwrap_or (told query_type_of key.QueryType (pieces_of text)) History
  pub include_hidden : q.include_hidden ≡ is_told key.IncludeHidden (pieces_of text)
  pub max_results :
      q.max_results ≡ unwrap_or (told number_32_of key.MaxResults (pieces_of text)) 0
  pub exclude_queries : q.exclude_queries ≡ is_told key.ExcludeQueries (pieces_of text)
