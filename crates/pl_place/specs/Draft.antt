-- What is gathered from the pieces of a text, one after another.
use Rattle.std.specs.Prelude.{◌≡◌, ℕ, List, ◌++◌, Option, Some, None, drop, false, length, nat_eq}
use Rattle.std.specs.Prelude.{true, if◌then◌else◌}
use Rattle.std.specs.Option.{option_to_list}
use Rattle.std.specs.List.{starts_with}
use Rattle.pl_base.specs.NumberText.{number_32_of}
use Rattle.pl_words.specs.TagName.{tag_named}
use Rattle.pl_place.specs.declared.draft.Draft.{Draft}
use Rattle.pl_place.specs.declared.key.Key.{Key}
use Rattle.pl_place.specs.declared.key.Key.TheVariants as key
use Rattle.pl_place.specs.PlaceText.{Piece, all_told, first_bad, is_key, told}
use Rattle.pl_place.specs.Values.{count_of, domain_of, parent_of, query_type_of, result_type_of}
use Rattle.pl_place.specs.Values.{sort_of, text_of, time_of, time_ref_of, transition_of, truth_of}
use Rattle.pl_place.specs.Values.{uri_of}

-- what is told of a key, where a piece with another key leaves it as it was
abbrev pub told_now : {A : Type 0} → Key → Key → Option A → Option A → Option A
told_now k of new old = if is_key k of then new else old

-- the same of a key that gathers its values
abbrev pub told_too : {A : Type 0} → Key → Key → Option A → List A → List A
told_too k of new old = if is_key k of then old ++ option_to_list new else old

-- a draft with one piece more, which has this key and this value
abbrev pub with_value : Key → List ℕ → Draft → Draft
with_value k text d =
    record {
      begin_time = told_now key.BeginTime k (time_of text) d.begin_time;
      begin_ref = told_now key.BeginTimeRef k (time_ref_of text) d.begin_ref;
      end_time = told_now key.EndTime k (time_of text) d.end_time;
      end_ref = told_now key.EndTimeRef k (time_ref_of text) d.end_ref;
      terms = told_now key.Terms k (text_of text) d.terms;
      min_visits = told_now key.MinVisits k (count_of text) d.min_visits;
      max_visits = told_now key.MaxVisits k (count_of text) d.max_visits;
      only_bookmarked = told_now key.OnlyBookmarked k (truth_of text) d.only_bookmarked;
      domain_is_host = told_now key.DomainIsHost k (truth_of text) d.domain_is_host;
      domain = told_now key.Domain k (domain_of text) d.domain;
      uri = told_now key.Uri k (uri_of text) d.uri;
      parents = told_too key.Parent k (parent_of text) d.parents;
      tags = told_too key.Tag k (tag_named text) d.tags;
      not_tags = told_now key.NotTags k (truth_of text) d.not_tags;
      transitions = told_too key.Transition k (transition_of text) d.transitions;
      sort = told_now key.Sort k (sort_of text) d.sort;
      result_type = told_now key.Type k (result_type_of text) d.result_type;
      query_type = told_now key.QueryType k (query_type_of text) d.query_type;
      include_hidden = told_now key.IncludeHidden k (truth_of text) d.include_hidden;
      max_results = told_now key.MaxResults k (number_32_of text) d.max_results;
      exclude_queries = told_now key.ExcludeQueries k (truth_of text) d.exclude_queries;
    }

-- a draft holds what these pieces say
pub record Holds (pieces : List Piece) (d : Draft) : Type 0 where
  pub begin_time : d.begin_time ≡ told time_of key.BeginTime pieces
  pub begin_ref : d.begin_ref ≡ told time_ref_of key.BeginTimeRef pieces
  pub end_time : d.end_time ≡ told time_of key.EndTime pieces
  pub end_ref : d.end_ref ≡ told time_ref_of key.EndTimeRef pieces
  pub terms : d.terms ≡ told text_of key.Terms pieces
  pub min_visits : d.min_visits ≡ told count_of key.MinVisits pieces
  pub max_visits : d.max_visits ≡ told count_of key.MaxVisits pieces
  pub only_bookmarked : d.only_bookmarked ≡ told truth_of key.OnlyBookmarked pieces
  pub domain_is_host : d.domain_is_host ≡ told truth_of key.DomainIsHost pieces
  pub domain : d.domain ≡ told domain_of key.Domain pieces
  pub uri : d.uri ≡ told uri_of key.Uri pieces
  pub parents : d.parents ≡ all_told parent_of key.Parent pieces
  pub tags : d.tags ≡ all_told tag_named key.Tag pieces
  pub not_tags : d.not_tags ≡ told truth_of key.NotTags pieces
  pub transitions : d.transitions ≡ all_told transition_of key.Transition pieces
  pub sort : d.sort ≡ told sort_of key.Sort pieces
  pub result_type : d.result_type ≡ told result_type_of key.Type pieces
  pub query_type : d.query_type ≡ told query_type_of key.QueryType pieces
  pub include_hidden : d.include_hidden ≡ told truth_of key.IncludeHidden pieces
  pub max_results : d.max_results ≡ told number_32_of key.MaxResults pieces
  pub exclude_queries : d.exclude_queries ≡ told truth_of key.ExcludeQueries pieces

-- a draft holds what these pieces say, and none of them is refused
pub record Gathers (pieces : List Piece) (d : Draft) : Type 0 where
  pub held : Holds pieces d
  pub taken : first_bad pieces ≡ None

-- what stands behind the front of a text, where it begins with that
abbrev pub StandsBehind : List ℕ → List ℕ → Option (List ℕ) → Type 0
StandsBehind front text None = starts_with nat_eq text front ≡ false
StandsBehind front text (Some rest) =
    (starts_with nat_eq text front ≡ true) × (rest ≡ drop (length front) text)
