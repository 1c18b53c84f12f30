-- The query that a text reads as, or why it reads as none.
use Rattle.std.specs.Prelude.{◌==◌, ◌&&◌, ℕ, not, List, length, unwrap_or, Option, Some, None}
use Rattle.std.specs.Prelude.{is_some, Result, Ok, Err}
use Rattle.std.specs.Option.{option_and_then}
use Rattle.pl_base.specs.NumberText.{number_32_of}
use Rattle.pl_words.proofs.TagListLaws.{once-firsts}
use Rattle.pl_words.specs.TagLists.{firsts, is_same_tag}
use Rattle.pl_words.specs.TagName.{tag_named}
use Rattle.pl_place.specs.declared.key.Key.TheVariants as key
use Rattle.pl_place.specs.declared.kinds.QueryType.TheVariants.{History}
use Rattle.pl_place.specs.declared.kinds.ResultType.TheVariants.{Pages}
use Rattle.pl_place.specs.declared.query.Query.{Query}
use Rattle.pl_place.specs.declared.sort.Sort.TheVariants.{Unsorted}
use Rattle.pl_place.specs.FormLaws.{ascend-by_number, domain_formed, host_formed}
use Rattle.pl_place.specs.FormLaws.{tags_formed, terms_formed, timed, visits_formed}
use Rattle.pl_place.specs.PlaceText.{Piece, all_told, by_number, is_told, last_text}
use Rattle.pl_place.specs.PlaceText.{pieces_of, refused_piece, told, values, with_time}
use Rattle.pl_place.specs.QueryForm.{is_same_item}
use Rattle.pl_place.specs.Values.{count_asked, count_of, domain_of, parent_of, query_type_of}
use Rattle.pl_place.specs.Values.{result_type_of, sort_of, terms_asked, text_of, time_of}
use Rattle.pl_place.specs.Values.{time_ref_of, transition_of, uri_of}

-- what the pieces of a text say, part by part, with the proofs that each part has its form
abbrev pub query_of : List Piece → Query
query_of pieces =
    let begin = told time_of key.BeginTime pieces in
    let begin_ref = told time_ref_of key.BeginTimeRef pieces in
    let end = told time_of key.EndTime pieces in
    let end_ref = told time_ref_of key.EndTimeRef pieces in
    let terms = told text_of key.Terms pieces in
    let domain = told domain_of key.Domain pieces in
    let is_host = is_told key.DomainIsHost pieces in
    let parents = all_told parent_of key.Parent pieces in
    let tags = firsts is_same_tag (all_told tag_named key.Tag pieces) in
    let not_tags = is_told key.NotTags pieces in
    let transitions = all_told transition_of key.Transition pieces in
    record {
      begin_time = begin;
      begin_ref = with_time begin begin_ref;
      end_time = end;
      end_ref = with_time end end_ref;
      terms = option_and_then terms_asked terms;
      min_visits = option_and_then count_asked (told count_of key.MinVisits pieces);
      max_visits = option_and_then count_asked (told count_of key.MaxVisits pieces);
      only_bookmarked = is_told key.OnlyBookmarked pieces;
      domain_is_host = is_some domain && is_host;
      domain = domain;
      uri = told uri_of key.Uri pieces;
      parents = firsts is_same_item parents;
      tags = tags;
      not_tags = not (length tags == 0) && not_tags;
      transitions = by_number transitions;
      sort = unwrap_or (told sort_of key.Sort pieces) Unsorted;
      result_type = unwrap_or (told result_type_of key.Type pieces) Pages;
      query_type = unwrap_or (told query_type_of key.QueryType pieces) History;
      include_hidden = is_told key.IncludeHidden pieces;
      max_results = unwrap_or (told number_32_of key.MaxResults pieces) 0;
      exclude_queries = is_told key.ExcludeQueries pieces;
      begin_form = timed begin begin_ref;
      end_form = timed end end_ref;
      terms_form = terms_formed terms;
      min_form = visits_formed (last_text (values key.MinVisits pieces));
      max_form = visits_formed (last_text (values key.MaxVisits pieces));
      host_form = host_formed domain is_host;
      domain_form = domain_formed (last_text (values key.Domain pieces));
      parents_form = once-firsts is_same_item parents;
      tags_form = once-firsts is_same_tag (all_told tag_named key.Tag pieces);
      not_tags_form = tags_formed tags not_tags;
      transitions_form = ascend-by_number transitions;
    }

-- the query, or else the number of the piece that is refused
abbrev pub query_unless : Option ℕ → List Piece → Result Query ℕ
query_unless None pieces = Ok (query_of pieces)
query_unless (Some piece) pieces = Err piece

-- the query that a text reads as, or the number of the piece that is refused
abbrev pub read_as : List ℕ → Result Query ℕ
read_as text = query_unless (refused_piece text) (pieces_of text)
