-- Queries that the views of pages decide, and the views that each of them takes.
use Rattle.std.specs.Prelude.{ℕ, ◌==◌, ◌&&◌, ◌||◌, not, Bool, true, false, List, length, nat_eq}
use Rattle.std.specs.Prelude.{Option, Some, None, is_some, if◌then◌else◌}
use Rattle.std.specs.Char.{is_ascii_digit}
use Rattle.std.specs.List.{list_all, list_any, slice_split, starts_with}
use Rattle.std.specs.Option.{is_none}
use Rattle.url.specs.Input.{rsplit_once}
use Rattle.pl_base.specs.declared.view.View.{View}
use Rattle.pl_base.specs.Fold.{folded}
use Rattle.pl_words.specs.Pieces.{occurs, searched}
use Rattle.pl_words.specs.TagLists.{is_same_tag}
use Rattle.pl_place.specs.declared.kinds.QueryType.{QueryType}
use Rattle.pl_place.specs.declared.kinds.QueryType.TheVariants.{History, Bookmarks}
use Rattle.pl_place.specs.declared.kinds.ResultType.{ResultType}
use Rattle.pl_place.specs.declared.kinds.ResultType.TheVariants.{Pages, Visits}
use Rattle.pl_place.specs.declared.query.Query.{Query}
use Rattle.pl_place.specs.declared.sort.Sort.{Sort}
use Rattle.pl_place.specs.declared.sort.Sort.TheVariants.{Unsorted, By}
use Rattle.pl_place.specs.declared.sort.SortKey.{SortKey}
use Rattle.pl_place.specs.declared.sort.SortKey.TheVariants.{Title, Date, Url, VisitCount}
use Rattle.pl_place.specs.declared.sort.SortKey.TheVariants.{Added, Modified, Tags, Frecency}
use Rattle.pl_place.specs.PlaceText.{place_prefix}
use Rattle.pl_conditions.specs.AskedParts.{is_count_asked}
use Rattle.pl_conditions.specs.Conditions.{is_host_in, is_uri, words_asked}

-- ---- which queries

-- pages of history are asked for
abbrev pub asks_for_pages : QueryType → ResultType → Bool
asks_for_pages History Pages = true
asks_for_pages History Visits = false
asks_for_pages Bookmarks result_type = false

-- the key is a date of bookmarks, which no view has
abbrev pub is_mark_date : SortKey → Bool
is_mark_date Title = false
is_mark_date Date = false
is_mark_date Url = false
is_mark_date VisitCount = false
is_mark_date Added = true
is_mark_date Modified = true
is_mark_date Tags = false
is_mark_date Frecency = false

-- rows stand by a date of bookmarks
abbrev pub is_by_mark_date : Sort → Bool
is_by_mark_date Unsorted = false
is_by_mark_date (By key direction) = is_mark_date key

-- a query that the views of pages decide: of pages of history, with no condition on the dates of
-- visits, on their transitions or on folders, and in no order by the dates of bookmarks
abbrev pub is_watchable : Query → Bool
is_watchable q =
    asks_for_pages q.query_type q.result_type && is_none q.begin_time && is_none q.end_time
    && (length q.transitions == 0) && (length q.parents == 0) && not (is_by_mark_date q.sort)

-- ---- conditions for which nothing is folded

-- what stands before a last `:`, where digits alone stand behind it, and else the whole
abbrev pub before_port : List ℕ → Option (List ℕ) → List ℕ → List ℕ
before_port host None port = host
before_port host (Some name) port = if list_all is_ascii_digit port then name else host

-- a host without its port
abbrev pub host_alone : List ℕ → List ℕ
host_alone host = before_port host (rsplit_once 58 host).0 (rsplit_once 58 host).1

-- the host, which may have a port, lies in the domain, if there is one
abbrev pub is_host_asked : Option (List ℕ) → Bool → List ℕ → Bool
is_host_asked None is_host host = true
is_host_asked (Some domain) is_host host = is_host_in domain is_host (host_alone host)

-- the page was visited, and its `visit_count` and its marks are as the query asks
abbrev pub has_marks_asked : Query → View → Bool
has_marks_asked q v =
    is_some v.last && is_count_asked q v.count && (not q.only_bookmarked || v.bookmarked)
    && (q.include_hidden || not v.hidden)

-- its URL is as the query asks
abbrev pub has_url_asked : Query → View → Bool
has_url_asked q v =
    is_uri q.uri v.url && is_host_asked q.domain q.domain_is_host v.host
    && (not q.exclude_queries || not (starts_with nat_eq v.url place_prefix))

-- both are
abbrev pub holds_unfolded : Query → View → Bool
holds_unfolded q v = has_marks_asked q v && has_url_asked q v

-- ---- words and tags

-- the word stands in the page's title, its address or its tags
abbrev pub has_word_in : View → List ℕ → Bool
has_word_in v word =
    occurs word (folded v.title) || occurs word (searched v.url v.prefix)
    || occurs word (folded v.tags)

-- the names that a text joins by commas
abbrev pub comma_split : List ℕ → List (List ℕ)
comma_split text = slice_split (λ b. b == 44) text

-- a tag of this name is one of those that the text joins; the empty text joins none
abbrev pub is_tag_in : List ℕ → List ℕ → Bool
is_tag_in text name = not (length text == 0) && list_any (is_same_tag name) (comma_split text)

-- all tags are in the text, or none of them where that is asked
abbrev pub are_tags_in : List (List ℕ) → Bool → List ℕ → Bool
are_tags_in tags false text = list_all (is_tag_in text) tags
are_tags_in tags true text = list_all (λ name. not (is_tag_in text name)) tags

-- ---- the whole

-- a query takes a view: each of its conditions, read off the view
abbrev pub decides : Query → View → Bool
decides q v =
    holds_unfolded q v && are_tags_in q.tags q.not_tags v.tags
    && list_all (has_word_in v) (words_asked q.terms)
