-- The conditions of a query: of a date, of a page, and of a bookmark.
use Rattle.std.specs.Prelude.{ℕ, ℤ, pos, ◌+ℤ◌, ◌+◌, ◌-◌, ◌*◌, ◌==◌, ◌&&◌, ◌||◌, not, Bool}
use Rattle.std.specs.Prelude.{true, false, List, [], ◌∷◌, bytes_eq, int_le, length, nat_eq, nat_le}
use Rattle.std.specs.Prelude.{Option, Some, None, Ok, Err}
use Rattle.std.specs.List.{ends_with, list_all, list_any}
use Rattle.url.specs.Host.{host_text}
use Rattle.url.specs.Parser.{Parsed}
use Rattle.url.specs.Parts.{Parts, host_or_empty}
use Rattle.pl_base.specs.declared.date.Micros.{Micros}
use Rattle.pl_base.specs.declared.id.ItemId.{ItemId}
use Rattle.pl_base.specs.declared.id.PageId.{PageId}
use Rattle.pl_base.specs.declared.transition.Transition.{Transition}
use Rattle.pl_base.specs.Address.{is_place_url, record_of}
use Rattle.pl_base.specs.Date.{micros_per_day}
use Rattle.pl_base.specs.Fold.{folded}
use Rattle.pl_base.specs.Marks.{is_hidden, visit_count}
use Rattle.pl_base.specs.Store.{Store, Page, Visit, Item}
use Rattle.pl_base.specs.Tags.{has_tag, is_bookmarked, tag_text, tags_of}
use Rattle.pl_base.specs.Transition.{transition_number}
use Rattle.pl_base.specs.Tree.{parent_of}
use Rattle.pl_base.specs.View.{bookmarks_of}
use Rattle.pl_words.specs.Pieces.{in_address, occurs, pieces}
use Rattle.pl_place.specs.declared.kinds.TimeRef.{TimeRef}
use Rattle.pl_place.specs.declared.kinds.TimeRef.TheVariants.{Epoch, Today, Now}
use Rattle.pl_place.specs.declared.query.Query.{Query}
use Rattle.pl_words.specs.TagLists.{is_same_tag}

-- ---- of a date

-- the moment that a reference names, in microseconds: 0, and the first and the last one of the
-- store's day
abbrev pub moment : Store → TimeRef → ℤ
moment store Epoch = pos 0
moment store Today = pos (store.day.0 * micros_per_day)
moment store Now = pos (store.day.0 * micros_per_day + (micros_per_day - 1))

-- the date is not before the time, if there is one; no sum is cut
abbrev pub is_not_before : Store → Option ℤ → TimeRef → Micros → Bool
is_not_before store None reference date = true
is_not_before store (Some time) reference date =
    int_le (moment store reference +ℤ time) (pos date.0)

-- the date is not after the time, if there is one; no sum is cut
abbrev pub is_not_after : Store → Option ℤ → TimeRef → Micros → Bool
is_not_after store None reference date = true
is_not_after store (Some time) reference date =
    int_le (pos date.0) (moment store reference +ℤ time)

-- the date lies within the times of the query
abbrev pub in_times : Store → Query → Micros → Bool
in_times store q date =
    is_not_before store q.begin_time q.begin_ref date
    && is_not_after store q.end_time q.end_ref date

-- ---- of a page

-- the page, and not one visit of it, has a visit of each transition
abbrev pub has_transitions : Store → List Transition → PageId → Bool
has_transitions store transitions page =
    list_all (λ t. list_any (λ (v : Visit). (v.page.0 == page.0)
    && (transition_number v.transition == transition_number t)) store.visits) transitions

-- the word stands in the page's title, its address or its tags, whatever a row shows
abbrev pub has_word : Store → Page → List ℕ → Bool
has_word store p word =
    occurs word (folded p.title) || in_address false word p.url
    || occurs word (folded (tag_text store p.id))

-- the words that are looked for
abbrev pub words_asked : Option (List ℕ) → List (List ℕ)
words_asked None = []
words_asked (Some text) = pieces (folded text)

-- the `visit_count` is at least the one number, and at most the other
abbrev pub is_at_least : Option ℕ → ℕ → Bool
is_at_least None count = true
is_at_least (Some least) count = nat_le least count

abbrev pub is_at_most : Option ℕ → ℕ → Bool
is_at_most None count = true
is_at_most (Some most) count = nat_le count most

-- the host is the domain, or ends with a full stop and the domain
abbrev pub is_host_in : List ℕ → Bool → List ℕ → Bool
is_host_in domain is_host host =
    bytes_eq host domain || (not is_host && ends_with nat_eq host (46 ∷ domain))

-- the same of the record's host, without its port
abbrev pub is_record_in : List ℕ → Bool → Parsed Parts → Bool
is_record_in domain is_host (Ok parts) = is_host_in domain is_host (host_text (host_or_empty parts))
is_record_in domain is_host (Err e) = false

-- the host of the URL lies in the domain, if there is one
abbrev pub is_in_domain : Option (List ℕ) → Bool → List ℕ → Bool
is_in_domain None is_host url = true
is_in_domain (Some domain) is_host url = is_record_in domain is_host (record_of url)

-- the URL is the one that is asked for, if any
abbrev pub is_uri : Option (List ℕ) → List ℕ → Bool
is_uri None url = true
is_uri (Some uri) url = bytes_eq url uri

-- the page has the tag of this name
abbrev pub has_tag_named : Store → PageId → List ℕ → Bool
has_tag_named store page name =
    list_any (λ (t : Item). is_same_tag name t.title && has_tag store page t) (tags_of store)

-- the page has all the tags, or none of them where that is asked
abbrev pub has_tags_asked : Store → List (List ℕ) → Bool → PageId → Bool
has_tags_asked store tags false page = list_all (has_tag_named store page) tags
has_tags_asked store tags true page = list_all (λ name. not (has_tag_named store page name)) tags

-- what is asked of a page, in a query of history and of bookmarks
abbrev pub page_holds : Store → Query → Page → Bool
page_holds store q p =
    list_all (has_word store p) (words_asked q.terms)
    && is_at_least q.min_visits (visit_count store p.id)
    && is_at_most q.max_visits (visit_count store p.id)
    && (not q.only_bookmarked || is_bookmarked store p.id)
    && is_in_domain q.domain q.domain_is_host p.url
    && is_uri q.uri p.url
    && has_tags_asked store q.tags q.not_tags p.id
    && (not q.exclude_queries || not (is_place_url p.url))

-- ---- of a bookmark, and of a page by its bookmarks

-- the folder is there, and is one of these
abbrev pub is_one_of : List ItemId → Option ItemId → Bool
is_one_of parents None = false
is_one_of parents (Some folder) = list_any (λ (parent : ItemId). parent.0 == folder.0) parents

-- this very bookmark is a child of one of the folders, if any are asked for
abbrev pub is_in_parents : Store → List ItemId → Item → Bool
is_in_parents store parents i =
    (length parents == 0) || is_one_of parents (parent_of store.items i.id)

-- a bookmark of the page is a child of one of the folders, if any are asked for
abbrev pub has_mark_in : Store → List ItemId → PageId → Bool
has_mark_in store parents page =
    (length parents == 0) || list_any (is_in_parents store parents) (bookmarks_of store page)

-- what is asked besides of a page in a query of history
abbrev pub history_holds : Store → Query → Page → Bool
history_holds store q p =
    page_holds store q p && has_transitions store q.transitions p.id
    && has_mark_in store q.parents p.id && (q.include_hidden || not (is_hidden store p))
