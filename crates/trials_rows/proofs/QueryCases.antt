-- Worked rows of answers to queries: each condition, what a row tells, and the orders by title,
-- tags and frecency.
use Rattle.std.proofs.Common.{◌≡◌, ℕ, true, false, List, [], ◌∷◌, Option, None, Some, map, refl}
use Rattle.std.specs.Prelude.{codes, pos}
use lib.Utf8.{encode}
use Rattle.std.specs.Str.{chars, is_utf8}
use Rattle.std.specs.Str.Lossy.{utf8_error_len, utf8_lossy, utf8_valid_len}
use Rattle.caseless.proofs.Computing.{caseless}
use Rattle.percent_encoding.specs.Percent.{percent_decode}
use Rattle.url.proofs.OnLiterals.{url_on_literals}
use Rattle.pl_base.specs.declared.date.Micros.{Micros}
use Rattle.pl_base.specs.declared.item.ItemKind.TheVariants.{Bookmark}
use Rattle.pl_base.specs.declared.transition.Transition.{Transition}
use Rattle.pl_base.specs.declared.transition.Transition.TheVariants.{Download, Embed, Link, RedirectPermanent}
use Rattle.pl_base.specs.declared.transition.Transition.TheVariants.{Reload, Typed}
use Rattle.pl_base.specs.Store.{Item, Page, Store, Visit, item_id, opening, root_folder}
use Rattle.pl_words.specs.TagLists.{each_once, is_same_tag}
use Rattle.pl_place.specs.declared.kinds.QueryType.TheVariants.{Bookmarks, History}
use Rattle.pl_place.specs.declared.kinds.ResultType.TheVariants.{Pages, Visits}
use Rattle.pl_place.specs.declared.kinds.TimeRef.TheVariants.{Epoch}
use Rattle.pl_place.specs.declared.query.Query.{Query}
use Rattle.pl_place.specs.declared.sort.Direction.{Direction}
use Rattle.pl_place.specs.declared.sort.Direction.TheVariants.{Ascending, Descending}
use Rattle.pl_place.specs.declared.sort.Sort.TheVariants.{By, Unsorted}
use Rattle.pl_place.specs.declared.sort.SortKey.{SortKey}
use Rattle.pl_place.specs.declared.sort.SortKey.TheVariants.{Frecency, Tags, Title, VisitCount}
use Rattle.pl_query.specs.declared.result_row.ResultRow.{ResultRow}
use Rattle.pl_conditions.specs.Conditions.{is_at_least, is_at_most, is_host_in}
use Rattle.pl_query.specs.Order.{Row}
use Rattle.pl_query.specs.QueryAnswer.{answer, told_row}

-- ---- numbers and hosts

at_least : map (is_at_least (Some 2)) (1 ∷ 2 ∷ 3 ∷ []) ≡ false ∷ true ∷ true ∷ []
at_least = refl

at_most : map (is_at_most (Some 2)) (1 ∷ 2 ∷ 3 ∷ []) ≡ true ∷ true ∷ false ∷ []
at_most = refl

-- a name that ends with a full stop lies in the empty domain, as the empty host does
empty_domain : map (is_host_in [] false) ([] ∷ codes "a.example." ∷ codes "a.example" ∷ []) ≡ true ∷ true ∷ false ∷ []
empty_domain = refl

-- ---- a store

abbrev page : ℕ → List ℕ → List ℕ → Page
page id url title = record { id = record { 0 = id }; url = url; title = title; typed = false }

abbrev visit : ℕ → ℕ → Transition → ℕ → Visit
visit id of transition date =
    record {
      id = record { 0 = id };
      page = record { 0 = of };
      date = record { 0 = date };
      transition = transition;
      source = None;
    }

abbrev bookmark : ℕ → ℕ → List ℕ → ℕ → Item
bookmark id of title added =
    record {
      id = item_id id;
      kind = Bookmark;
      title = title;
      page = Some (record { 0 = of });
      added = record { 0 = added };
      modified = record { 0 = added };
      children = [];
    }

abbrev folder : ℕ → List ℕ → Item
folder n ids = root_folder n (map item_id ids)

-- Page 1 has two visits and a bookmark in the menu. Page 2 has one that counts, a reload and the
-- tag `Red`. Page 3 is a query with a visit and a bookmark in the menu, and is hidden. Page 4 has a
-- bookmark in the toolbar and no visit.
abbrev some : Store
some =
    record opening {
      pages =
          page 1 (codes "https://b.example/") (codes "beta") ∷ page 2 (codes "https://a.example:8080/") (codes "Alpha")
          ∷ page 3 (codes "place:sort=1") [] ∷ page 4 (codes "https://c.example/") [] ∷ [];
      visits =
          visit 1 2 Link 40 ∷ visit 2 1 Typed 10 ∷ visit 3 2 Reload 30 ∷ visit 4 1 Link 20 ∷ visit 5 3 Link 50 ∷ [];
      items =
          folder 1 (2 ∷ 3 ∷ 4 ∷ 5 ∷ 6 ∷ []) ∷ folder 2 (7 ∷ 8 ∷ []) ∷ folder 3 (9 ∷ []) ∷ folder 4 (10 ∷ [])
          ∷ folder 5 [] ∷ folder 6 [] ∷ bookmark 7 1 (codes "one") 80 ∷ bookmark 8 3 (codes "query") 81
          ∷ bookmark 9 4 (codes "two") 90 ∷ record (folder 10 (11 ∷ [])) { title = codes "Red" }
          ∷ bookmark 11 2 [] 0 ∷ [];
    }

-- all pages that are not hidden
plain : Query
plain =
    record {
      begin_time = None;
      begin_ref = Epoch;
      end_time = None;
      end_ref = Epoch;
      terms = None;
      min_visits = None;
      max_visits = None;
      only_bookmarked = false;
      domain_is_host = false;
      domain = None;
      uri = None;
      parents = [];
      tags = [];
      not_tags = false;
      transitions = [];
      sort = Unsorted;
      result_type = Pages;
      query_type = History;
      include_hidden = false;
      max_results = 0;
      exclude_queries = false;
      begin_form = refl;
      end_form = refl;
      terms_form = refl;
      min_form = refl;
      max_form = refl;
      host_form = refl;
      domain_form = refl;
      parents_form = refl;
      tags_form = refl;
      not_tags_form = refl;
      transitions_form = refl;
    }

-- the ids of what answers
abbrev ids : Query → List ℕ
ids q = map (λ (r : Row). r.id) (answer some q)

-- the same of pages, visits and bookmarks
abbrev of_each : Query → List (List ℕ)
of_each q =
    map ids (q ∷ record q { result_type = Visits } ∷ record q { query_type = Bookmarks } ∷ [])

-- ---- conditions

-- a bookmark of a hidden page is listed
not_hidden : of_each plain ≡ (1 ∷ 2 ∷ []) ∷ (1 ∷ 2 ∷ 3 ∷ 4 ∷ []) ∷ (7 ∷ 8 ∷ 9 ∷ []) ∷ []
unfolding plain url_on_literals
not_hidden = refl

hidden_too : of_each (record plain { include_hidden = true })
    ≡ (1 ∷ 2 ∷ 3 ∷ []) ∷ (1 ∷ 2 ∷ 3 ∷ 4 ∷ 5 ∷ []) ∷ (7 ∷ 8 ∷ 9 ∷ []) ∷ []
unfolding plain url_on_literals
hidden_too = refl

no_queries : of_each (record plain { include_hidden = true; exclude_queries = true })
    ≡ (1 ∷ 2 ∷ []) ∷ (1 ∷ 2 ∷ 3 ∷ 4 ∷ []) ∷ (7 ∷ 9 ∷ []) ∷ []
unfolding plain url_on_literals
no_queries = refl

-- a tag is no bookmark
bookmarked_alone : of_each (record plain { only_bookmarked = true })
    ≡ (1 ∷ []) ∷ (2 ∷ 4 ∷ []) ∷ (7 ∷ 8 ∷ 9 ∷ []) ∷ []
unfolding plain url_on_literals
bookmarked_alone = refl

-- a reload does not count
two_visits_or_more : of_each (record plain { min_visits = Some 2; min_form = refl })
    ≡ (1 ∷ []) ∷ (2 ∷ 4 ∷ []) ∷ (7 ∷ []) ∷ []
unfolding plain url_on_literals
two_visits_or_more = refl

one_visit_or_none : of_each (record plain { max_visits = Some 1; max_form = refl })
    ≡ (2 ∷ []) ∷ (1 ∷ 3 ∷ []) ∷ (8 ∷ 9 ∷ []) ∷ []
unfolding plain url_on_literals
one_visit_or_none = refl

-- of a link and a reload of one page; bookmarks are asked for none
both_transitions : of_each (record plain { transitions = Link ∷ Reload ∷ []; transitions_form = refl })
    ≡ (2 ∷ []) ∷ (1 ∷ 3 ∷ []) ∷ (7 ∷ 8 ∷ 9 ∷ []) ∷ []
unfolding plain url_on_literals
both_transitions = refl

no_such_transition : of_each (record plain { transitions = Download ∷ []; transitions_form = refl })
    ≡ [] ∷ [] ∷ (7 ∷ 8 ∷ 9 ∷ []) ∷ []
unfolding plain url_on_literals
no_such_transition = refl

in_the_menu : of_each (record plain { parents = item_id 2 ∷ []; parents_form = refl })
    ≡ (1 ∷ []) ∷ (2 ∷ 4 ∷ []) ∷ (7 ∷ 8 ∷ []) ∷ []
unfolding plain url_on_literals
in_the_menu = refl

-- a tag folder has no bookmarks, and neither has a folder that is not there
in_no_folder : of_each (record plain { parents = item_id 4 ∷ item_id 10 ∷ item_id 99 ∷ []; parents_form = refl })
    ≡ [] ∷ [] ∷ [] ∷ []
unfolding plain url_on_literals
in_no_folder = refl

with_the_tag : of_each (record plain { tags = codes "rED" ∷ []; tags_form = refl; not_tags_form = refl })
    ≡ (2 ∷ []) ∷ (1 ∷ 3 ∷ []) ∷ [] ∷ []
unfolding plain url_on_literals caseless chars encode
with_the_tag = refl

two_tags : each_once is_same_tag (codes "red" ∷ codes "x" ∷ []) ≡ true
unfolding caseless chars encode
two_tags = refl

-- one of two tags is not enough, and one is too many
all_or_none :
    map of_each
    (record plain { tags = codes "red" ∷ codes "x" ∷ []; tags_form = two_tags; not_tags_form = refl }
    ∷ record plain { tags = codes "red" ∷ codes "x" ∷ []; not_tags = true; tags_form = two_tags; not_tags_form = refl }
    ∷ [])
    ≡ ([] ∷ [] ∷ [] ∷ []) ∷ ((1 ∷ []) ∷ (2 ∷ 4 ∷ []) ∷ (7 ∷ 8 ∷ 9 ∷ []) ∷ []) ∷ []
unfolding plain url_on_literals caseless chars encode
all_or_none = refl

one_url : of_each (record plain { uri = Some (codes "https://b.example/") }) ≡ (1 ∷ []) ∷ (2 ∷ 4 ∷ []) ∷ (7 ∷ []) ∷ []
unfolding plain url_on_literals
one_url = refl

-- the port is no part of the host
in_domains :
    map ids
    (record plain { domain = Some (codes "example"); domain_form = refl; host_form = refl }
    ∷ record plain { domain = Some (codes "a.example"); domain_is_host = true; domain_form = refl; host_form = refl }
    ∷ record plain { domain = Some (codes "example"); domain_is_host = true; domain_form = refl; host_form = refl }
    ∷ [])
    ≡ (1 ∷ 2 ∷ []) ∷ (2 ∷ []) ∷ [] ∷ []
unfolding plain url_on_literals
in_domains = refl

-- words of the title, of the tags, of the address, and of two of them; a bookmark's own title has
-- none
with_words :
    map ids
    (record plain { terms = Some (codes "ALPHA"); terms_form = refl }
    ∷ record plain { terms = Some (codes "red"); terms_form = refl }
    ∷ record plain { terms = Some (codes "b.example"); terms_form = refl }
    ∷ record plain { terms = Some (codes "et b.ex"); terms_form = refl }
    ∷ record plain { terms = Some (codes "beta red"); terms_form = refl }
    ∷ record plain { terms = Some (codes "one"); terms_form = refl } ∷ [])
    ≡ (2 ∷ []) ∷ (2 ∷ []) ∷ (1 ∷ []) ∷ (1 ∷ []) ∷ [] ∷ [] ∷ []
unfolding plain url_on_literals caseless chars encode is_utf8 percent_decode utf8_error_len utf8_lossy utf8_valid_len
with_words = refl

-- of bookmarks both ends of a time, by the date on which they were added
added_between :
    map ids
    (record plain { query_type = Bookmarks; begin_time = Some (pos 81); begin_form = refl }
    ∷ record plain { query_type = Bookmarks; end_time = Some (pos 81); end_form = refl } ∷ [])
    ≡ (8 ∷ 9 ∷ []) ∷ (7 ∷ 8 ∷ []) ∷ []
unfolding plain url_on_literals
added_between = refl

-- ---- orders

abbrev by : SortKey → Direction → Query
by key direction = record plain { sort = By key direction }

-- by folds: `Alpha` stands before `beta`, and no tag before `Red`
by_texts : map ids (by Title Ascending ∷ by Title Descending ∷ by Tags Ascending ∷ by Tags Descending ∷ [])
    ≡ (2 ∷ 1 ∷ []) ∷ (1 ∷ 2 ∷ []) ∷ (1 ∷ 2 ∷ []) ∷ (2 ∷ 1 ∷ []) ∷ []
unfolding plain url_on_literals caseless chars encode
by_texts = refl

by_numbers :
    map ids
    (by VisitCount Ascending ∷ by VisitCount Descending ∷ by Frecency Ascending ∷ by Frecency Descending ∷ [])
    ≡ (2 ∷ 1 ∷ []) ∷ (1 ∷ 2 ∷ []) ∷ (2 ∷ 1 ∷ []) ∷ (1 ∷ 2 ∷ []) ∷ []
unfolding plain url_on_literals
by_numbers = refl

-- page 1 has a frecency of 100, page 2, which is embedded, of 0, and page 3, whose redirect came
-- from there, of -1
abbrev three : Store
three =
    record opening {
      pages =
          page 1 (codes "https://a.example/") [] ∷ page 2 (codes "https://b.example/") []
          ∷ page 3 (codes "https://c.example/") [] ∷ [];
      visits =
          visit 1 1 Link 0 ∷ visit 2 2 Embed 0
          ∷ record (visit 3 3 RedirectPermanent 0) { source = Some (record { 0 = 2 }) } ∷ [];
    }

below_0 :
    map (λ q. map (λ (r : Row). r.id) (answer three (record q { include_hidden = true })))
    (by Frecency Ascending ∷ by Frecency Descending ∷ [])
    ≡ (3 ∷ 2 ∷ 1 ∷ []) ∷ (1 ∷ 2 ∷ 3 ∷ []) ∷ []
unfolding plain url_on_literals
below_0 = refl

-- ---- what is told

abbrev found : ℕ → List ℕ → List ℕ → Option Micros → ℕ → ℕ → List ℕ → ResultRow
found id url title date count frecency tags =
    record {
      id = id;
      url = url;
      title = title;
      date = date;
      count = count;
      frecency = pos frecency;
      tags = tags;
    }

abbrev at : ℕ → Option Micros
at n = Some (record { 0 = n })

-- Of a page its latest date. Page 1 has 2,075 and 175 points, and page 2 has 175 and 75.
pages_told : map (told_row some) (answer some plain)
    ≡ found 1 (codes "https://b.example/") (codes "beta") (at 20) 2 2_250 []
    ∷ found 2 (codes "https://a.example:8080/") (codes "Alpha") (at 40) 1 125 (codes "Red") ∷ []
unfolding plain url_on_literals caseless chars encode
pages_told = refl

-- of a visit its own date
visits_told : map (told_row some) (answer some (record plain { result_type = Visits; max_results = 2 }))
    ≡ found 1 (codes "https://a.example:8080/") (codes "Alpha") (at 40) 1 125 (codes "Red")
    ∷ found 2 (codes "https://b.example/") (codes "beta") (at 10) 2 2_250 [] ∷ []
unfolding plain url_on_literals caseless chars encode
visits_told = refl

-- of a bookmark its own title, and the latest date of its page, if there is one
bookmarks_told :
    map (told_row some) (answer some (record plain { query_type = Bookmarks; exclude_queries = true }))
    ≡ found 7 (codes "https://b.example/") (codes "one") (at 20) 2 2_250 []
    ∷ found 9 (codes "https://c.example/") (codes "two") None 0 140 [] ∷ []
unfolding plain url_on_literals caseless chars encode
bookmarks_told = refl
