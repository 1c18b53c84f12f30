-- Worked rows of the order of answers: the definitions compute to values that were worked out by
-- hand.
use Rattle.std.proofs.Common.{◌≡◌, ℕ, List, [], ◌∷◌, Option, Some, None, false, map, refl, true}
use Rattle.std.specs.Prelude.{ℤ, codes, pos}
use Rattle.std.specs.declared.cmp.Ordering.TheVariants.{Less, Equal, Greater}
use Rattle.pl_base.specs.declared.date.Micros.{Micros}
use Rattle.pl_base.specs.Sorting.{sorted_by}
use Rattle.pl_base.specs.declared.item.ItemKind.TheVariants.{Bookmark}
use Rattle.pl_base.specs.declared.transition.Transition.TheVariants.{Link}
use Rattle.pl_base.specs.Store.{Item, Page, Store, Visit, item_id, opening, root_folder}
use Rattle.pl_place.specs.declared.kinds.QueryType.{QueryType}
use Rattle.pl_place.specs.declared.kinds.QueryType.TheVariants.{History, Bookmarks}
use Rattle.pl_place.specs.declared.kinds.ResultType.{ResultType}
use Rattle.pl_place.specs.declared.kinds.ResultType.TheVariants.{Pages, Visits}
use Rattle.pl_place.specs.declared.kinds.TimeRef.TheVariants.{Epoch}
use Rattle.pl_place.specs.declared.query.Query.{Query}
use Rattle.pl_place.specs.QueryForm.{has_time}
use Rattle.pl_place.specs.declared.sort.Direction.TheVariants.{Ascending, Descending}
use Rattle.pl_place.specs.declared.sort.Sort.{Sort}
use Rattle.pl_place.specs.declared.sort.Sort.TheVariants.{Unsorted, By}
use Rattle.pl_place.specs.declared.sort.SortKey.TheVariants.{Added, Date, Modified, Url, VisitCount}
use Rattle.pl_query.specs.Order.{Row, comes_before, date_cmp, text_cmp}
use Rattle.pl_query.specs.QueryAnswer.{answer, greatest, limited}

abbrev at : ℕ → Option Micros
at n = Some (record { 0 = n })

-- none is before any date
no_date : date_cmp None (at 0) ≡ Less
no_date = refl

any_date : date_cmp (at 0) None ≡ Greater
any_date = refl

no_dates : date_cmp None None ≡ Equal
no_dates = refl

dates : map (date_cmp (at 7)) (at 6 ∷ at 7 ∷ at 8 ∷ []) ≡ Greater ∷ Equal ∷ Less ∷ []
dates = refl

-- byte by byte: a capital letter stands before each small one, and a text before a longer one
texts : map (text_cmp (codes "b")) (codes "Z" ∷ codes "a" ∷ codes "b" ∷ codes "ba" ∷ [])
    ≡ Greater ∷ Greater ∷ Equal ∷ Less ∷ []
texts = refl

abbrev few : List ℕ
few = 4 ∷ 5 ∷ 6 ∷ []

-- 0 stands for all
cut : map (λ most. limited most few) (0 ∷ 1 ∷ 3 ∷ 9 ∷ []) ≡ few ∷ (4 ∷ []) ∷ few ∷ few ∷ []
cut = refl

latest : map greatest ([] ∷ (3 ∷ []) ∷ (2 ∷ 9 ∷ 4 ∷ []) ∷ []) ≡ 0 ∷ 3 ∷ 9 ∷ []
latest = refl

-- a row with this id, URL, date, and date of its bookmark
abbrev row : ℕ → List ℕ → Option Micros → ℕ → Row
row id url date added =
    record {
      id = id;
      page = record { id = record { 0 = id }; url = url; title = []; typed = false };
      title = [];
      date = date;
      added = added;
      modified = 0;
    }

abbrev rows : List Row
rows =
    row 5 (codes "https://b.example/") (at 20) 3 ∷ row 2 (codes "https://a.example/") None 3
    ∷ row 9 (codes "https://b.example/") (at 10) 8 ∷ row 1 (codes "https://c.example/") (at 20) 0 ∷ []

-- the ids in order
abbrev ids_by : Sort → List ℕ
ids_by sort = map (λ (r : Row). r.id) (sorted_by (comes_before opening sort) rows)

unsorted : ids_by Unsorted ≡ 1 ∷ 2 ∷ 5 ∷ 9 ∷ []
unsorted = refl

-- rows that are alike stand by ascending id, in a descending order too
by_date : ids_by (By Date Ascending) ≡ 2 ∷ 9 ∷ 1 ∷ 5 ∷ []
by_date = refl

by_date_descending : ids_by (By Date Descending) ≡ 1 ∷ 5 ∷ 9 ∷ 2 ∷ []
by_date_descending = refl

by_url : ids_by (By Url Ascending) ≡ 2 ∷ 5 ∷ 9 ∷ 1 ∷ []
by_url = refl

by_url_descending : ids_by (By Url Descending) ≡ 1 ∷ 5 ∷ 9 ∷ 2 ∷ []
by_url_descending = refl

by_added : ids_by (By Added Ascending) ≡ 1 ∷ 2 ∷ 5 ∷ 9 ∷ []
by_added = refl

by_added_descending : ids_by (By Added Descending) ≡ 9 ∷ 2 ∷ 5 ∷ 1 ∷ []
by_added_descending = refl

-- all are alike where no page has a visit
by_count_descending : ids_by (By VisitCount Descending) ≡ 1 ∷ 2 ∷ 5 ∷ 9 ∷ []
by_count_descending = refl

-- ---- a store with three pages, of which the last has no visit, and two bookmarks

abbrev page : ℕ → List ℕ → Page
page id url = record { id = record { 0 = id }; url = url; title = []; typed = false }

abbrev visit : ℕ → ℕ → ℕ → Visit
visit id of date =
    record {
      id = record { 0 = id };
      page = record { 0 = of };
      date = record { 0 = date };
      transition = Link;
      source = None;
    }

abbrev mark : ℕ → ℕ → ℕ → ℕ → Item
mark id of added modified =
    record {
      id = item_id id;
      kind = Bookmark;
      title = [];
      page = Some (record { 0 = of });
      added = record { 0 = added };
      modified = record { 0 = modified };
      children = [];
    }

abbrev folder : ℕ → List ℕ → Item
folder n ids = root_folder n (map item_id ids)

abbrev small : Store
small =
    record {
      day = record { 0 = 0 };
      ids = record { page = 4; visit = 5; item = 9 };
      pages =
          page 1 (codes "https://b.example/") ∷ page 2 (codes "https://a.example/")
          ∷ page 3 (codes "https://c.example/") ∷ [];
      visits = visit 1 2 40 ∷ visit 2 1 10 ∷ visit 3 2 30 ∷ visit 4 1 20 ∷ [];
      items =
          folder 1 (2 ∷ 3 ∷ 4 ∷ 5 ∷ 6 ∷ []) ∷ folder 2 (8 ∷ []) ∷ folder 3 (7 ∷ []) ∷ folder 4 [] ∷ folder 5 []
          ∷ folder 6 [] ∷ mark 7 3 90 95 ∷ mark 8 1 80 99 ∷ [];
    }

from_epoch : (time : Option ℤ) → has_time time Epoch ≡ true
from_epoch None = refl
from_epoch (Some time) = refl

abbrev query : QueryType → ResultType → Sort → ℕ → Option ℤ → Query
query query_type result_type sort most begin =
    record {
      begin_time = begin;
      begin_ref = Epoch;
      end_time = None;
      end_ref = Epoch;
      terms = None;
      min_visits = None;
      max_visits = None;
      only_bookmarked = false;
      domain_is_host = false;
      domain = None;
      uri = None;
      parents = [];
      tags = [];
      not_tags = false;
      transitions = [];
      sort = sort;
      result_type = result_type;
      query_type = query_type;
      include_hidden = true;
      max_results = most;
      exclude_queries = false;
      begin_form = from_epoch begin;
      end_form = refl;
      terms_form = refl;
      min_form = refl;
      max_form = refl;
      host_form = refl;
      domain_form = refl;
      parents_form = refl;
      tags_form = refl;
      not_tags_form = refl;
      transitions_form = refl;
    }

-- the ids of the rows that are answered
abbrev ids_of : Query → List ℕ
ids_of q = map (λ (r : Row). r.id) (answer small q)

-- a page without a visit is no page of history, and its bookmark is one of bookmarks
pages : ids_of (query History Pages Unsorted 0 None) ≡ 1 ∷ 2 ∷ []
pages = refl

visits : ids_of (query History Visits Unsorted 0 None) ≡ 1 ∷ 2 ∷ 3 ∷ 4 ∷ []
visits = refl

bookmarks : ids_of (query Bookmarks Pages Unsorted 0 None) ≡ 7 ∷ 8 ∷ []
bookmarks = refl

-- a page shows its latest date, a visit its own, and a bookmark that of its page
pages_by_date : ids_of (query History Pages (By Date Descending) 0 None) ≡ 2 ∷ 1 ∷ []
pages_by_date = refl

visits_by_date : ids_of (query History Visits (By Date Ascending) 0 None) ≡ 2 ∷ 4 ∷ 3 ∷ 1 ∷ []
visits_by_date = refl

bookmarks_by_date : ids_of (query Bookmarks Pages (By Date Ascending) 0 None) ≡ 7 ∷ 8 ∷ []
bookmarks_by_date = refl

-- and a page the latest dates of its bookmarks
pages_by_change : ids_of (query History Pages (By Modified Descending) 0 None) ≡ 1 ∷ 2 ∷ []
pages_by_change = refl

bookmarks_by_change : ids_of (query Bookmarks Pages (By Added Ascending) 0 None) ≡ 8 ∷ 7 ∷ []
bookmarks_by_change = refl

-- from a date on: a page with a visit since, and a bookmark that was added since
pages_since : ids_of (query History Pages Unsorted 0 (Some (pos 25))) ≡ 2 ∷ []
pages_since = refl

visits_since : ids_of (query History Visits Unsorted 0 (Some (pos 25))) ≡ 1 ∷ 3 ∷ []
visits_since = refl

bookmarks_since : ids_of (query Bookmarks Pages Unsorted 0 (Some (pos 85))) ≡ 7 ∷ []
bookmarks_since = refl

-- so many of those that come first in the order
latest_visits : ids_of (query History Visits (By Date Descending) 2 None) ≡ 1 ∷ 3 ∷ []
latest_visits = refl
