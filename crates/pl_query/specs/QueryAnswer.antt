-- The answer to a query: which rows, and in which order.
use Rattle.std.specs.Prelude.{ℕ, ◌==◌, ◌&&◌, Bool, List, [], ◌∷◌, map, max, take}
use Rattle.std.specs.Prelude.{Option, Some, None, if◌then◌else◌}
use Rattle.std.specs.List.{filter, filter_map, find, list_any}
use Rattle.std.specs.Option.{option_and_then}
use Rattle.pl_base.specs.declared.date.Micros.{Micros}
use Rattle.pl_base.specs.declared.id.PageId.{PageId}
use Rattle.pl_base.specs.Frecency.{frecency_of}
use Rattle.pl_base.specs.Marks.{last_date_of, visit_count}
use Rattle.pl_base.specs.Sorting.{sorted_by}
use Rattle.pl_base.specs.Store.{Store, Page, Visit, Item}
use Rattle.pl_base.specs.Tags.{is_tag_entry, tag_text}
use Rattle.pl_base.specs.View.{bookmarks_of}
use Rattle.pl_place.specs.declared.kinds.QueryType.{QueryType}
use Rattle.pl_place.specs.declared.kinds.QueryType.TheVariants.{History, Bookmarks}
use Rattle.pl_place.specs.declared.kinds.ResultType.{ResultType}
use Rattle.pl_place.specs.declared.kinds.ResultType.TheVariants.{Pages, Visits}
use Rattle.pl_place.specs.declared.query.Query.{Query}
use Rattle.pl_query.specs.declared.result_row.ResultRow.{ResultRow}
use Rattle.pl_conditions.specs.Conditions.{history_holds, in_times, is_in_parents, page_holds}
use Rattle.pl_query.specs.Order.{Row, comes_before}

-- ---- the rows of each kind

-- the greatest number, and 0 where there is none
abbrev pub greatest : List ℕ → ℕ
greatest [] = 0
greatest (n ∷ ns) = max n (greatest ns)

-- when the page's bookmarks were added and modified at the latest
abbrev pub last_added : Store → PageId → ℕ
last_added store page = greatest (map (λ (i : Item). i.added.0) (bookmarks_of store page))

abbrev pub last_modified : Store → PageId → ℕ
last_modified store page = greatest (map (λ (i : Item). i.modified.0) (bookmarks_of store page))

-- the row of a page, and of one of its visits: they show the page's title
abbrev pub history_row : Store → ℕ → Page → Option Micros → Row
history_row store id p date =
    record {
      id = id;
      page = p;
      title = p.title;
      date = date;
      added = last_added store p.id;
      modified = last_modified store p.id;
    }

-- the row of a bookmark, which shows its own title, and the date of the page
abbrev pub bookmark_row : Store → Page → Item → Row
bookmark_row store p i =
    record {
      id = i.id.0;
      page = p;
      title = i.title;
      date = last_date_of store p.id;
      added = i.added.0;
      modified = i.modified.0;
    }

-- the page has a visit within the times
abbrev pub has_visit_in_times : Store → Query → PageId → Bool
has_visit_in_times store q page =
    list_any (λ (v : Visit). (v.page.0 == page.0) && in_times store q v.date) store.visits

-- the pages that have such a visit, and for which the conditions hold: one without visits is none
abbrev pub page_rows : Store → Query → List Row
page_rows store q =
    map (λ (p : Page). history_row store p.id.0 p (last_date_of store p.id))
    (filter (λ (p : Page). has_visit_in_times store q p.id && history_holds store q p) store.pages)

-- the page with this id
abbrev pub page_with : Store → PageId → Option Page
page_with store id = find (λ (p : Page). p.id.0 == id.0) store.pages

-- the visits within the times to pages for which the conditions hold
abbrev pub visit_row_of : Store → Query → Visit → Page → Option Row
visit_row_of store q v p =
    if in_times store q v.date && history_holds store q p
    then Some (history_row store v.id.0 p (Some v.date)) else None

abbrev pub visit_rows : Store → Query → List Row
visit_rows store q =
    filter_map
    (λ (v : Visit). option_and_then (visit_row_of store q v) (page_with store v.page)) store.visits

-- the bookmarks that were added within the times, of pages for which the conditions hold, and which
-- are themselves in one of the folders
abbrev pub bookmark_row_of : Store → Query → Item → Page → Option Row
bookmark_row_of store q i p =
    if in_times store q i.added && is_in_parents store q.parents i && page_holds store q p
    then Some (bookmark_row store p i) else None

-- the page of a bookmark; of a tag entry none
abbrev pub marked_page : Store → Item → Option Page
marked_page store i =
    if is_tag_entry store i.id then None else option_and_then (page_with store) i.page

abbrev pub bookmark_rows : Store → Query → List Row
bookmark_rows store q =
    filter_map (λ (i : Item). option_and_then (bookmark_row_of store q i) (marked_page store i))
    store.items

-- the rows of the kind that is asked for
abbrev pub rows_of : QueryType → ResultType → Store → Query → List Row
rows_of History Pages store q = page_rows store q
rows_of History Visits store q = visit_rows store q
rows_of Bookmarks Pages store q = bookmark_rows store q
rows_of Bookmarks Visits store q = bookmark_rows store q

-- ---- the answer

-- the first of them, so many; all where the number is 0
abbrev pub limited : {A : Type 0} → ℕ → List A → List A
limited most rows = if most == 0 then rows else take most rows

-- the rows in order, so many as are asked for
abbrev pub answer : Store → Query → List Row
answer store q =
    limited q.max_results
    (sorted_by (comes_before store q.sort) (rows_of q.query_type q.result_type store q))

-- what is told of a row: its id, what it shows, and the page
abbrev pub told_row : Store → Row → ResultRow
told_row store row =
    record {
      id = row.id;
      url = row.page.url;
      title = row.title;
      date = row.date;
      count = visit_count store row.page.id;
      frecency = frecency_of store row.page;
      tags = tag_text store row.page.id;
    }
