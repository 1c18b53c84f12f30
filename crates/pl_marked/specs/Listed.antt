-- The rows of the bookmarks that a query lists, by the ways on which they are found.
use Rattle.std.specs.Prelude.{List, Option}
use Rattle.std.specs.List.{flat_map}
use Rattle.std.specs.List.Sorted.{IsPermutation}
use Rattle.std.specs.Option.{option_and_then, option_to_list}
use Rattle.pl_base.specs.declared.id.ItemId.{ItemId}
use Rattle.pl_base.specs.declared.view.View.{View}
use Rattle.pl_base.specs.Rows.{Kept, page_at, store_of}
use Rattle.pl_base.specs.Store.{Item}
use Rattle.pl_base.specs.Tree.{children_of, item_at}
use Rattle.pl_place.specs.declared.query.Query.{Query}
use Rattle.pl_query.specs.Candidates.{marks_part}
use Rattle.pl_query.specs.Order.{Row}
use Rattle.pl_query.specs.QueryAnswer.{bookmark_row_of, bookmark_rows, marked_page}
use Rattle.pl_marked.specs.declared.found.Found.{Found}
use Rattle.pl_marked.specs.Found.{AreFound, HaveViews}

-- the row of an item, if it is listed
abbrev pub item_row : Kept → Query → Item → Option Row
item_row kept q i =
    option_and_then (bookmark_row_of (store_of kept) q i) (marked_page (store_of kept) i)

-- the row of the item with this id, if it is listed
abbrev pub child_rows : Kept → Query → ItemId → List Row
child_rows kept q id =
    option_to_list (option_and_then (item_row kept q) (item_at kept.items id))

-- the rows of the children of a folder
abbrev pub folder_rows : Kept → Query → ItemId → List Row
folder_rows kept q folder = flat_map (child_rows kept q) (children_of kept.items folder)

-- the rows of the bookmarks of the page with the id of a view
abbrev pub view_rows : Kept → Query → View → List Row
view_rows kept q view = flat_map (marks_part kept q) (option_to_list (page_at kept view.id))

-- what is found are the bookmarks that the query lists, in whatever order, each with the view of
-- its page
pub record Lists (kept : Kept) (q : Query) (found : List Found) : Type 0 where
  pub rows : List Row
  pub moves : IsPermutation (bookmark_rows (store_of kept) q) rows
  pub are : AreFound kept q rows found
  pub views : HaveViews kept found
