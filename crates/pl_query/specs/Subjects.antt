-- What rows are of: a page, a visit or a bookmark.
use Rattle.std.specs.Prelude.{ℕ, Option, Some}
use Rattle.std.specs.Option.{option_and_then, option_map}
use Rattle.pl_base.specs.declared.id.PageId.{PageId}
use Rattle.pl_base.specs.Marks.{last_date_of}
use Rattle.pl_base.specs.Rows.{Kept, KeptPage, page_at, store_of, visit_at}
use Rattle.pl_base.specs.Store.{Item, Visit}
use Rattle.pl_base.specs.Tree.{item_at}
use Rattle.pl_query.specs.declared.shown.Subject.{Subject}
use Rattle.pl_query.specs.declared.shown.Subject.TheVariants.{Page, Visit as OfVisit, Bookmark}
use Rattle.pl_query.specs.Order.{Row}
use Rattle.pl_query.specs.QueryAnswer.{bookmark_row, history_row}

-- the id of its row
abbrev pub subject_id : Subject → ℕ
subject_id (Page page) = page.0
subject_id (OfVisit visit page) = visit.0
subject_id (Bookmark item page) = item.0

-- the page that it shows
abbrev pub subject_page : Subject → PageId
subject_page (Page page) = page
subject_page (OfVisit visit page) = page
subject_page (Bookmark item page) = page

-- the row of a page, of a visit and of a bookmark
abbrev pub row_of_page : Kept → KeptPage → Row
row_of_page kept p =
    history_row (store_of kept) p.page.id.0 p.page (last_date_of (store_of kept) p.page.id)

abbrev pub row_of_visit : Kept → Visit → KeptPage → Row
row_of_visit kept v p = history_row (store_of kept) v.id.0 p.page (Some v.date)

abbrev pub row_of_mark : Kept → Item → KeptPage → Row
row_of_mark kept i p = bookmark_row (store_of kept) p.page i

-- the row of what is there
abbrev pub row_at : Kept → Subject → Option Row
row_at kept (Page page) = option_map (row_of_page kept) (page_at kept page)
row_at kept (OfVisit visit page) =
    option_and_then (λ (v : Visit). option_map (row_of_visit kept v) (page_at kept page))
    (visit_at kept visit)
row_at kept (Bookmark item page) =
    option_and_then (λ (i : Item). option_map (row_of_mark kept i) (page_at kept page))
    (item_at kept.items item)
