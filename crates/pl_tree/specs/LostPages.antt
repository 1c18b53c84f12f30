-- The pages that lost an item.
use Rattle.std.specs.Prelude.{◌==◌, Bool, false, List, Option, Some, None}
use Rattle.std.specs.List.{list_any}
use Rattle.pl_base.specs.declared.id.ItemId.{ItemId}
use Rattle.pl_base.specs.declared.id.PageId.{PageId}
use Rattle.pl_base.specs.Store.{Item}
use Rattle.pl_base.specs.Tree.{is_page, item_at}

-- the page is among some
abbrev pub has_lost : PageId → List PageId → Bool
has_lost page pages = list_any (λ (lost : PageId). lost.0 == page.0) pages

-- of an item that is there, where it is
abbrev pub page_in : Option Item → PageId → Bool
page_in None page = false
page_in (Some i) page = is_page page i.page

-- the item has the page
abbrev pub has_page_of : List Item → ItemId → PageId → Bool
has_page_of items id page = page_in (item_at items id) page
