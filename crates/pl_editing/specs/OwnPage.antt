-- The page of an item.
use Rattle.std.specs.Prelude.{List, Option}
use Rattle.std.specs.Option.{option_and_then}
use Rattle.pl_base.specs.declared.id.ItemId.{ItemId}
use Rattle.pl_base.specs.declared.id.PageId.{PageId}
use Rattle.pl_base.specs.Store.{Item}
use Rattle.pl_base.specs.Tree.{item_at}

-- the page that the item has, if it has one
abbrev pub own_page : List Item → ItemId → Option PageId
own_page items id = option_and_then (λ (i : Item). i.page) (item_at items id)
