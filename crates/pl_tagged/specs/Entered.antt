-- The views of the pages that a tag folder has entries of.
use Rattle.std.specs.Prelude.{ℕ, List, [], Option, Some, None}
use Rattle.std.specs.List.{filter_map}
use Rattle.std.specs.Option.{option_and_then, option_map}
use Rattle.pl_base.specs.declared.id.ItemId.{ItemId}
use Rattle.pl_base.specs.declared.id.PageId.{PageId}
use Rattle.pl_base.specs.declared.view.View.{View}
use Rattle.pl_base.specs.Store.{Item}
use Rattle.pl_base.specs.Tree.{children_of, item_at}
use Rattle.pl_known.specs.Known.{view_of}
use Rattle.pl_tree.specs.Tagged.{tag_named}

-- the page of an item
abbrev pub entry_page : List Item → ItemId → Option PageId
entry_page items entry = option_and_then (λ (i : Item). i.page) (item_at items entry)

-- the view of that page
abbrev pub entry_view : List Item → List View → ItemId → Option View
entry_view items views entry =
    option_and_then (λ (page : PageId). view_of page views) (entry_page items entry)

-- the views of the pages of the children of a folder
abbrev pub entered : List Item → List View → ItemId → List View
entered items views folder = filter_map (entry_view items views) (children_of items folder)

-- the same, if there is a folder
abbrev pub entered_in : List Item → List View → Option ItemId → List View
entered_in items views None = []
entered_in items views (Some folder) = entered items views folder

-- those of the tag with this name
abbrev pub tagged : List Item → List View → List ℕ → List View
tagged items views name =
    entered_in items views (option_map (λ (t : Item). t.id) (tag_named name items))
