-- Tags are items too: the children of the tags root are folders named by tags, and the bookmarks in
-- such a folder have the pages with that tag.
use Rattle.std.specs.Prelude.{ℕ, ◌==◌, ◌&&◌, not, Bool, false, List, [], ◌∷◌, ◌++◌, map}
use Rattle.std.specs.Prelude.{Option, Some, None}
use Rattle.std.specs.Cmp.Lexicographic.{slice_cmp}
use Rattle.std.specs.List.{filter, list_any}
use Rattle.std.specs.Option.{option_and_then}
use Rattle.std.specs.Ordering.{is_lt, nat_cmp}
use Rattle.pl_base.specs.declared.id.ItemId.{ItemId}
use Rattle.pl_base.specs.declared.id.PageId.{PageId}
use Rattle.pl_base.specs.Fold.{folded}
use Rattle.pl_base.specs.Sorting.{sorted_by}
use Rattle.pl_base.specs.Store.{Store, Item, item_id}
use Rattle.pl_base.specs.Tree.{child_items, is_page, parent_of}

-- `tags________`
abbrev pub tags_root : ItemId
tags_root = item_id 4

-- the tag folders
abbrev pub tags_of : Store → List Item
tags_of store = child_items store.items tags_root

-- the item is there, and is the tags root
abbrev pub is_tags_root : Option ItemId → Bool
is_tags_root None = false
is_tags_root (Some id) = id.0 == tags_root.0

-- the item is in a tag folder: its parent's parent is the tags root
abbrev pub is_tag_entry : Store → ItemId → Bool
is_tag_entry store id =
    is_tags_root (option_and_then (parent_of store.items) (parent_of store.items id))

-- an item has the page that is in no tag folder
abbrev pub is_bookmarked : Store → PageId → Bool
is_bookmarked store page =
    list_any (λ (i : Item). is_page page i.page && not (is_tag_entry store i.id)) store.items

-- a tag entry has the page
abbrev pub is_tagged : Store → PageId → Bool
is_tagged store page =
    list_any (λ (i : Item). is_page page i.page && is_tag_entry store i.id) store.items

-- the page is in the tag folder
abbrev pub has_tag : Store → PageId → Item → Bool
has_tag store page tag =
    list_any (λ (i : Item). is_page page i.page) (child_items store.items tag.id)

-- the fold of a tag stands before that of another in the order of bytes
abbrev pub is_before : Item → Item → Bool
is_before a b = is_lt (slice_cmp nat_cmp (folded a.title) (folded b.title))

-- the tags sorted by the bytes of their folds
abbrev pub by_fold : List Item → List Item
by_fold tags = sorted_by is_before tags

-- texts joined by commas
abbrev pub comma_joined : List (List ℕ) → List ℕ
comma_joined [] = []
comma_joined (t ∷ []) = t
comma_joined (t ∷ u ∷ us) = t ++ 44 ∷ comma_joined (u ∷ us)

-- the tags of a page: the titles of its tag folders
abbrev pub page_tags : Store → PageId → List (List ℕ)
page_tags store page =
    map (λ (t : Item). t.title) (by_fold (filter (has_tag store page) (tags_of store)))

-- the same as one text
abbrev pub tag_text : Store → PageId → List ℕ
tag_text store page = comma_joined (page_tags store page)
