-- The tag folders that the items of a page are in, and their titles by their folds.
use Rattle.std.specs.Prelude.{ℕ, ◌*◌, List, Option, Some, None, if◌then◌else◌}
use Rattle.std.specs.BTreeMap.{insert_entry}
use Rattle.std.specs.Cmp.Lexicographic.{slice_cmp}
use Rattle.std.specs.Option.{option_and_then}
use Rattle.std.specs.Ordering.{nat_cmp}
use Rattle.pl_base.specs.declared.id.ItemId.{ItemId}
use Rattle.pl_base.specs.Fold.{folded}
use Rattle.pl_base.specs.Rows.{most_reads}
use Rattle.pl_base.specs.Store.{Item}
use Rattle.pl_base.specs.Tags.{is_tags_root}
use Rattle.pl_base.specs.Tree.{item_title, parent_of}

-- the folder, where it is a child of the tags root
abbrev pub where_tag : List Item → Option ItemId → Option ItemId
where_tag items None = None
where_tag items (Some folder) = if is_tags_root (parent_of items folder) then Some folder else None

-- the tag folder that an item is in
abbrev pub tag_folder : List Item → ItemId → Option ItemId
tag_folder items id = where_tag items (parent_of items id)

-- the most records that are read to find it: the item and its parent, a call each
abbrev pub folder_reads : ℕ
folder_reads = 2 * most_reads

-- the tag that an item gives its page
abbrev pub tag_title : List Item → ItemId → Option (List ℕ)
tag_title items id = option_and_then (item_title items) (tag_folder items id)

-- titles by their folds, with one more, if any
abbrev pub with_tag : Option (List ℕ) → List (List ℕ × List ℕ) → List (List ℕ × List ℕ)
with_tag None tags = tags
with_tag (Some title) tags = insert_entry (slice_cmp nat_cmp) tags (folded title) title
