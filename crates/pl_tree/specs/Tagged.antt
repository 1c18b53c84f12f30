-- Tags that pages get and lose: entries in tag folders, which are found by their names' folds.
use Rattle.std.specs.Prelude.{ℕ, ◌+◌, ◌-◌, List, [], ◌∷◌, bytes_eq, unwrap_or}
use Rattle.std.specs.Prelude.{Option, Some, None, if◌then◌else◌}
use Rattle.std.specs.List.{find}
use Rattle.std.specs.Option.{is_none, option_and_then, option_map}
use Rattle.pl_base.specs.declared.date.Micros.{Micros}
use Rattle.pl_base.specs.declared.id.ItemId.{ItemId}
use Rattle.pl_base.specs.declared.id.PageId.{PageId}
use Rattle.pl_base.specs.declared.item.ItemKind.TheVariants.{Bookmark, Folder}
use Rattle.pl_base.specs.Fold.{folded}
use Rattle.pl_base.specs.Rows.{Kept}
use Rattle.pl_base.specs.Store.{Item, item_id}
use Rattle.pl_base.specs.Tags.{tags_root}
use Rattle.pl_base.specs.Tree.{child_items, children_of, is_page, removed}
use Rattle.pl_tree.specs.declared.new_item.NewItem.{NewItem}
use Rattle.pl_tree.specs.declared.place.Place.TheVariants.{End}
use Rattle.pl_tree.specs.Changes.{with_new}

-- ---- looking up

-- the tag folder with this name, in whatever case
abbrev pub tag_named : List ℕ → List Item → Option Item
tag_named name items =
    find (λ (t : Item). bytes_eq (folded t.title) (folded name)) (child_items items tags_root)

-- the entry of the page in a tag folder
abbrev pub entry_in : List Item → PageId → Item → Option Item
entry_in items page tag = find (λ (i : Item). is_page page i.page) (child_items items tag.id)

-- the entry by which the page has the tag with this name
abbrev pub tag_entry : PageId → List ℕ → List Item → Option Item
tag_entry page name items = option_and_then (entry_in items page) (tag_named name items)

-- ---- a page gets a tag

-- a new tag folder
abbrev pub new_tag : List ℕ → Micros → NewItem
new_tag name date = record { kind = Folder; title = name; page = None; date = date }

-- a new entry of a page
abbrev pub new_entry : PageId → Micros → NewItem
new_entry page date = record { kind = Bookmark; title = []; page = Some page; date = date }

-- how many items are made: an entry, and a folder where no tag has the name
abbrev pub new_items : List ℕ → List Item → ℕ
new_items name items = if is_none (tag_named name items) then 2 else 1

-- the items with a folder for the tag, which has the next id where it is new
abbrev pub with_tag : ℕ → List ℕ → Micros → List Item → List Item
with_tag next name date items =
    if is_none (tag_named name items)
    then with_new (item_id next) tags_root End (new_tag name date) items
    else items

-- the id of that folder
abbrev pub tag_id : ℕ → List ℕ → List Item → ItemId
tag_id next name items =
    unwrap_or (option_map (λ (t : Item). t.id) (tag_named name items)) (item_id next)

-- the items where the page has the tag: a new entry at the end of its folder
abbrev pub tagged_items : ℕ → PageId → List ℕ → Micros → List Item → List Item
tagged_items next page name date items =
    with_new (item_id (next + (new_items name items - 1))) (tag_id next name items) End
    (new_entry page date) (with_tag next name date items)

-- the rows where the page has the tag
abbrev pub with_tagged : PageId → List ℕ → Micros → Kept → Kept
with_tagged page name date kept =
    record kept {
      ids = record kept.ids { item = kept.ids.item + new_items name kept.items };
      items = tagged_items kept.ids.item page name date kept.items;
    }

-- ---- a page loses a tag

-- the one where there is no id, else the other
abbrev pub if_none_left : List ItemId → List Item → List Item → List Item
if_none_left [] without with_it = without
if_none_left (c ∷ cs) without with_it = with_it

-- the items without the folder, where nothing is in it
abbrev pub without_unused : ItemId → List Item → List Item
without_unused tag items = if_none_left (children_of items tag) (removed tag items) items

-- the items without the entry, and without its folder where it was the last one
abbrev pub without_entry : Option Item → Option Item → List Item → List Item
without_entry None entry items = items
without_entry (Some tag) None items = items
without_entry (Some tag) (Some entry) items = without_unused tag.id (removed entry.id items)

-- the items where the page has the tag no more
abbrev pub untagged_items : PageId → List ℕ → List Item → List Item
untagged_items page name items =
    without_entry (tag_named name items) (tag_entry page name items) items
