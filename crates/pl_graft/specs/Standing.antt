-- What holds while an import goes on, and what each part of it keeps.
use Rattle.std.specs.Prelude.{◌≡◌, ◌<◌, ◌≤◌, ◌+◌, ◌==◌, ◌++◌, ◌∷◌, [], ℕ, Bool, List, Option}
use Rattle.std.specs.Prelude.{if◌then◌else◌}
use Rattle.std.specs.BTreeSet.{BTreeSet}
use Rattle.std.specs.List.{list_any}
use Rattle.pl_base.specs.declared.id.ItemId.{ItemId}
use Rattle.pl_base.specs.declared.id.PageId.{PageId}
use Rattle.pl_base.specs.declared.item.ItemKind.{ItemKind}
use Rattle.pl_base.specs.declared.item.ItemKind.TheVariants.{Folder}
use Rattle.pl_base.specs.Good.{HasGoodItems, end_of_ids}
use Rattle.pl_base.specs.Live.{live_slots, slot_limit}
use Rattle.pl_base.specs.Rows.{Kept}
use Rattle.pl_base.specs.Store.{Item, Store}
use Rattle.pl_base.specs.Title.{cut_title}
use Rattle.pl_base.specs.Tree.{children_of}
use Rattle.pl_nbread.specs.declared.tree.Node.{Node}
use Rattle.pl_keyed.specs.KnownPages.{KnowsPages}
use Rattle.pl_keyed.specs.KnownTags.{KnowsTags}
use Rattle.pl_keyed.specs.TagRows.{tag_rows}
use Rattle.pl_graft.specs.declared.grafting.Grafting.{Grafting}
use Rattle.pl_graft.specs.Gained.{Grows, has_new_item}
use Rattle.pl_graft.specs.Import.{entry_count, node_row, with_row}
use Rattle.pl_graft.specs.Ready.{Takes}

-- ids and slots suffice for it
pub record HasRoom (store : Store) : Type 0 where
  pub page_ids : store.ids.page ≤ end_of_ids
  pub item_ids : store.ids.item ≤ end_of_ids
  pub live : live_slots store ≤ slot_limit

-- the items are good, the look-ups find the pages and the tags, and fewer tags were made than ids
-- are given
pub record IsStanding (store : Store) (grafting : Grafting) : Type 0 where
  pub good : HasGoodItems store
  pub pages : KnowsPages grafting.pages store.pages
  pub tags : KnowsTags grafting.tags (tag_rows store.items)
  pub made : grafting.made < store.ids.item

-- ---- what is told of it

-- the page is one of these
abbrev pub holds_page : BTreeSet PageId → PageId → Bool
holds_page pages page = list_any (λ (p : PageId). p.0 == page.0) pages.keys

-- the page has an item more
abbrev pub is_gained : Grafting → PageId → Bool
is_gained grafting page = holds_page grafting.gained page

-- the pages that have an item more are those of the items from this id on
abbrev pub HasGained : ℕ → List Item → Grafting → Type 0
HasGained first items grafting =
    (page : PageId) → is_gained grafting page ≡ has_new_item first items page

-- the rows go on, and what is told of them: how many tags were made, and which pages have an item
-- more
pub record GoesOn (old new : Kept) (before after : Grafting) : Type 0 where
  pub grows : Grows old new
  pub later : old.ids.item ≤ new.ids.item
  pub tags : entry_count old.items + after.made ≡ entry_count new.items + before.made
  pub pages :
      (first : ℕ) → first ≤ old.ids.item → HasGained first old.items before
      → HasGained first new.items after

-- the store with the item of a node at the end of a folder, which has this page
abbrev pub with_item : ItemId → Option PageId → Node → Store → Store
with_item parent page node store =
    with_row parent (node_row parent page node) (cut_title node.title) store

-- ---- folders

-- the folders that take items have the same children
pub record KeepsFolders (old new : Store) : Type 0 where
  pub takes : (folder : ItemId) → Takes old folder → Takes new folder
  pub children :
      (folder : ItemId) → Takes old folder
      → children_of new.items folder ≡ children_of old.items folder

-- an item more at the end of a folder: the other folders that take items have the same children,
-- and a new folder takes items and has none
pub record Puts (parent : ItemId) (kind : ItemKind) (id : ItemId) (old new : Store) : Type 0 where
  pub takes : (folder : ItemId) → Takes old folder → Takes new folder
  pub children :
      (folder : ItemId) → Takes old folder
      → children_of new.items folder
      ≡ (if folder.0 == parent.0 then children_of old.items folder ++ id ∷ []
      else children_of old.items folder)
  pub opened : kind ≡ Folder → Takes new id
  pub empty : kind ≡ Folder → children_of new.items id ≡ []
