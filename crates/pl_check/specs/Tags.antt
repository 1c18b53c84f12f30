-- When the tags among the items of a file are those of a good store.
use Rattle.std.specs.Prelude.{◌≡◌, ◌≢◌, ◌==◌, ◌&&◌, ℕ, Bool, true, List, [], length, map}
use Rattle.std.specs.Prelude.{Option, Some, None}
use Rattle.std.specs.Borrow.{Bor}
use Rattle.std.specs.List.{All, AllPairs, list_all}
use Rattle.pl_base.specs.declared.id.PageId.{PageId}
use Rattle.pl_base.specs.declared.item.ItemKind.TheVariants.{Folder}
use Rattle.pl_base.specs.Fold.{folded}
use Rattle.pl_base.specs.Good.{IsTagName}
use Rattle.pl_base.specs.Store.{Item}
use Rattle.pl_base.specs.Tags.{tags_root}
use Rattle.pl_base.specs.Tree.{child_items}
use Rattle.pl_check.specs.Items.{is_bookmark}

-- what the references point to
abbrev pub targets : {X : Type 0} → List (Bor X) → List X
targets {X} refs = map (λ (r : Bor X). r.now) refs

-- the number of a page, and 0 of none
abbrev pub number_of : Option PageId → ℕ
number_of None = 0
number_of (Some page) = page.0

-- the numbers of the pages of items
abbrev pub page_numbers : List Item → List ℕ
page_numbers items = map (λ (i : Item). number_of i.page) items

-- a bookmark without a title
abbrev pub is_tag_entry : Item → Bool
is_tag_entry i = is_bookmark i.kind && (length i.title == 0)

-- a folder that is named by a tag, and has children
pub record IsTag (tag : Item) : Type 0 where
  pub kind : tag.kind ≡ Folder
  pub name : IsTagName tag.title
  pub used : tag.children ≢ []

-- no two are the same
abbrev pub AreDistinct : {X : Type 0} → List X → Type 0
AreDistinct {X} xs = AllPairs (λ (x y : X). x ≢ y) xs

-- the items are bookmarks without a title, and no two have pages of the same number
pub record AreEntries (entries : List Item) : Type 0 where
  pub each : list_all is_tag_entry entries ≡ true
  pub pages : AreDistinct (page_numbers entries)

-- a tag folder among the items
pub record IsGoodTag (items : List Item) (tag : Item) : Type 0 where
  pub tag_folder : IsTag tag
  pub entries : AreEntries (child_items items tag.id)

-- the folds of the titles
abbrev pub folds_of : List Item → List (List ℕ)
folds_of tags = map (λ (t : Item). folded t.title) tags

-- the tags of the items are tag folders, and no two have titles that fold alike
pub record HaveGoodTags (items : List Item) : Type 0 where
  pub folders : All (IsGoodTag items) (child_items items tags_root)
  pub names : AreDistinct (folds_of (child_items items tags_root))
