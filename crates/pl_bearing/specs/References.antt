-- What the items that have a page tell of it.
use Rattle.std.specs.Prelude.{◌≡◌, ℕ, false, List, Option, map}
use Rattle.std.specs.List.{filter}
use Rattle.pl_base.specs.declared.date.Micros.{Micros}
use Rattle.pl_base.specs.declared.id.ItemId.{ItemId}
use Rattle.pl_base.specs.declared.id.PageId.{PageId}
use Rattle.pl_base.specs.Store.{Item}
use Rattle.pl_base.specs.Tree.{is_page}
use Rattle.pl_marks.specs.Alike.{is_one_of}
use Rattle.pl_marks.specs.TagFolders.{tag_title}

-- an item that has a page: its id, its title, when it was modified, and the tag that it gives
pub record Reference : Type 0 where
  pub item : ItemId
  pub title : List ℕ
  pub modified : Micros
  pub tag : Option (List ℕ)

-- the item as it stands among others
abbrev pub reference : List Item → Item → Reference
reference items i =
    record {
      item = i.id;
      title = i.title;
      modified = i.modified;
      tag = tag_title items i.id;
    }

-- those of a page, by the ascending ids of the items
abbrev pub references_of : List Item → PageId → List Reference
references_of items page =
    map (reference items) (filter (λ (i : Item). is_page page i.page) items)

-- of each page but these the items tell what they told before
abbrev pub AreReferencesAlike : List PageId → List Item → List Item → Type 0
AreReferencesAlike ids old new =
    (page : PageId) → is_one_of ids page ≡ false
    → references_of new page ≡ references_of old page
