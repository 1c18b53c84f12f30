-- What the store holds, after the schema of Mozilla Places: `moz_places`, `moz_historyvisits` and
-- `moz_bookmarks`. Each list goes by ascending id.
use Rattle.std.specs.Prelude.{ℕ, ◌==◌, Bool, List, [], ◌∷◌, map, Option, None}
use Rattle.std.specs.List.{find, range_with_len}
use Rattle.std.specs.Option.{option_map}
use Rattle.pl_base.specs.declared.date.Day.{Day}
use Rattle.pl_base.specs.declared.date.Micros.{Micros}
use Rattle.pl_base.specs.declared.id.Ids.{Ids}
use Rattle.pl_base.specs.declared.id.ItemId.{ItemId}
use Rattle.pl_base.specs.declared.id.PageId.{PageId}
use Rattle.pl_base.specs.declared.id.VisitId.{VisitId}
use Rattle.pl_base.specs.declared.item.ItemKind.{ItemKind}
use Rattle.pl_base.specs.declared.item.ItemKind.TheVariants.{Folder}
use Rattle.pl_base.specs.declared.transition.Transition.{Transition}

-- a page, and whether its address was ever typed while the page stands
pub record Page : Type 0 where
  pub id : PageId
  pub url : List ℕ
  pub title : List ℕ
  pub typed : Bool

-- a visit to a page, and the visit that it came from
pub record Visit : Type 0 where
  pub id : VisitId
  pub page : PageId
  pub date : Micros
  pub transition : Transition
  pub source : Option VisitId

-- a row of the bookmark tree. Tags are rows too: a tag is a folder in the tags root, and the pages
-- that have the tag are the bookmarks in that folder
pub record Item : Type 0 where
  pub id : ItemId
  pub kind : ItemKind
  pub title : List ℕ
  pub page : Option PageId
  pub added : Micros
  pub modified : Micros
  pub children : List ItemId

-- the store's day, its next ids, and its rows
pub record Store : Type 0 where
  pub day : Day
  pub ids : Ids
  pub pages : List Page
  pub visits : List Visit
  pub items : List Item

-- the URL of a page
abbrev pub page_url : Store → PageId → Option (List ℕ)
page_url store id =
    option_map (λ (p : Page). p.url) (find (λ (p : Page). p.id.0 == id.0) store.pages)

-- the item id with this number
abbrev pub item_id : ℕ → ItemId
item_id n = record { 0 = n }

-- a folder with no title, and with the first moment of 1970 as its dates
abbrev pub root_folder : ℕ → List ItemId → Item
root_folder n children =
    record {
      id = item_id n;
      kind = Folder;
      title = [];
      page = None;
      added = record { 0 = 0 };
      modified = record { 0 = 0 };
      children = children;
    }

-- the items from 2 to 6: `menu________`, `toolbar_____`, `tags________`,
-- `unfiled_____`, `mobile______`
abbrev pub top_folders : List ItemId
top_folders = map item_id (range_with_len 2 5)

-- the root `root________` and the five below it
abbrev pub roots : List Item
roots = root_folder 1 top_folders ∷ map (λ n. root_folder n []) (range_with_len 2 5)

-- the store before its first command
abbrev pub opening : Store
opening =
    record {
      day = record { 0 = 0 };
      ids = record { page = 1; visit = 1; item = 7 };
      pages = [];
      visits = [];
      items = roots;
    }
