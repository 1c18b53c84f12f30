-- What holds of every store that the program makes or opens.
use Rattle.std.specs.Prelude.{◌≡◌, ◌≢◌, ◌↔◌, ℕ, ◌-◌, ◌<◌, ◌≤◌, ◌==◌, ◌||◌, not, Bool}
use Rattle.std.specs.Prelude.{List, [], ◌∷◌, length, map, slice_index}
use Rattle.std.specs.Prelude.{Some, IfSome, IsSome, IsSomeAnd, IsTrue}
use Rattle.std.specs.List.{All, AllPairs, flat_map, list_any, range_with_len}
use Rattle.std.specs.List.Sorted.{IsStrictlyIncreasing}
use Rattle.std.specs.Str.{IsUtf8}
use Rattle.pl_base.specs.declared.id.ItemId.{ItemId}
use Rattle.pl_base.specs.declared.id.PageId.{PageId}
use Rattle.pl_base.specs.declared.item.ItemKind.TheVariants.{Bookmark, Folder}
use Rattle.pl_base.specs.declared.transition.Transition.TheVariants.{Typed}
use Rattle.pl_base.specs.Address.{canon}
use Rattle.pl_base.specs.Date.{IsDate, IsDay}
use Rattle.pl_base.specs.Marks.{is_referenced}
use Rattle.pl_base.specs.Redirects.{visit_by_id}
use Rattle.pl_base.specs.Fold.{folded}
use Rattle.pl_base.specs.Store.{Store, Page, Visit, Item, item_id, root_folder, top_folders}
use Rattle.pl_base.specs.Tags.{tags_of}
use Rattle.pl_base.specs.Tree.{child_items, has_item, item_at}

-- the id that is never given
abbrev pub end_of_ids : ℕ
end_of_ids = 4_294_967_295

-- ids ascend, are given from 1 on, and lie below the next one, which is at least `first`
pub record AreIds (first next : ℕ) (ids : List ℕ) : Type 0 where
  pub ascending : IsStrictlyIncreasing ids
  pub given : All (λ id. (0 < id) × (id < next)) ids
  pub next_first : first ≤ next
  pub next_last : next ≤ end_of_ids

-- the bytes of the longest title
abbrev pub longest_title : ℕ
longest_title = 4_096

-- a text that is not too long
abbrev pub IsTitle : List ℕ → Type 0
IsTitle title = IsUtf8 title × (length title ≤ longest_title)

-- a page has this id
abbrev pub has_page_at : Store → PageId → Bool
has_page_at store id = list_any (λ (p : Page). p.id.0 == id.0) store.pages

-- a visit has this page
abbrev pub is_visited : Store → PageId → Bool
is_visited store id = list_any (λ (v : Visit). v.page.0 == id.0) store.visits

-- a page has a URL of the store, stands there by a visit or an item, and is
-- typed if a visit to it was
pub record IsGoodPage (store : Store) (p : Page) : Type 0 where
  pub url : canon p.url ≡ Some p.url
  pub title : IsTitle p.title
  pub typed :
      All (λ (v : Visit). v.page ≡ p.id → v.transition ≡ Typed → IsTrue p.typed) store.visits
  pub kept : IsTrue (is_visited store p.id || is_referenced store p.id)

-- a visit has a page, and as its source, if any, an earlier visit
pub record IsGoodVisit (store : Store) (v : Visit) : Type 0 where
  pub date : IsDate v.date
  pub page : IsTrue (has_page_at store v.page)
  pub source : IfSome v.source (λ id. (id.0 < v.id.0) × IsSome (visit_by_id store id))

-- an item has a page exactly where it is a bookmark, and children only where it is a folder
pub record IsGoodItem (store : Store) (i : Item) : Type 0 where
  pub title : IsTitle i.title
  pub added : IsDate i.added
  pub modified : IsDate i.modified
  pub bookmark : IsSome i.page ↔ (i.kind ≡ Bookmark)
  pub page : IfSome i.page (λ id. IsTrue (has_page_at store id))
  pub children : i.children ≢ [] → i.kind ≡ Folder

-- ---- the bookmark tree

-- the ids of all children
abbrev pub child_ids : List Item → List ItemId
child_ids items = flat_map (λ (i : Item). i.children) items

-- every item is reached from item 1 by way of children: what holds of item 1, and of each child of
-- an item that it holds of, holds of all
abbrev pub IsReached : List Item → Type 0
IsReached items =
    (holds : ItemId → Bool) → IsTrue (holds (item_id 1))
    → All (λ (i : Item). IsTrue (holds i.id) → All (λ c. IsTrue (holds c)) i.children) items
    → All (λ (i : Item). IsTrue (holds i.id)) items

-- the items are one tree: each child is an item, item 1 is no child and no item is one twice, and
-- every item is reached from item 1
pub record IsTree (items : List Item) : Type 0 where
  pub known : All (λ c. IsTrue (has_item items c)) (child_ids items)
  pub once : AllPairs (λ (a b : ItemId). a ≢ b) (item_id 1 ∷ child_ids items)
  pub reached : IsReached items

-- item n is a folder as it stood at first, but for its children
abbrev pub IsTopFolder : Store → ℕ → Type 0
IsTopFolder store n =
    IsSomeAnd (item_at store.items (item_id n)) (λ i. i ≡ root_folder n i.children)

-- the six roots stand as they stood at first, but for the children of 2 to 6
pub record HasRoots (store : Store) : Type 0 where
  pub root : item_at store.items (item_id 1) ≡ Some (root_folder 1 top_folders)
  pub top : All (IsTopFolder store) (range_with_len 2 5)

-- ---- tags

-- TAB, LF, FF, CR and the space
abbrev pub is_blank : ℕ → Bool
is_blank b = (b == 9) || (b == 10) || (b == 12) || (b == 13) || (b == 32)

-- a text of 1 to 100 bytes with no comma and no blank at either end
pub record IsTagName (name : List ℕ) : Type 0 where
  pub text : IsUtf8 name
  pub some : 0 < length name
  pub few : length name ≤ 100
  pub no_comma : All (λ b. b ≢ 44) name
  pub no_blank_before : IsTrue (not (is_blank (slice_index name 0)))
  pub no_blank_after : IsTrue (not (is_blank (slice_index name (length name - 1))))

-- a tag folder is named by the tag, and holds a bookmark without a title for each page that has it
pub record IsTagFolder (store : Store) (tag : Item) : Type 0 where
  pub kind : tag.kind ≡ Folder
  pub name : IsTagName tag.title
  pub used : tag.children ≢ []
  pub entries :
      All (λ (i : Item). (i.kind ≡ Bookmark) × (i.title ≡ [])) (child_items store.items tag.id)
  pub pages : AllPairs (λ (i j : Item). i.page ≢ j.page) (child_items store.items tag.id)

-- the tags are tag folders, and no two have the same name
pub record HasTags (store : Store) : Type 0 where
  pub folders : All (IsTagFolder store) (tags_of store)
  pub names : AllPairs (λ (a b : Item). folded a.title ≢ folded b.title) (tags_of store)

-- ---- the whole

-- the items are those of a good store, but for their ids
pub record HasGoodItems (store : Store) : Type 0 where
  pub items : All (IsGoodItem store) store.items
  pub roots : HasRoots store
  pub tree : IsTree store.items
  pub tags : HasTags store

-- each row is good, ids and URLs stand once, and the tree has its roots and tags
pub record IsGood (store : Store) : Type 0 where
  pub day : IsDay store.day
  pub page_ids : AreIds 1 store.ids.page (map (λ (p : Page). p.id.0) store.pages)
  pub visit_ids : AreIds 1 store.ids.visit (map (λ (v : Visit). v.id.0) store.visits)
  pub item_ids : AreIds 7 store.ids.item (map (λ (i : Item). i.id.0) store.items)
  pub pages : All (IsGoodPage store) store.pages
  pub urls : AllPairs (λ (p q : Page). p.url ≢ q.url) store.pages
  pub visits : All (IsGoodVisit store) store.visits
  pub items : All (IsGoodItem store) store.items
  pub roots : HasRoots store
  pub tree : IsTree store.items
  pub tags : HasTags store
