-- What a node is, and what it leaves of a store that is ready: the folders still take items.
use Rattle.std.proofs.Common.{◌≡◌, ◌↔◌, ◌∙◌, ◌+◌, ◌==◌, ◌&&◌, ◌++◌, ℕ, Bool, true, false, List, [], ◌∷◌}
use Rattle.std.proofs.Common.{Option, Some, None, IfSome, IsSome, IsTrue, ap, if◌then◌else◌, refl}
use Rattle.std.proofs.Common.{subst, suc, sym, take, zero}
use Rattle.std.specs.Prelude.{not}
use Rattle.std.specs.List.{AllByRecursion, list_all, list_any}
use Rattle.std.specs.Option.{is_none, is_some}
use Rattle.std.proofs.lemmas.Bool.{and_parts, leb-true}
use Rattle.std.proofs.lemmas.List.{append-nil}
use Rattle.std.proofs.Math.Seq.{take-nil}
use Rattle.pl_base.proofs.ListLaws.{weaker}
use Rattle.pl_base.specs.declared.date.Micros.{Micros}
use Rattle.pl_base.specs.declared.id.ItemId.{ItemId}
use Rattle.pl_base.specs.declared.id.PageId.{PageId}
use Rattle.pl_base.specs.declared.item.ItemKind.{ItemKind}
use Rattle.pl_base.specs.declared.item.ItemKind.TheVariants.{Bookmark, Folder, Separator}
use Rattle.pl_base.specs.Date.{IsDate, last_date}
use Rattle.pl_base.specs.Good.{IsTitle, has_page_at}
use Rattle.pl_base.specs.Store.{Item, Page, Store, item_id}
use Rattle.pl_base.specs.Title.{cut_title}
use Rattle.pl_base.specs.Visiting.{find_page, new_page, with_page_for}
use Rattle.pl_base.proofs.ItemLookUps.{folder_kind}
use Rattle.pl_nbread.specs.declared.tree.Node.{Node}
use Rattle.pl_nbread.specs.WellFormed.{is_bookmark, is_date, is_folder, is_formed}
use Rattle.pl_tree.specs.Refused.{parent_refusal}
use Rattle.pl_tree.specs.Tagged.{tag_entry}
use Rattle.pl_words.specs.TagLists.{each_once, is_same_tag}
use Rattle.pl_words.specs.TagName.{is_tag_name}
use Rattle.pl_words.proofs.TagTests.{named_by_test}
use Rattle.pl_graft.specs.Import.{folder_of, folders_behind, innermost, node_row, page_of, tagged_store, with_item_of}
use Rattle.pl_graft.specs.Import.{with_node, with_page_of, with_tag, with_tags, with_tags_of}
use Rattle.pl_graft.specs.Ready.{IsReady, Takes}
use Rattle.pl_graft.proofs.Ready.{has_page_for, items_page, ready_page, ready_row, ready_tag, takes_new, takes_row}
use Rattle.pl_graft.proofs.Ready.{takes_tag}

-- ---- what a node is

dated : (date : Micros) → is_date date ≡ true → IsDate date
dated date is = leb-true date.0 last_date is

-- what is told of a node that is formed
pub record IsFormed (node : Node) : Type 0 where
  pub bookmark : (if is_bookmark node.kind then is_some node.url else not (is_some node.url)) ≡ true
  pub added : IsDate node.added
  pub modified : IsDate node.modified
  pub tags : list_all is_tag_name node.tags ≡ true

pub formed : (node : Node) → IsTrue (is_formed node) → IsFormed node
formed node is =
    let kind : Bool = if is_bookmark node.kind then is_some node.url else not (is_some node.url) in
    let names : Bool = list_all is_tag_name node.tags in
    let once : Bool = each_once is_same_tag node.tags in
    let a = and_parts (kind && is_date node.added && is_date node.modified && names) once is in
    let b = and_parts (kind && is_date node.added && is_date node.modified) names a.0 in
    let d = and_parts (kind && is_date node.added) (is_date node.modified) b.0 in
    let e = and_parts kind (is_date node.added) d.0 in
    record {
      bookmark = e.0;
      added = dated node.added e.1;
      modified = dated node.modified d.1;
      tags = b.1;
    }

-- a page exactly where it is a bookmark
pub kind_fits : (kind : ItemKind) (url : Option (List ℕ)) (store : Store)
    → (if is_bookmark kind then is_some url else not (is_some url)) ≡ true
    → IsSome (page_of url store) ↔ (kind ≡ Bookmark)
kind_fits Bookmark (Some url) store is = (λ _. refl, λ _. refl)
kind_fits Bookmark None store is = absurd (cc)
kind_fits Folder (Some url) store is = absurd (cc)
kind_fits Folder None store is = (λ some. absurd (cc), λ same. absurd (cc))
kind_fits Separator (Some url) store is = absurd (cc)
kind_fits Separator None store is = (λ some. absurd (cc), λ same. absurd (cc))

-- ---- its page

pub page_there : (url : Option (List ℕ)) (store : Store)
    → IfSome (page_of url store) (λ page. IsTrue (has_page_at (with_page_of url store) page))
page_there None store = tt
page_there (Some url) store = has_page_for store url

-- a page more changes no items
items_page_of : (url : Option (List ℕ)) (store : Store) → (with_page_of url store).items ≡ store.items
items_page_of None store = refl
items_page_of (Some url) store = items_page store url

pub takes_page_of : (url : Option (List ℕ)) (store : Store) (folder : ItemId) → Takes store folder
    → Takes (with_page_of url store) folder
takes_page_of url store folder takes =
    ap (λ (items : List Item). parent_refusal items folder) (items_page_of url store) ∙ takes

pub item_page : (store : Store) (url : List ℕ) → (with_page_for store url).ids.item ≡ store.ids.item
item_page store url = choose (is_none (find_page url store.pages))
  where
    choose : (b : Bool) → (if b then record store {
      pages = store.pages ++ new_page store url ∷ [];
      ids = record store.ids { page = store.ids.page + 1 };
    } else store).ids.item ≡ store.ids.item
    choose true = refl
    choose false = refl

pub item_page_of : (url : Option (List ℕ)) (store : Store) → (with_page_of url store).ids.item ≡ store.ids.item
item_page_of None store = refl
item_page_of (Some url) store = item_page store url

pub ready_page_of : (url : Option (List ℕ)) (store : Store) → IsReady store → IsReady (with_page_of url store)
ready_page_of None store r = r
ready_page_of (Some url) store r = ready_page store url r

-- ---- its tags

pub pages_tag : (store : Store) (id : PageId) (date : Micros) (name : List ℕ)
    → (with_tag id date name store).pages ≡ store.pages
pages_tag store id date name = choose (is_some (tag_entry id name store.items))
  where
    choose : (b : Bool) → (if b then store else tagged_store id name date store).pages ≡ store.pages
    choose true = refl
    choose false = refl

pub pages_tags : (id : PageId) (date : Micros) (names : List (List ℕ)) (store : Store)
    → (with_tags id date names store).pages ≡ store.pages
pages_tags id date [] store = refl
pages_tags id date (name ∷ names) store =
    pages_tags id date names (with_tag id date name store) ∙ pages_tag store id date name

-- the page is there behind a tag
pub there_tag : (store : Store) (id : PageId) (date : Micros) (name : List ℕ) → IsTrue (has_page_at store id)
    → IsTrue (has_page_at (with_tag id date name store) id)
there_tag store id date name there =
    ap (list_any (λ (p : Page). p.id.0 == id.0)) (pages_tag store id date name) ∙ there

module _ (id : PageId) (date : Micros) (is_date : IsDate date) where
  takes_tags : (names : List (List ℕ)) (store : Store) → IsReady store → list_all is_tag_name names ≡ true
      → IsTrue (has_page_at store id) → (folder : ItemId) → Takes store folder
      → Takes (with_tags id date names store) folder
  takes_tags [] store r named there folder takes = takes
  takes_tags (name ∷ names) store r named there folder takes =
      let parts = and_parts (is_tag_name name) (list_all is_tag_name names) named in
      takes_tags names (with_tag id date name store)
      (ready_tag store id date name r (named_by_test name parts.0) is_date there) parts.1
      (there_tag store id date name there) folder (takes_tag store id date name r folder takes)

-- ---- the node

module _ (node : Node) (f : IsFormed node) (item : Store) (r : IsReady item) where
  takes_tags_of : (page : Option PageId) → IfSome page (λ id. IsTrue (has_page_at item id)) → (folder : ItemId)
      → Takes item folder → Takes (with_tags_of page node item) folder
  takes_tags_of None there folder takes = takes
  takes_tags_of (Some id) there folder takes =
      takes_tags id node.added f.added node.tags item r f.tags there folder takes

module _ (store : Store) (parent : ItemId) (node : Node) (r : IsReady store) (takes : Takes store parent)
    (f : IsFormed node) (title : IsTitle (cut_title node.title)) where
  pub ready_item_of : IsReady (with_item_of parent node store)
  ready_item_of =
      ready_row (with_page_of node.url store) parent (node_row parent (page_of node.url store) node)
      (cut_title node.title) (ready_page_of node.url store r) (takes_page_of node.url store parent takes) title f.added
      f.modified (kind_fits node.kind node.url store f.bookmark) (page_there node.url store)

  takes_item_of : (folder : ItemId) → Takes store folder → Takes (with_item_of parent node store) folder
  takes_item_of folder folder_takes =
      takes_row (with_page_of node.url store) parent (node_row parent (page_of node.url store) node)
      (cut_title node.title) (ready_page_of node.url store r) (takes_page_of node.url store parent takes) folder
      (takes_page_of node.url store folder folder_takes)

  item_takes : is_folder node.kind ≡ true → Takes (with_item_of parent node store) (item_id store.ids.item)
  item_takes is =
      subst (λ (n : ℕ). Takes (with_item_of parent node store) (item_id n)) (item_page_of node.url store)
      (takes_new (with_page_of node.url store) parent (node_row parent (page_of node.url store) node)
      (cut_title node.title) (ready_page_of node.url store r) (takes_page_of node.url store parent takes)
      (folder_kind is_folder refl refl node.kind is))

  -- a folder that takes items goes on to
  pub takes_node : (folder : ItemId) → Takes store folder → Takes (with_node parent node store) folder
  takes_node folder folder_takes =
      takes_tags_of node f (with_item_of parent node store) ready_item_of (page_of node.url store)
      (page_there node.url store) folder (takes_item_of folder folder_takes)

  -- a folder that is new takes items
  pub node_takes : is_folder node.kind ≡ true → Takes (with_node parent node store) (item_id store.ids.item)
  node_takes is =
      takes_tags_of node f (with_item_of parent node store) ready_item_of (page_of node.url store)
      (page_there node.url store) (item_id store.ids.item) (item_takes is)

-- ---- the folders of a list

module _ (P : ItemId → Type 0) where
  among_first : (n : ℕ) (folders : List ItemId) → AllByRecursion P folders → AllByRecursion P (take n folders)
  among_first n [] all = rw take-nil tt
  among_first zero (folder ∷ folders) all = tt
  among_first (suc n) (folder ∷ folders) all = (all.0, among_first n folders all.1)

  innermost_has : (root : ItemId) (folders : List ItemId) → P root → AllByRecursion P folders
      → P (innermost root folders)
  innermost_has root [] here all = here
  innermost_has root (folder ∷ folders) here all = innermost_has folder folders all.0 all.1

  one_more : (folders : List ItemId) (last : ItemId) → AllByRecursion P folders → P last
      → AllByRecursion P (folders ++ last ∷ [])
  one_more [] last all here = (here, tt)
  one_more (folder ∷ folders) last all here = (all.0, one_more folders last all.1 here)

  maybe_more : (b : Bool) (folders : List ItemId) (last : ItemId) → AllByRecursion P folders → (b ≡ true → P last)
      → AllByRecursion P (folders ++ (if b then last ∷ [] else []))
  maybe_more true folders last all here = one_more folders last all (here refl)
  maybe_more false folders last all here = subst (AllByRecursion P) (sym (append-nil folders)) all

-- the folder of a node takes items, where the root and the folders that are open do
pub folder_takes : (store : Store) (root : ItemId) (folders : List ItemId) (node : Node) → Takes store root
    → AllByRecursion (Takes store) folders → Takes store (folder_of root folders node)
folder_takes store root folders node takes all =
    innermost_has (Takes store) root (take node.depth folders) takes
    (among_first (Takes store) node.depth folders all)

-- those that are open behind a node take items
pub behind_take : (old new : Store) (folders : List ItemId) (node : Node) (id : ItemId)
    → AllByRecursion (Takes old) folders → ((folder : ItemId) → Takes old folder → Takes new folder)
    → (is_folder node.kind ≡ true → Takes new id) → AllByRecursion (Takes new) (folders_behind folders node id)
behind_take old new folders node id all goes_on takes =
    maybe_more (Takes new) (is_folder node.kind) (take node.depth folders) id
    (weaker (Takes old) (Takes new) (take node.depth folders) goes_on
    (among_first (Takes old) node.depth folders all))
    takes
