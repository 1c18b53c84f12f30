-- What a store keeps of a good one where a tree of bookmarks is imported, whatever ids that takes.
use Rattle.std.proofs.Common.{◌≡◌, ◌<◌, ◌⊎◌, ◌+◌, ◌++◌, ◌∙◌, inl, inr, ℕ, All, Bool, true, false, IsTrue, List, [], ◌∷◌}
use Rattle.std.proofs.Common.{Option, Some, None, IfSome, ap, eq-eqb, if◌then◌else◌, is_some, refl}
use Rattle.std.specs.Prelude.{◌↔◌}
use Rattle.std.specs.List.{AllByRecursion, list_all}
use Rattle.std.specs.Option.{IsSome}
use Rattle.std.proofs.lemmas.Bool.{and_parts}
use Rattle.std.proofs.lemmas.List.Elements.{recursion_from_All}
use Rattle.pl_base.specs.declared.date.Micros.{Micros}
use Rattle.pl_base.specs.declared.id.ItemId.{ItemId}
use Rattle.pl_base.specs.declared.id.PageId.{PageId}
use Rattle.pl_base.specs.declared.item.ItemKind.TheVariants.{Bookmark}
use Rattle.pl_base.specs.declared.item.ItemRow.{ItemRow}
use Rattle.pl_base.specs.Date.{IsDate}
use Rattle.pl_base.specs.Good.{IsTagName, IsTitle, has_page_at}
use Rattle.pl_base.specs.Store.{Item, Store, item_id}
use Rattle.pl_base.specs.Title.{cut_title}
use Rattle.pl_base.specs.Tree.{is_page, new_item}
use Rattle.pl_base.specs.Visiting.{page_for, with_page_for}
use Rattle.pl_base.proofs.ListLaws.{list_any_last}
use Rattle.pl_nbread.specs.declared.tree.Node.{Node}
use Rattle.pl_nbread.specs.declared.tree.Tree.{Tree}
use Rattle.pl_nbread.specs.WellFormed.{AreWellFormed, is_formed}
use Rattle.pl_tree.specs.declared.place.Place.TheVariants.{End}
use Rattle.pl_tree.specs.Changes.{with_child}
use Rattle.pl_tree.specs.Tagged.{new_items, tag_entry, tagged_items}
use Rattle.pl_tree.proofs.GoodStores as stores
use Rattle.pl_words.specs.TagName.{is_tag_name}
use Rattle.pl_words.proofs.TagTests.{named_by_test}
use Rattle.pl_history.proofs.GrownItems.{adds_tagged}
use Rattle.pl_graft.specs.Import.{folder_of, folders_behind, imported, node_row, page_of, tagged_store, with_item_of}
use Rattle.pl_graft.specs.Import.{with_list, with_node, with_nodes, with_page_of, with_row, with_tag, with_tags}
use Rattle.pl_graft.specs.Import.{with_tags_of}
use Rattle.pl_graft.specs.Ready.{IsReady, Takes}
use Rattle.pl_graft.proofs.NodeLaws.{IsFormed, behind_take, folder_takes, formed, kind_fits, node_takes, page_there}
use Rattle.pl_graft.proofs.NodeLaws.{pages_tag, takes_node, takes_page_of}
use Rattle.pl_graft.proofs.Ready.{takes_root}
use Rattle.pl_laws.specs.Texts.{HasNodeTexts, HasTreeTexts, IsUrl}
use Rattle.pl_laws.proofs.GoodIds.{each_below}
use Rattle.pl_laws.proofs.GoodItems.{loose_items, numbers_item, numbers_tagged, refer_more, refer_put}
use Rattle.pl_laws.proofs.GoodItems.{stand_items, stand_page}
use Rattle.pl_laws.proofs.GoodPages.{loose_page}
use Rattle.pl_laws.proofs.GoodParts.{AreStanding, IsLoose, has_page}
use Rattle.pl_laws.proofs.GoodTitles.{cut_is_title}

-- what is kept behind each node: where each page stood before the import, each still does
pub record IsGrown (stood : Bool) (store : Store) : Type 0 where
  pub loose : IsLoose store
  pub standing : stood ≡ true → AreStanding store

pub below_item : (store : Store) → IsLoose store → All (λ (i : Item). i.id.0 < store.ids.item) store.items
below_item store l = each_below (λ (i : Item). i.id.0) 7 store.ids.item store.items l.item_ids

ready : (store : Store) → IsLoose store → IsReady store
ready store l =
    record {
      good = l.items;
      ascending = l.item_ids.ascending;
      below = below_item store l;
      first = l.item_ids.next_first;
    }

-- ---- a tag

pub loose_tagged : (store : Store) (page : PageId) (name : List ℕ) (date : Micros) → IsLoose store → IsTagName name
    → IsDate date → IsTrue (has_page page store.pages) → is_some (tag_entry page name store.items) ≡ false
    → IsLoose (tagged_store page name date store)
loose_tagged store page name date l named dated has none =
    loose_items store (store.ids.item + new_items name store.items)
    (tagged_items store.ids.item page name date store.items) l
    (numbers_tagged store.ids.item page name date store.items l.item_ids)
    (stores.tag_good store store.ids.item l.items l.item_ids.ascending (below_item store l) l.item_ids.next_first page
    name date (tagged_store page name date store).ids named dated has none)

module _ {stood : Bool} (page : PageId) (date : Micros) (dated : IsDate date) where
  grown_tag : (store : Store) (name : List ℕ) → IsGrown stood store → IsTagName name
      → IsTrue (has_page page store.pages) → IsGrown stood (with_tag page date name store)
  grown_tag store name g named has = choose (is_some (tag_entry page name store.items)) refl
    where
      choose : (b : Bool) → is_some (tag_entry page name store.items) ≡ b
          → IsGrown stood (if b then store else tagged_store page name date store)
      choose true is = g
      choose false is =
          record {
            loose = loose_tagged store page name date g.loose named dated has is;
            standing =
                λ all.
                stand_items store (store.ids.item + new_items name store.items)
                (tagged_items store.ids.item page name date store.items)
                (refer_more page store.items (tagged_items store.ids.item page name date store.items)
                (adds_tagged store.ids.item page name date store.items))
                (g.standing all);
          }

  grown_tags : (names : List (List ℕ)) (store : Store) → IsGrown stood store → list_all is_tag_name names ≡ true
      → IsTrue (has_page page store.pages) → IsGrown stood (with_tags page date names store)
  grown_tags [] store g named has = g
  grown_tags (name ∷ names) store g named has =
      let parts = and_parts (is_tag_name name) (list_all is_tag_name names) named in
      grown_tags names (with_tag page date name store)
      (grown_tag store name g (named_by_test name parts.0) has) parts.1
      (ap (has_page page) (pages_tag store page date name) ∙ has)

-- ---- an item at the end of a folder

loose_row : (store : Store) (parent : ItemId) (row : ItemRow) (title : List ℕ) → IsLoose store → Takes store parent
    → IsTitle title → IsDate row.added → IsDate row.modified → (IsSome row.page ↔ (row.kind ≡ Bookmark))
    → IfSome row.page (λ page. IsTrue (has_page_at store page)) → IsLoose (with_row parent row title store)
loose_row store parent row title l takes named added modified bookmark page =
    let id : ItemId = item_id store.ids.item in
    loose_items store (store.ids.item + 1)
    (with_child parent End id store.items ++ new_item id row title ∷ []) l
    (numbers_item store.ids.item (store.ids.item + 1) id parent End (new_item id row title) store.items refl refl
    l.item_ids)
    (stores.put_good store store.ids.item l.items l.item_ids.ascending (below_item store l) l.item_ids.next_first parent
    row title takes (with_row parent row title store).ids named added modified bookmark page)

-- ---- a node

loose_page_of : (url : Option (List ℕ)) (store : Store) → IsLoose store → IfSome url IsUrl
    → IsLoose (with_page_of url store)
loose_page_of None store l is = l
loose_page_of (Some url) store l is = loose_page store url l is

module _ {stood : Bool} (store : Store) (parent : ItemId) (node : Node) (g : IsGrown stood store)
    (takes : Takes store parent) (f : IsFormed node) (texts : HasNodeTexts node) where
  loose_item : IsLoose (with_item_of parent node store)
  loose_item =
      loose_row (with_page_of node.url store) parent (node_row parent (page_of node.url store) node)
      (cut_title node.title) (loose_page_of node.url store g.loose texts.0) (takes_page_of node.url store parent takes)
      (cut_is_title node.title texts.1) f.added f.modified (kind_fits node.kind node.url store f.bookmark)
      (page_there node.url store)

  standing_item : stood ≡ true → AreStanding (with_item_of parent node store)
  standing_item all = choose node.url
    where
      choose : (url : Option (List ℕ))
          → AreStanding (with_row parent (node_row parent (page_of url store) node) (cut_title node.title)
          (with_page_of url store))
      choose None =
          let id : ItemId = item_id store.ids.item in
          let new : Item = new_item id (node_row parent None node) (cut_title node.title) in
          stand_items store (store.ids.item + 1) (with_child parent End id store.items ++ new ∷ [])
          (refer_put store.items parent id End new) (g.standing all)
      choose (Some url) =
          let mid : Store = with_page_for store url in
          let page : PageId = (page_for store url).id in
          let id : ItemId = item_id mid.ids.item in
          let new : Item = new_item id (node_row parent (Some page) node) (cut_title node.title) in
          stand_page store url (mid.ids.item + 1) (with_child parent End id mid.items ++ new ∷ [])
          (refer_put mid.items parent id End new)
          (list_any_last (λ (i : Item). is_page page i.page) (with_child parent End id mid.items) new
          (eq-eqb page.0 page.0 refl))
          (g.standing all)

  grown_item : IsGrown stood (with_item_of parent node store)
  grown_item = record { loose = loose_item; standing = standing_item }

  grown_node : IsGrown stood (with_node parent node store)
  grown_node = choose (page_of node.url store) (page_there node.url store)
    where
      choose : (page : Option PageId)
          → IfSome page (λ id. IsTrue (has_page_at (with_page_of node.url store) id))
          → IsGrown stood (with_tags_of page node (with_item_of parent node store))
      choose None there = grown_item
      choose (Some id) there =
          grown_tags id node.added f.added node.tags (with_item_of parent node store) grown_item f.tags there

-- ---- lists of nodes

grown_nodes : {stood : Bool} (root : ItemId) (nodes : List Node) (folders : List ItemId) (store : Store)
    → IsGrown stood store → Takes store root → AllByRecursion (Takes store) folders → list_all is_formed nodes ≡ true
    → AllByRecursion HasNodeTexts nodes → IsGrown stood (with_nodes root nodes folders store)
grown_nodes root [] folders store g takes all whole texts = g
grown_nodes root (node ∷ nodes) folders store g takes all whole texts =
    let parts = and_parts (is_formed node) (list_all is_formed nodes) whole in
    let f : IsFormed node = formed node parts.0 in
    let parent : ItemId = folder_of root folders node in
    let within : Takes store parent = folder_takes store root folders node takes all in
    let title : IsTitle (cut_title node.title) = cut_is_title node.title texts.0.1 in
    let new : Store = with_node parent node store in
    let r : IsReady store = ready store g.loose in
    grown_nodes root nodes (folders_behind folders node (item_id store.ids.item)) new
    (grown_node store parent node g within f texts.0)
    (takes_node store parent node r within f title root takes)
    (behind_take store new folders node (item_id store.ids.item) all
    (takes_node store parent node r within f title) (node_takes store parent node r within f title))
    parts.1 texts.1

grown_list : {stood : Bool} (n : ℕ) (nodes : List Node) (store : Store) → (n ≡ 2) ⊎ (n ≡ 3) ⊎ (n ≡ 5) ⊎ (n ≡ 6)
    → IsGrown stood store → list_all is_formed nodes ≡ true → All HasNodeTexts nodes
    → IsGrown stood (with_list (item_id n) nodes store)
grown_list n nodes store is g whole texts =
    grown_nodes (item_id n) nodes [] store g (takes_root store n (ready store g.loose) is) tt whole
    (recursion_from_All HasNodeTexts nodes texts)

pub grown_import : {stood : Bool} (tree : Tree) (store : Store) → AreWellFormed tree → HasTreeTexts tree
    → IsGrown stood store → IsGrown stood (imported tree store)
grown_import tree store whole texts g =
    let first : Store = with_list (item_id 2) tree.menu store in
    let second : Store = with_list (item_id 3) tree.toolbar first in
    let third : Store = with_list (item_id 5) tree.unfiled second in
    grown_list 6 tree.mobile third (inr (inr (inr refl)))
    (grown_list 5 tree.unfiled second (inr (inr (inl refl)))
    (grown_list 3 tree.toolbar first (inr (inl refl))
    (grown_list 2 tree.menu store (inl refl) g whole.menu.formed texts.menu)
    whole.toolbar.formed texts.toolbar)
    whole.unfiled.formed texts.unfiled)
    whole.mobile.formed texts.mobile
