-- What an import keeps where a node becomes an item.
use Rattle.std.proofs.Common.{◌≡◌, ◌∙◌, ◌==◌, ◌||◌, ℕ, Bool, true, List, Option}
use Rattle.std.proofs.Common.{Some, None, IfSome, ap, arith, length, refl, subst, sym}
use Rattle.std.specs.List.{list_any, sum_by}
use Rattle.pl_base.specs.declared.id.ItemId.{ItemId}
use Rattle.pl_base.specs.declared.id.PageId.{PageId}
use Rattle.pl_base.specs.declared.item.ItemKind.TheVariants.{Folder}
use Rattle.pl_base.specs.declared.item.ItemRow.{ItemRow}
use Rattle.pl_base.specs.Good.{HasGoodItems}
use Rattle.pl_base.specs.Rows.{Kept, has_page, store_of}
use Rattle.pl_base.specs.Store.{Page, Store, item_id}
use Rattle.pl_base.specs.Title.{cut_title}
use Rattle.pl_base.specs.Tree.{children_of, is_page}
use Rattle.pl_base.specs.Visiting.{page_for}
use Rattle.pl_nbread.specs.declared.tree.Node.{Node}
use Rattle.pl_tree.specs.Changes.{with_appended}
use Rattle.pl_keyed.specs.TagRows.{TagRow, tag_rows}
use Rattle.pl_graft.specs.declared.grafting.Grafting.{Grafting}
use Rattle.pl_graft.specs.Gained.{Grows, has_new_item}
use Rattle.pl_graft.specs.Import.{entry_count, node_row, page_of, with_item_of, with_node, with_page_of, with_row}
use Rattle.pl_graft.specs.Ready.{Takes}
use Rattle.pl_graft.specs.Standing.{GoesOn, HasRoom, IsStanding, KeepsFolders, Puts, holds_page}
use Rattle.pl_graft.specs.Standing.{with_item}
use Rattle.pl_graft.proofs.GoingOn.{grows_same}
use Rattle.pl_graft.proofs.NewItems.{row_items}
use Rattle.pl_graft.proofs.Ready.{IsReady, children_new, children_row, counted, has_page_for, items_page, tags_row}
use Rattle.pl_graft.proofs.Ready.{takes_new, takes_row}
use Rattle.pl_graft.proofs.Rooms.{room_before}
use Rattle.pl_graft.proofs.Slots.{at_most_row, at_most_tags_of, at_most_then}
use Rattle.pl_graft.proofs.TagsKept.{has_by_store}

-- ---- an item

pub row_goes_on : (old new : Kept) (parent : ItemId) (row : ItemRow) (title : List ℕ) (before after : Grafting)
    → IsReady (store_of old) → IsReady (store_of new) → Takes (store_of old) parent
    → new ≡ with_appended parent row title old → after.made ≡ before.made
    → ((other : PageId) → holds_page after.gained other ≡ (holds_page before.gained other || is_page other row.page))
    → GoesOn old new before after
row_goes_on old new parent row title before after is ready takes made count gain =
    let store : Store = store_of old in
    let grown : Store = with_row parent row title store in
    let same : store_of new ≡ grown = ap store_of made in
    let tags : entry_count new.items ≡ entry_count old.items =
    counted (store_of new) ready
    ∙ ap (sum_by (λ (r : TagRow). length r.entries))
    (ap (λ (s : Store). tag_rows s.items) same ∙ tags_row store parent row title is takes)
    ∙ sym (counted store is) in
    record {
      grows =
          subst (Grows old) (sym made) (grows_same old (with_appended parent row title old) refl refl refl refl refl);
      later = omega (arith, ap (λ (k : Kept). k.ids.item) made);
      tags = omega (arith, tags, count);
      pages =
          λ first least had page. gain page ∙ ap (λ (b : Bool). b || is_page page row.page) (had page)
          ∙ sym (ap (λ (s : Store). has_new_item first s.items page) same
          ∙ row_items first store parent row title page least);
    }

pub row_standing : (old new : Kept) (parent : ItemId) (row : ItemRow) (title : List ℕ) (before after : Grafting)
    → IsReady (store_of old) → IsStanding (store_of old) before → HasGoodItems (store_of new)
    → Takes (store_of old) parent → new ≡ with_appended parent row title old → after.pages ≡ before.pages
    → after.tags ≡ before.tags → after.made ≡ before.made → IsStanding (store_of new) after
row_standing old new parent row title before after is standing good takes made pages tags count =
    let store : Store = store_of old in
    let same : store_of new ≡ with_row parent row title store = ap store_of made in
    record {
      good = good;
      pages = rw (ap (λ (s : Store). s.pages) same, pages) standing.pages;
      tags =
          rw (ap (λ (s : Store). tag_rows s.items) same ∙ tags_row store parent row title is takes, tags)
          standing.tags;
      made = omega (arith, ap (λ (s : Store). s.ids.item) same, count, standing.made);
    }

-- ---- a node

pub items_page_of : (store : Store) (url : Option (List ℕ)) → (with_page_of url store).items ≡ store.items
items_page_of store None = refl
items_page_of store (Some url) = items_page store url

-- the page of a node is there
pub node_page : (kept : Kept) (store : Store) (url : Option (List ℕ)) (page : Option PageId)
    → page ≡ page_of url store → store_of kept ≡ with_page_of url store
    → IfSome page (λ id. has_page kept id ≡ true)
node_page kept store None page is made = rw is tt
node_page kept store (Some url) page is made =
    rw is
    (sym (has_by_store kept (page_for store url).id)
    ∙ ap (λ (s : Store). list_any (λ (p : Page). p.id.0 == (page_for store url).id.0) s.pages) made
    ∙ has_page_for store url)

-- with an item more the pages are the same
pub item_page : (old new : Kept) (parent : ItemId) (page : Option PageId) (node : Node) (own : Option PageId)
    → store_of new ≡ with_item parent page node (store_of old) → IfSome own (λ id. has_page old id ≡ true)
    → IfSome own (λ id. has_page new id ≡ true)
item_page old new parent page node None made has = tt
item_page old new parent page node (Some id) made has =
    sym (has_by_store new id)
    ∙ ap (λ (s : Store). list_any (λ (p : Page). p.id.0 == id.0) s.pages) made
    ∙ has_by_store old id ∙ has

pub page_room : (store : Store) (parent : ItemId) (node : Node) → HasRoom (with_node parent node store)
    → HasRoom (with_page_of node.url store)
page_room store parent node room =
    let page : Store = with_page_of node.url store in
    let item : Store = with_item_of parent node store in
    room_before page (with_node parent node store)
    (at_most_then page item (with_node parent node store)
    (at_most_row page parent (node_row parent (page_of node.url store) node) (cut_title node.title))
    (at_most_tags_of item (page_of node.url store) node))
    room

pub item_room : (store mid : Store) (parent : ItemId) (page : Option PageId) (node : Node)
    → page ≡ page_of node.url store → mid ≡ with_page_of node.url store → HasRoom (with_node parent node store)
    → HasRoom (with_item parent page node mid)
item_room store mid parent page node is made room =
    rw (is, made)
    (room_before (with_item_of parent node store) (with_node parent node store)
    (at_most_tags_of (with_item_of parent node store) (page_of node.url store) node) room)

pub puts : (old page item new : Store) (parent : ItemId) (row : ItemRow) (title : List ℕ) (id : ItemId)
    → IsReady page → page.items ≡ old.items → Takes old parent → item ≡ with_row parent row title page
    → KeepsFolders item new → id ≡ item_id page.ids.item → Puts parent row.kind id old new
puts old page item new parent row title id is same takes made keeps named =
    let paged : (folder : ItemId) → Takes old folder → Takes page folder =
    λ folder takes. rw same takes in
    let rowed : (folder : ItemId) → Takes page folder → Takes item folder =
    λ folder also. rw made (takes_row page parent row title is (paged parent takes) folder also) in
    let opened : row.kind ≡ Folder → Takes item id =
    λ kind. rw (made, named) (takes_new page parent row title is (paged parent takes) kind) in
    record {
      takes = λ folder takes. keeps.takes folder (rowed folder (paged folder takes));
      children =
          λ folder also. keeps.children folder (rowed folder (paged folder also))
          ∙ ap (λ (s : Store). children_of s.items folder) made
          ∙ rw (named, ← same)
          (children_row page parent row title is (paged parent takes) folder (paged folder also));
      opened = λ kind. keeps.takes id (opened kind);
      empty =
          λ kind. keeps.children id (opened kind)
          ∙ rw (made, named) (children_new page parent row title is (paged parent takes));
    }
