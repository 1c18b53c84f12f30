-- The slots of a store with a page, an item or a tag more, and that an import makes no store
-- smaller.
use Rattle.std.proofs.Common.{◌≡◌, ◌≤◌, ◌∙◌, ◌+◌, ◌-◌, ◌==◌, ◌&&◌, ◌||◌, ◌++◌, ℕ, Bool, true, false, List}
use Rattle.std.proofs.Common.{[], ◌∷◌, Option, Some, None, ap, arith, if◌then◌else◌, length, refl}
use Rattle.std.specs.List.{list_any}
use Rattle.std.specs.Option.{is_none, is_some}
use Rattle.std.proofs.lemmas.List.{length-map, length_push}
use Rattle.std.proofs.lemmas.List.Folds.{list_any_none}
use Rattle.std.proofs.lemmas.List.Sums.{sum_by_push}
use Rattle.pl_base.specs.declared.date.Micros.{Micros}
use Rattle.pl_base.specs.declared.id.ItemId.{ItemId}
use Rattle.pl_base.specs.declared.id.PageId.{PageId}
use Rattle.pl_base.specs.declared.item.ItemRow.{ItemRow}
use Rattle.pl_base.specs.declared.transition.Transition.TheVariants.{Link}
use Rattle.pl_base.specs.Address.{same_origin}
use Rattle.pl_base.specs.Live.{chunks, live_slots}
use Rattle.pl_base.specs.Store.{Item, Page, Store, item_id}
use Rattle.pl_base.specs.Tags.{tags_root}
use Rattle.pl_base.specs.Title.{cut_title}
use Rattle.pl_base.specs.Tree.{new_item}
use Rattle.pl_base.specs.Visiting.{find_page, page_for, with_page_for}
use Rattle.pl_base.proofs.ItemLaws.{title_slots}
use Rattle.pl_history.proofs.LiveAfter.{live_new, live_visited}
use Rattle.pl_nbread.specs.declared.tree.Node.{Node}
use Rattle.pl_tree.specs.declared.place.Place.{Place}
use Rattle.pl_tree.specs.declared.place.Place.TheVariants.{End}
use Rattle.pl_tree.specs.Changes.{item_of, put, with_child, with_new}
use Rattle.pl_tree.specs.Tagged.{new_entry, new_items, new_tag, tag_entry, tag_id, tag_named, tagged_items}
use Rattle.pl_tree.specs.Tagged as tagged
use Rattle.pl_tree.proofs.ChildSlots.{slots_child}
use Rattle.pl_keyed.specs.KnownPages.{IsOriginPage}
use Rattle.pl_graft.specs.Import.{folder_of, folders_behind, node_row, page_of, tagged_store, with_item_of, with_list}
use Rattle.pl_graft.specs.Import.{with_node, with_nodes, with_page_of, with_row, with_tag, with_tags, with_tags_of}

-- ---- a page

both : (a b c d : Bool) → ((a && b) || c) ≡ true → (c ≡ true → d ≡ true) → (b || d) ≡ true
both true true c d here rest = refl
both true false c d here rest = rest here
both false true c d here rest = refl
both false false c d here rest = rest here

in_origin : (pages : List Page) (url : List ℕ) (id : ℕ)
    → list_any (λ (p : Page). (p.id.0 == id) && same_origin p.url url) pages ≡ true
    → list_any (λ (p : Page). same_origin p.url url) pages ≡ true
in_origin [] url id none = absurd (cc)
in_origin (p ∷ pages) url id some =
    both (p.id.0 == id) (same_origin p.url url)
    (list_any (λ (q : Page). (q.id.0 == id) && same_origin q.url url) pages)
    (list_any (λ (q : Page). same_origin q.url url) pages) some (in_origin pages url id)

origin_slot : (pages : List Page) (url : List ℕ) (origin : Option ℕ) → IsOriginPage pages url origin
    → ◌≡◌ {A = ℕ} (if list_any (λ (p : Page). same_origin p.url url) pages then 0 else 1)
    (if is_none origin then 1 else 0)
origin_slot pages url None none =
    ap (λ (b : Bool). if b then 0 else 1) (list_any_none (λ (p : Page). same_origin p.url url) pages none)
origin_slot pages url (Some id) some = ap (λ (b : Bool). if b then 0 else 1) (in_origin pages url id some)

without_visit : (after grown old text origin : ℕ) → after ≡ grown + 1 → after ≡ old + (2 + text + origin)
    → grown ≡ old + (1 + text + origin)
without_visit after grown old text origin visit is = omega arith

live_grown : (store : Store) (url : List ℕ) → find_page url store.pages ≡ None
    → live_slots (with_page_for store url) ≡ live_slots store
    + (1 + chunks url + (if list_any (λ (p : Page). same_origin p.url url) store.pages then 0 else 1))
live_grown store url none =
    let date : Micros = record { 0 = 0 } in
    without_visit _ (live_slots (with_page_for store url)) (live_slots store) (chunks url)
    (if list_any (λ (p : Page). same_origin p.url url) store.pages then 0 else 1)
    (live_visited (page_for store url).id Link date None (with_page_for store url))
    (live_new store url Link date None none)

pub live_page : (store : Store) (url : List ℕ) (origin : Option ℕ) → find_page url store.pages ≡ None
    → IsOriginPage store.pages url origin
    → live_slots (with_page_for store url) ≡ live_slots store
    + (1 + chunks url + (if is_none origin then 1 else 0))
live_page store url origin none of =
    live_grown store url none
    ∙ ap (λ (n : ℕ). live_slots store + (1 + chunks url + n)) (origin_slot store.pages url origin of)

-- ---- an item

-- what the items take
abbrev item_slots : List Item → ℕ
item_slots items = length items + title_slots items

-- a child more at the end of the items
slots_more : (parent : ItemId) (place : Place) (id : ItemId) (new : Item) (items : List Item)
    → item_slots (with_child parent place id items ++ new ∷ []) ≡ item_slots items + 1 + chunks new.title
slots_more parent place id new items =
    let grown : List Item = with_child parent place id items in
    omega (
      arith,
      length_push grown new,
      length-map items
          (λ (i : Item). if i.id.0 == parent.0 then record i { children = put place id i.children } else i),
      sum_by_push (λ (i : Item). chunks i.title) grown new,
      slots_child parent place id items,
    )

-- the slots of a store with other items
live_items : (store : Store) (n : ℕ) (items : List Item)
    → live_slots (record store { ids = record store.ids { item = n }; items = items }) + item_slots store.items
    ≡ live_slots store + item_slots items
live_items store n items = omega arith

pub live_row : (store : Store) (parent : ItemId) (row : ItemRow) (title : List ℕ)
    → live_slots (with_row parent row title store) ≡ live_slots store + 1 + chunks title
live_row store parent row title =
    let id : ItemId = item_id store.ids.item in
    let new : Item = new_item id row title in
    omega (
      arith,
      live_items store (store.ids.item + 1) (with_child parent End id store.items ++ new ∷ []),
      slots_more parent End id new store.items,
    )

-- ---- a tag

slots_folder : (b : Bool) (next : ℕ) (name : List ℕ) (date : Micros) (items : List Item)
    → item_slots (if b then with_new (item_id next) tags_root End (new_tag name date) items else items) + 1
    ≡ item_slots items + (if b then 2 else 1) + (if b then chunks name else 0)
slots_folder true next name date items =
    omega (arith, slots_more tags_root End (item_id next) (item_of (item_id next) (new_tag name date)) items)
slots_folder false next name date items = omega arith

slots_tagged : (next : ℕ) (page : PageId) (name : List ℕ) (date : Micros) (items : List Item)
    → item_slots (tagged_items next page name date items)
    ≡ item_slots items + new_items name items + (if is_none (tag_named name items) then chunks name else 0)
slots_tagged next page name date items =
    let id : ItemId = item_id (next + (new_items name items - 1)) in
    slots_more (tag_id next name items) End id (item_of id (new_entry page date))
    (tagged.with_tag next name date items)
    ∙ omega (arith, slots_folder (is_none (tag_named name items)) next name date items)

pub live_tagged : (store : Store) (page : PageId) (name : List ℕ) (date : Micros)
    → live_slots (tagged_store page name date store) ≡ live_slots store + new_items name store.items
    + (if is_none (tag_named name store.items) then chunks name else 0)
live_tagged store page name date =
    let next : ℕ = store.ids.item in
    omega (
      arith,
      live_items store (next + new_items name store.items) (tagged_items next page name date store.items),
      slots_tagged next page name date store.items,
    )

-- ---- what an import makes is no smaller

-- a store that has become no smaller
pub record IsAtMost (a b : Store) : Type 0 where
  pub live : live_slots a ≤ live_slots b
  pub page : a.ids.page ≤ b.ids.page
  pub item : a.ids.item ≤ b.ids.item

pub at_most_same : (store : Store) → IsAtMost store store
at_most_same store = record { live = omega arith; page = omega arith; item = omega arith }

pub at_most_then : (a b c : Store) → IsAtMost a b → IsAtMost b c → IsAtMost a c
at_most_then a b c first second =
    record {
      live = omega (arith, first.live, second.live);
      page = omega (arith, first.page, second.page);
      item = omega (arith, first.item, second.item);
    }

pub at_most_page : (store : Store) (url : List ℕ) → IsAtMost store (with_page_for store url)
at_most_page store url = choose (find_page url store.pages) refl
  where
    choose : (o : Option Page) → find_page url store.pages ≡ o → IsAtMost store (with_page_for store url)
    choose (Some p) is = rw is (at_most_same store)
    choose None is =
        record {
          live = omega (arith, live_grown store url is);
          page = rw is (omega arith);
          item = rw is (omega arith);
        }

pub at_most_row : (store : Store) (parent : ItemId) (row : ItemRow) (title : List ℕ)
    → IsAtMost store (with_row parent row title store)
at_most_row store parent row title =
    record { live = omega (arith, live_row store parent row title); page = omega arith; item = omega arith }

at_most_tagged : (store : Store) (page : PageId) (name : List ℕ) (date : Micros)
    → IsAtMost store (tagged_store page name date store)
at_most_tagged store page name date =
    record { live = omega (arith, live_tagged store page name date); page = omega arith; item = omega arith }

pub at_most_tag : (store : Store) (page : PageId) (date : Micros) (name : List ℕ)
    → IsAtMost store (with_tag page date name store)
at_most_tag store page date name = choose (is_some (tag_entry page name store.items))
  where
    choose : (b : Bool) → IsAtMost store (if b then store else tagged_store page name date store)
    choose true = at_most_same store
    choose false = at_most_tagged store page name date

pub at_most_tags : (store : Store) (page : PageId) (date : Micros) (names : List (List ℕ))
    → IsAtMost store (with_tags page date names store)
at_most_tags store page date [] = at_most_same store
at_most_tags store page date (name ∷ names) =
    let next : Store = with_tag page date name store in
    at_most_then store next (with_tags page date names next) (at_most_tag store page date name)
    (at_most_tags next page date names)

pub at_most_page_of : (store : Store) (url : Option (List ℕ)) → IsAtMost store (with_page_of url store)
at_most_page_of store None = at_most_same store
at_most_page_of store (Some url) = at_most_page store url

pub at_most_tags_of : (store : Store) (page : Option PageId) (node : Node)
    → IsAtMost store (with_tags_of page node store)
at_most_tags_of store None node = at_most_same store
at_most_tags_of store (Some page) node = at_most_tags store page node.added node.tags

pub at_most_item_of : (store : Store) (parent : ItemId) (node : Node)
    → IsAtMost store (with_item_of parent node store)
at_most_item_of store parent node =
    let row : ItemRow = node_row parent (page_of node.url store) node in
    at_most_then store (with_page_of node.url store) (with_item_of parent node store)
    (at_most_page_of store node.url)
    (at_most_row (with_page_of node.url store) parent row (cut_title node.title))

pub at_most_node : (store : Store) (parent : ItemId) (node : Node) → IsAtMost store (with_node parent node store)
at_most_node store parent node =
    let item : Store = with_item_of parent node store in
    at_most_then store item (with_node parent node store) (at_most_item_of store parent node)
    (at_most_tags_of item (page_of node.url store) node)

pub at_most_nodes : (store : Store) (root : ItemId) (nodes : List Node) (folders : List ItemId)
    → IsAtMost store (with_nodes root nodes folders store)
at_most_nodes store root [] folders = at_most_same store
at_most_nodes store root (node ∷ nodes) folders =
    let next : Store = with_node (folder_of root folders node) node store in
    let behind : List ItemId = folders_behind folders node (item_id store.ids.item) in
    at_most_then store next (with_nodes root nodes behind next)
    (at_most_node store (folder_of root folders node) node) (at_most_nodes next root nodes behind)

pub at_most_list : (store : Store) (root : ItemId) (nodes : List Node) → IsAtMost store (with_list root nodes store)
at_most_list store root nodes = at_most_nodes store root nodes []
