-- An import of bookmarks bears on the pages that got an item alone: of the others the items tell
-- what they told.
use Rattle.std.proofs.Common.{◌≡◌, ◌∙◌, ◌<◌, ◌≤◌, ◌+◌, ◌-◌, ◌==◌, ◌&&◌, ◌||◌, ◌++◌, ℕ, All, Bool, true, false, IsTrue}
use Rattle.std.proofs.Common.{List, [], ◌∷◌, Option, Some, None, IfSome, IsSome, ap, append_assoc, arith, eq-eqb}
use Rattle.std.proofs.Common.{filter, find, if◌then◌else◌, is_none, is_some, map, nat_le, refl, sym, unwrap_or}
use Rattle.std.specs.List.{list_any}
use Rattle.std.proofs.lemmas.Bool.{and_from, and_parts, eqb-true, false_from_ne_true, false≢true, le-leb, or_left}
use Rattle.std.proofs.lemmas.Bool.{or_right}
use Rattle.std.proofs.lemmas.List.{append-nil}
use Rattle.std.proofs.lemmas.List.Elements.{All-nil, All-push, All-weaker, recursion_from_All}
use Rattle.pl_base.specs.declared.date.Micros.{Micros}
use Rattle.pl_base.specs.declared.id.ItemId.{ItemId}
use Rattle.pl_base.specs.declared.id.PageId.{PageId}
use Rattle.pl_base.specs.declared.item.ItemRow.{ItemRow}
use Rattle.pl_base.specs.Good.{HasGoodItems, IsGoodItem, has_page_at}
use Rattle.pl_base.specs.Store.{Item, Page, Store, item_id}
use Rattle.pl_base.specs.Tags.{tags_root}
use Rattle.pl_base.specs.Title.{cut_title}
use Rattle.pl_base.specs.Tree.{is_page, new_item}
use Rattle.pl_base.specs.Visiting.{find_page, new_page}
use Rattle.pl_base.proofs.IdsLaws.{same_page}
use Rattle.pl_base.proofs.ListLaws.{found_in, list_any-alike, list_any-map, list_any_last, list_any_push}
use Rattle.pl_base.proofs.LookUps.{found_holds, found_passes}
use Rattle.pl_nbread.specs.declared.tree.Node.{Node}
use Rattle.pl_nbread.specs.declared.tree.Tree.{Tree}
use Rattle.pl_tree.specs.declared.place.Place.{Place}
use Rattle.pl_tree.specs.declared.place.Place.TheVariants.{End}
use Rattle.pl_tree.specs.Changes.{item_of, with_child, with_new}
use Rattle.pl_tree.specs.Tagged.{new_entry, new_items, new_tag, tag_entry, tag_id, tag_named, tagged_items}
use Rattle.pl_tree.specs.Tagged as tagged
use Rattle.pl_marks.specs.Alike.{is_one_of}
use Rattle.pl_graft.specs.Gained.{gained, has_new_item}
use Rattle.pl_graft.specs.Import.{folder_of, folders_behind, imported, node_row, page_of, tagged_store, with_item_of}
use Rattle.pl_graft.specs.Import.{with_list, with_node, with_nodes, with_page_of, with_row, with_tag, with_tags}
use Rattle.pl_graft.specs.Import.{with_tags_of}
use Rattle.pl_bearing.specs.References.{AreReferencesAlike, references_of}
use Rattle.pl_bearing.proofs.AddedItems.{AddsItems, bare_grown, no_items, one_item, references_kept}
use Rattle.pl_bearing.proofs.MappedReferences.{grown}

-- ---- items that come

-- where an item comes with this id or one behind it, as a leaf: what was added still is, and a page
-- that has a new item still has one
record AddsMore (first : ℕ) (items more : List Item) : Type 0 where
  pub adds : (old : List Item) → AddsItems first old items → AddsItems first old more
  pub holds : (page : PageId) → has_new_item first items page ≡ true → has_new_item first more page ≡ true

more_one : (first : ℕ) (items : List Item) (parent : ItemId) (place : Place) (new : Item) → first ≤ new.id.0
    → new.children ≡ [] → AddsMore first items (with_child parent place new.id items ++ new ∷ [])
more_one first items parent place new above leaf =
    let grow : Item → Item = grown parent place new.id in
    record {
      adds = λ old a. one_item first old items parent place new above leaf a;
      holds =
          λ page some.
          let test : Item → Bool = λ (i : Item). nat_le first i.id.0 && is_page page i.page in
          list_any_push test (with_child parent place new.id items) new
          (list_any-map test grow items
          ∙ list_any-alike (λ (i : Item). test (grow i)) test items
          (λ i. ap test (bare_grown parent place new.id i))
          ∙ some);
    }

more_tag : (first next : ℕ) (name : List ℕ) (date : Micros) (items : List Item) → first ≤ next
    → AddsMore first items (tagged.with_tag next name date items)
more_tag first next name date items above = choose (is_none (tag_named name items))
  where
    choose : (b : Bool)
        → AddsMore first items (if b then with_new (item_id next) tags_root End (new_tag name date) items else items)
    choose true = more_one first items tags_root End (item_of (item_id next) (new_tag name date)) above refl
    choose false = record { adds = λ old a. a; holds = λ page some. some }

more_tagged : (first next : ℕ) (page : PageId) (name : List ℕ) (date : Micros) (items : List Item) → first ≤ next
    → AddsMore first items (tagged_items next page name date items)
more_tagged first next page name date items above =
    let id : ItemId = item_id (next + (new_items name items - 1)) in
    let mid : List Item = tagged.with_tag next name date items in
    let tag : AddsMore first items mid = more_tag first next name date items above in
    let entry : AddsMore first mid (tagged_items next page name date items) =
    more_one first mid (tag_id next name items) End (item_of id (new_entry page date)) (omega arith) refl in
    record {
      adds = λ old a. entry.adds old (tag.adds old a);
      holds = λ other some. entry.holds other (tag.holds other some);
    }

-- ---- a store

-- the pages are the old ones, and behind them pages with new ids that have a new item and were
-- never typed; day and visits are the old ones
pub record AddsPages (old new : Store) : Type 0 where
  pub added : List Page
  pub is : new.pages ≡ old.pages ++ added
  pub behind : All (λ (p : Page). old.ids.page ≤ p.id.0) added
  pub held : All (λ (p : Page). has_new_item old.ids.item new.items p.id ≡ true) added
  pub untyped : All (λ (p : Page). p.typed ≡ false) added
  pub day : new.day ≡ old.day
  pub visits : new.visits ≡ old.visits
  pub visit_ids : new.ids.visit ≡ old.ids.visit

record Adds (old new : Store) : Type 0 where
  pub items : AddsItems old.ids.item old.items new.items
  pub pages : AddsPages old new
  pub next_item : old.ids.item ≤ new.ids.item
  pub next_page : old.ids.page ≤ new.ids.page

adds_none : (store : Store) → Adds store store
adds_none store =
    record {
      items = no_items store.ids.item store.items;
      pages =
          record {
            added = [];
            is = sym (append-nil store.pages);
            behind = All-nil (λ (p : Page). store.ids.page ≤ p.id.0);
            held = All-nil (λ (p : Page). has_new_item store.ids.item store.items p.id ≡ true);
            untyped = All-nil (λ (p : Page). p.typed ≡ false);
            day = refl;
            visits = refl;
            visit_ids = refl;
          };
      next_item = omega arith;
      next_page = omega arith;
    }

-- the store with other items, of which this one is the next
abbrev with_items : ℕ → List Item → Store → Store
with_items next items store = record store { ids = record store.ids { item = next }; items = items }

-- the store with a page more
abbrev with_page : Page → Store → Store
with_page page store =
    record store { pages = store.pages ++ page ∷ []; ids = record store.ids { page = store.ids.page + 1 } }

held_still : (old store : Store) (items : List Item) → AddsMore old.ids.item store.items items → (a : Adds old store)
    → All (λ (p : Page). has_new_item old.ids.item items p.id ≡ true) a.pages.added
held_still old store items g a =
    All-weaker (λ (p : Page). has_new_item old.ids.item store.items p.id ≡ true)
    (λ (p : Page). has_new_item old.ids.item items p.id ≡ true) (λ p some. g.holds p.id some) a.pages.added a.pages.held

adds_items : (old store : Store) (next : ℕ) (items : List Item) → store.ids.item ≤ next
    → AddsMore old.ids.item store.items items → Adds old store → Adds old (with_items next items store)
adds_items old store next items above g a =
    record {
      items = g.adds old.items a.items;
      pages =
          record {
            added = a.pages.added;
            is = a.pages.is;
            behind = a.pages.behind;
            held = held_still old store items g a;
            untyped = a.pages.untyped;
            day = a.pages.day;
            visits = a.pages.visits;
            visit_ids = a.pages.visit_ids;
          };
      next_item = let low = a.next_item in omega arith;
      next_page = a.next_page;
    }

-- with a page that a new item has
adds_page : (old store : Store) (url : List ℕ) (next : ℕ) (items : List Item) → store.ids.item ≤ next
    → AddsMore old.ids.item store.items items → has_new_item old.ids.item items (new_page store url).id ≡ true
    → Adds old store → Adds old (with_items next items (with_page (new_page store url) store))
adds_page old store url next items above g some a =
    let page : Page = new_page store url in
    record {
      items = g.adds old.items a.items;
      pages =
          record {
            added = a.pages.added ++ page ∷ [];
            is =
                ap (λ (pages : List Page). pages ++ page ∷ []) a.pages.is
                ∙ append_assoc old.pages a.pages.added (page ∷ []);
            behind =
                All-push (λ (p : Page). old.ids.page ≤ p.id.0) a.pages.added page a.pages.behind a.next_page;
            held =
                All-push (λ (p : Page). has_new_item old.ids.item items p.id ≡ true) a.pages.added page
                (held_still old store items g a) some;
            untyped = All-push (λ (p : Page). p.typed ≡ false) a.pages.added page a.pages.untyped refl;
            day = a.pages.day;
            visits = a.pages.visits;
            visit_ids = a.pages.visit_ids;
          };
      next_item = let low = a.next_item in omega arith;
      next_page = let low = a.next_page in omega arith;
    }

-- ---- a node

adds_row : (old store : Store) (parent : ItemId) (row : ItemRow) (title : List ℕ) (url : Option (List ℕ))
    → row.page ≡ page_of url store → Adds old store → Adds old (with_row parent row title (with_page_of url store))
adds_row old store parent row title url is a = by_url url is
  where
    id : ItemId
    id = item_id store.ids.item

    front : List Item
    front = with_child parent End id store.items

    item : Item
    item = new_item id row title

    more : AddsMore old.ids.item store.items (front ++ item ∷ [])
    more = more_one old.ids.item store.items parent End item a.next_item refl

    same : Adds old (with_row parent row title store)
    same = adds_items old store (store.ids.item + 1) (front ++ item ∷ []) (omega arith) more a

    -- the page is there or new
    by_page : (address : List ℕ) (found : Option Page)
        → row.page ≡ Some (unwrap_or found (new_page store address)).id
        → Adds old
        (with_row parent row title (if is_none found then with_page (new_page store address) store else store))
    by_page address None own =
        let page : PageId = (new_page store address).id in
        adds_page old store address (store.ids.item + 1) (front ++ item ∷ []) (omega arith) more
        (list_any_last (λ (i : Item). nat_le old.ids.item i.id.0 && is_page page i.page) front item
        (and_from (nat_le old.ids.item item.id.0) (is_page page item.page)
        (le-leb old.ids.item item.id.0 a.next_item) (ap (is_page page) own ∙ eq-eqb page.0 page.0 refl)))
        a
    by_page address (Some p) own = same

    by_url : (url : Option (List ℕ)) → row.page ≡ page_of url store
        → Adds old (with_row parent row title (with_page_of url store))
    by_url None own = same
    by_url (Some address) own = by_page address (find_page address store.pages) own

adds_tags : (old store : Store) (page : PageId) (date : Micros) (names : List (List ℕ)) → Adds old store
    → Adds old (with_tags page date names store)
adds_tags old store page date [] a = a
adds_tags old store page date (name ∷ names) a =
    adds_tags old (with_tag page date name store) page date names
    (choose (is_some (tag_entry page name store.items)))
  where
    choose : (b : Bool) → Adds old (if b then store else tagged_store page name date store)
    choose true = a
    choose false =
        adds_items old store (store.ids.item + new_items name store.items)
        (tagged_items store.ids.item page name date store.items) (omega arith)
        (more_tagged old.ids.item store.ids.item page name date store.items a.next_item) a

adds_tags_of : (old store : Store) (page : Option PageId) (node : Node) → Adds old store
    → Adds old (with_tags_of page node store)
adds_tags_of old store None node a = a
adds_tags_of old store (Some page) node a = adds_tags old store page node.added node.tags a

adds_node : (old store : Store) (parent : ItemId) (node : Node) → Adds old store
    → Adds old (with_node parent node store)
adds_node old store parent node a =
    adds_tags_of old (with_item_of parent node store) (page_of node.url store) node
    (adds_row old store parent (node_row parent (page_of node.url store) node) (cut_title node.title) node.url refl a)

-- ---- the whole

adds_nodes : (old store : Store) (root : ItemId) (nodes : List Node) (folders : List ItemId) → Adds old store
    → Adds old (with_nodes root nodes folders store)
adds_nodes old store root [] folders a = a
adds_nodes old store root (node ∷ nodes) folders a =
    adds_nodes old (with_node (folder_of root folders node) node store) root nodes
    (folders_behind folders node (item_id store.ids.item))
    (adds_node old store (folder_of root folders node) node a)

adds_imported : (tree : Tree) (store : Store) → Adds store (imported tree store)
adds_imported tree store =
    let menu : Store = with_list (item_id 2) tree.menu store in
    let toolbar : Store = with_list (item_id 3) tree.toolbar menu in
    let unfiled : Store = with_list (item_id 5) tree.unfiled toolbar in
    adds_nodes store unfiled (item_id 6) tree.mobile []
    (adds_nodes store toolbar (item_id 5) tree.unfiled []
    (adds_nodes store menu (item_id 3) tree.toolbar []
    (adds_nodes store store (item_id 2) tree.menu [] (adds_none store))))

-- the items of the store stand in front, with their parents, and behind them items with new ids
pub imported_items : (tree : Tree) (store : Store) → AddsItems store.ids.item store.items (imported tree store).items
imported_items tree store = (adds_imported tree store).items

-- the pages of the store stand in front, and behind them pages with new ids, each with a new item
-- and never typed
pub imported_pages : (tree : Tree) (store : Store) → AddsPages store (imported tree store)
imported_pages tree store = (adds_imported tree store).pages

-- ---- what the items tell

-- of a page that no new item has the items tell what they told
imported_references : (tree : Tree) (store : Store) (page : PageId)
    → All (λ (i : Item). i.id.0 < store.ids.item) store.items
    → has_new_item store.ids.item (imported tree store).items page ≡ false
    → references_of (imported tree store).items page ≡ references_of store.items page
imported_references tree store page below none =
    references_kept store.ids.item store.items (imported tree store).items below (imported_items tree store) page none

pub imported_alike : (tree : Tree) (store : Store) (ids : List PageId)
    → All (λ (i : Item). i.id.0 < store.ids.item) store.items
    → ((page : PageId) → has_new_item store.ids.item (imported tree store).items page ≡ true
    → is_one_of ids page ≡ true)
    → AreReferencesAlike ids store.items (imported tree store).items
imported_alike tree store ids below each page other =
    let some : Bool = has_new_item store.ids.item (imported tree store).items page in
    imported_references tree store page below
    (false_from_ne_true some (λ has. false≢true (sym other ∙ each page has)))

-- ---- the pages that got an item

-- a page that is there and passes the test
among : (test : PageId → Bool) (page : PageId) (pages : List Page) → test page ≡ true
    → list_any (λ (p : Page). p.id.0 == page.0) pages ≡ true
    → is_one_of (map (λ (p : Page). p.id) (filter (λ (p : Page). test p.id) pages)) page ≡ true
among test page [] passes there = absurd (cc)
among test page (p ∷ pages) passes there =
    here (p.id.0 == page.0) refl there (among test page pages passes)
  where
    rest : List PageId
    rest = map (λ (q : Page). q.id) (filter (λ (q : Page). test q.id) pages)

    later : (b : Bool) → is_one_of rest page ≡ true
        → is_one_of (map (λ (q : Page). q.id)
        (if b then p ∷ filter (λ (q : Page). test q.id) pages else filter (λ (q : Page). test q.id) pages)) page
        ≡ true
    later true some = or_right (page.0 == p.id.0) (is_one_of rest page) some
    later false some = some

    first : (b : Bool) → b ≡ true → (page.0 == p.id.0) ≡ true
        → is_one_of (map (λ (q : Page). q.id)
        (if b then p ∷ filter (λ (q : Page). test q.id) pages else filter (λ (q : Page). test q.id) pages)) page
        ≡ true
    first true is same = or_left (page.0 == p.id.0) (is_one_of rest page) same
    first false is same = absurd (cc)

    here : (b : Bool) → (p.id.0 == page.0) ≡ b → (b || list_any (λ (q : Page). q.id.0 == page.0) pages) ≡ true
        → (list_any (λ (q : Page). q.id.0 == page.0) pages ≡ true → is_one_of rest page ≡ true)
        → is_one_of (map (λ (q : Page). q.id) (filter (λ (q : Page). test q.id) (p ∷ pages))) page ≡ true
    here true is some others =
        first (test p.id) (ap test (same_page p.id page is) ∙ passes)
        (eq-eqb page.0 p.id.0 (sym (eqb-true p.id.0 page.0 is)))
    here false is some others = later (test p.id) (others some)

-- a page that a new item has is there
held_there : (first : ℕ) (store : Store) (page : PageId) → All (IsGoodItem store) store.items
    → has_new_item first store.items page ≡ true → has_page_at store page ≡ true
held_there first store page good some = choose (find test store.items) refl (found_in test store.items some)
  where
    test : Item → Bool
    test i = nat_le first i.id.0 && is_page page i.page

    own : (at : Option PageId) → IfSome at (λ id. IsTrue (has_page_at store id)) → is_page page at ≡ true
        → has_page_at store page ≡ true
    own None there is = absurd (cc)
    own (Some other) there is = ap (has_page_at store) (sym (same_page other page is)) ∙ there

    choose : (o : Option Item) → find test store.items ≡ o → IsSome o → has_page_at store page ≡ true
    choose None found is = absurd (cc)
    choose (Some i) found is =
        own i.page
        (found_holds (IsGoodItem store) test store.items i (recursion_from_All (IsGoodItem store) store.items good)
        found).page
        (and_parts (nat_le first i.id.0) (is_page page i.page) (found_passes test store.items i found)).1

-- it is one of those that gained one
pub held_gained : (old new : Store) (page : PageId) → HasGoodItems new
    → has_new_item old.ids.item new.items page ≡ true → is_one_of (gained old new) page ≡ true
held_gained old new page good some =
    among (has_new_item old.ids.item new.items) page new.pages some
    (held_there old.ids.item new page good.items some)

pub gained_alike : (tree : Tree) (store : Store) → All (λ (i : Item). i.id.0 < store.ids.item) store.items
    → HasGoodItems (imported tree store)
    → AreReferencesAlike (gained store (imported tree store)) store.items (imported tree store).items
gained_alike tree store below good =
    imported_alike tree store (gained store (imported tree store)) below
    (λ page some. held_gained store (imported tree store) page good some)
