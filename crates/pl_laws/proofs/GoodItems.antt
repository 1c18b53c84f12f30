-- What a store keeps of a good one where its items change: the ids of the items, and the pages that
-- stand by them.
use Rattle.std.proofs.Common.{◌≡◌, ◌+◌, ◌-◌, ◌++◌, ◌==◌, ◌||◌, ◌∙◌, ℕ, All, Bool, true, false, IsTrue, List}
use Rattle.std.proofs.Common.{[], ◌∷◌, Option, Some, None, ap, arith, filter, get_or, if◌then◌else◌, is_none, map, not}
use Rattle.std.proofs.Common.{refl, subst, sym, unwrap_or}
use Rattle.std.specs.Option.{option_and_then}
use Rattle.std.proofs.lemmas.Bool.{or_right}
use Rattle.std.proofs.lemmas.List.Elements.{All-push}
use Rattle.pl_base.specs.declared.date.Micros.{Micros}
use Rattle.pl_base.specs.declared.id.ItemId.{ItemId}
use Rattle.pl_base.specs.declared.id.PageId.{PageId}
use Rattle.pl_base.specs.Good.{HasGoodItems, is_visited}
use Rattle.pl_base.specs.Removal.{is_standing}
use Rattle.pl_base.specs.Store.{Item, Page, Store, item_id}
use Rattle.pl_base.specs.Tags.{tags_root}
use Rattle.pl_base.specs.Tree.{children_of, is_page, leaving, lies_in, removed, retitled}
use Rattle.pl_base.specs.Visiting.{find_page, new_page, page_for, with_page_for}
use Rattle.pl_base.proofs.IdsLaws.{same_page}
use Rattle.pl_base.proofs.ItemLaws.{ids_changed, ids_of}
use Rattle.pl_base.proofs.ListLaws.{list_any_push, map-map}
use Rattle.pl_tree.specs.declared.place.Place.{Place}
use Rattle.pl_tree.specs.declared.place.Place.TheVariants.{End}
use Rattle.pl_tree.specs.Changes.{item_of, put, taken_out, with_child, with_moved, with_new, with_removed}
use Rattle.pl_tree.specs.Tagged.{entry_in, new_entry, new_items, new_tag, tag_id, tag_named, tagged_items}
use Rattle.pl_tree.specs.Tagged.{untagged_items, without_entry, without_unused}
use Rattle.pl_history.proofs.GrownItems.{Adds}
use Rattle.pl_history.proofs.ItemMarks.{has_reference, reference_changed}
use Rattle.pl_history.proofs.VisitRows.{grown_store}
use Rattle.pl_laws.proofs.GoodIds.{AreNumbered, one_more, some_changed, some_left}
use Rattle.pl_laws.proofs.GoodParts.{AreStanding, IsLoose}

-- ---- the ids of the items

-- as a store has them
abbrev pub Numbers : ℕ → List Item → Type 0
Numbers next items = AreNumbered 7 next (ids_of items)

-- one item more, with the next id, and a child of some folder
pub numbers_item : (next after : ℕ) (id parent : ItemId) (place : Place) (new : Item) (items : List Item)
    → new.id.0 ≡ next → after ≡ next + 1 → Numbers next items
    → Numbers after (with_child parent place id items ++ new ∷ [])
numbers_item next after id parent place new items is so h =
    let grown : List Item = with_child parent place id items in
    subst (λ (n : ℕ). Numbers n (grown ++ new ∷ [])) (sym so)
    (one_more (λ (i : Item). i.id.0) 7 next grown
    (subst (AreNumbered 7 next)
    (sym (ids_changed parent (λ (i : Item). record i { children = put place id i.children }) items (λ i. refl))) h)
    new is (omega (arith, h.next_first)))

pub numbers_tagged : (next : ℕ) (page : PageId) (name : List ℕ) (date : Micros) (items : List Item)
    → Numbers next items → Numbers (next + new_items name items) (tagged_items next page name date items)
numbers_tagged next page name date items h = choose (is_none (tag_named name items))
  where
    -- as `tagged_items` has it
    choose : (b : Bool)
        → Numbers (next + (if b then 2 else 1))
        (with_new (item_id (next + ((if b then 2 else 1) - 1))) (tag_id next name items) End (new_entry page date)
        (if b then with_new (item_id next) tags_root End (new_tag name date) items else items))
    choose true =
        numbers_item (next + 1) (next + 2) (item_id (next + (2 - 1))) (tag_id next name items) End
        (item_of (item_id (next + (2 - 1))) (new_entry page date))
        (with_new (item_id next) tags_root End (new_tag name date) items) (omega arith) (omega arith)
        (numbers_item next (next + 1) (item_id next) tags_root End (item_of (item_id next) (new_tag name date)) items
        refl refl h)
    choose false =
        numbers_item next (next + 1) (item_id (next + (1 - 1))) (tag_id next name items) End
        (item_of (item_id (next + (1 - 1))) (new_entry page date)) items (omega arith) refl h

pub numbers_moved : (next : ℕ) (item parent : ItemId) (place : Place) (date : Micros) (items : List Item)
    → Numbers next items → Numbers next (with_moved item parent place date items)
numbers_moved next item parent place date items h =
    subst (AreNumbered 7 next)
    (sym (ids_changed item (λ (i : Item). record i { modified = date })
    (with_child parent place item (taken_out item items)) (λ i. refl)
    ∙ ids_changed parent (λ (i : Item). record i { children = put place item i.children }) (taken_out item items)
    (λ i. refl)
    ∙ map-map (λ (i : Item). i.id.0) (leaving item) items))
    h

pub numbers_retitled : (next : ℕ) (item : ItemId) (title : List ℕ) (date : Micros) (items : List Item)
    → Numbers next items → Numbers next (retitled item title date items)
numbers_retitled next item title date items h =
    subst (AreNumbered 7 next)
    (sym (ids_changed item (λ (i : Item). record i { title = title; modified = date }) items (λ i. refl))) h

-- items that go, by any test
numbers_gone : (next : ℕ) (id : ItemId) (stays : Item → Bool) (items : List Item) → Numbers next items
    → Numbers next (map (leaving id) (filter stays items))
numbers_gone next id stays items h =
    some_changed (λ (i : Item). i.id.0) 7 next (filter stays items)
    (some_left (λ (i : Item). i.id.0) 7 next items h stays) (leaving id) (λ i. refl)

pub numbers_removed : (next : ℕ) (item : ItemId) (items : List Item) → Numbers next items
    → Numbers next (with_removed item items)
numbers_removed next item items h = numbers_gone next item (λ (i : Item). not (lies_in items item i.id)) items h

numbers_unused : (next : ℕ) (tag : ItemId) (items : List Item) → Numbers next items
    → Numbers next (without_unused tag items)
numbers_unused next tag items h = choose (children_of items tag) refl
  where
    choose : (ids : List ItemId) → children_of items tag ≡ ids → Numbers next (without_unused tag items)
    choose [] is = rw is (numbers_gone next tag (λ (i : Item). not (i.id.0 == tag.0)) items h)
    choose (c ∷ cs) is = rw is h

pub numbers_untagged : (next : ℕ) (page : PageId) (name : List ℕ) (items : List Item) → Numbers next items
    → Numbers next (untagged_items page name items)
numbers_untagged next page name items h = choose (tag_named name items)
  where
    found : (tag : Item) (entry : Option Item) → Numbers next (without_entry (Some tag) entry items)
    found tag None = h
    found tag (Some entry) =
        numbers_unused next tag.id (removed entry.id items)
        (numbers_gone next entry.id (λ (i : Item). not (i.id.0 == entry.id.0)) items h)

    choose : (tag : Option Item)
        → Numbers next (without_entry tag (option_and_then (entry_in items page) tag) items)
    choose None = h
    choose (Some tag) = found tag (entry_in items page tag)

-- ---- the store

pub loose_items : (store : Store) (next : ℕ) (items : List Item) → IsLoose store → Numbers next items
    → HasGoodItems (record store { ids = record store.ids { item = next }; items = items })
    → IsLoose (record store { ids = record store.ids { item = next }; items = items })
loose_items store next items l ids good =
    record {
      day = l.day;
      page_ids = l.page_ids;
      visit_ids = l.visit_ids;
      item_ids = ids;
      rows = l.rows;
      urls = l.urls;
      visits = l.visits;
      items = good;
    }

-- ---- the pages that stand

-- a page that an item has among the old ones is one that an item has among the new ones
abbrev pub Refer : List Item → List Item → Type 0
Refer old new = (id : PageId) → IsTrue (has_reference old id) → IsTrue (has_reference new id)

pub refer_alike : (old new : List Item) → ((id : PageId) → has_reference new id ≡ has_reference old id)
    → Refer old new
refer_alike old new same id some = same id ∙ some

pub refer_more : (page : PageId) (old new : List Item) → Adds page old new → Refer old new
refer_more page old new adds id some = choose (id.0 == page.0) refl
  where
    choose : (b : Bool) → (id.0 == page.0) ≡ b → has_reference new id ≡ true
    choose true is = ap (has_reference new) (same_page id page is) ∙ adds.own
    choose false is = adds.others id is ∙ some

-- with one item more, a child of some folder
pub refer_put : (items : List Item) (parent id : ItemId) (place : Place) (new : Item)
    → Refer items (with_child parent place id items ++ new ∷ [])
refer_put items parent id place new page some =
    list_any_push (λ (i : Item). is_page page i.page) (with_child parent place id items) new
    (reference_changed parent (λ (i : Item). record i { children = put place id i.children }) items page (λ i. refl)
    ∙ some)

or_weaker : (a b c : Bool) → (b ≡ true → c ≡ true) → (a || b) ≡ true → (a || c) ≡ true
or_weaker true b c more some = refl
or_weaker false b c more some = more some

pub stand_items : (store : Store) (next : ℕ) (items : List Item) → Refer store.items items → AreStanding store
    → AreStanding (record store { ids = record store.ids { item = next }; items = items })
stand_items store next items refer stands k d within =
    let id : PageId = (get_or store.pages k d).id in
    or_weaker (is_visited store id) (has_reference store.items id) (has_reference items id) (refer id)
    (stands k d within)

-- ---- a page more

-- a page of a store with a page for the URL is that one, or was there
pub each_page : (store : Store) (url : List ℕ) (P : PageId → Type 0)
    → ((id : PageId) → IsTrue (is_standing store id) → P id) → P (page_for store url).id → AreStanding store
    → All (λ (p : Page). P p.id) (with_page_for store url).pages
each_page store url P old own stands = choose (find_page url store.pages) own
  where
    before : All (λ (p : Page). P p.id) store.pages
    before k d within = old (get_or store.pages k d).id (stands k d within)

    choose : (o : Option Page) → P (unwrap_or o (new_page store url)).id
        → All (λ (p : Page). P p.id) (if is_none o then grown_store store url else store).pages
    choose None here = All-push (λ (p : Page). P p.id) store.pages (new_page store url) before here
    choose (Some p) here = before

-- the page bears on no visit and no item
pub stands_same : (store : Store) (url : List ℕ) (id : PageId)
    → is_standing (with_page_for store url) id ≡ is_standing store id
stands_same store url id = choose (is_none (find_page url store.pages))
  where
    choose : (b : Bool) → is_standing (if b then grown_store store url else store) id ≡ is_standing store id
    choose true = refl
    choose false = refl

-- items with one of the page
pub stand_page : (store : Store) (url : List ℕ) (next : ℕ) (items : List Item)
    → Refer (with_page_for store url).items items → IsTrue (has_reference items (page_for store url).id)
    → AreStanding store
    → AreStanding (record (with_page_for store url) {
      ids = record (with_page_for store url).ids { item = next };
      items = items;
    })
stand_page store url next items refer own stands =
    let mid : Store = with_page_for store url in
    each_page store url (λ id. IsTrue (is_visited mid id || has_reference items id))
    (λ id stood.
    or_weaker (is_visited mid id) (has_reference mid.items id) (has_reference items id) (refer id)
    (stands_same store url id ∙ stood))
    (or_right (is_visited mid (page_for store url).id) (has_reference items (page_for store url).id) own) stands
