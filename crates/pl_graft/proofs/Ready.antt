-- Stores that rows may be added to: their items are those of a good store, with ids below the next
-- one.
use Rattle.std.proofs.Common.{◌≡◌, ◌<◌, ◌+◌, ◌++◌, ◌==◌, ◌||◌, ◌⊎◌, ◌∙◌, ℕ, All, Bool, true, false}
use Rattle.std.proofs.Common.{List, [], ◌∷◌, Option, Some, None, ap, arith, eq-eqb, find, get_or, if◌then◌else◌}
use Rattle.std.proofs.Common.{is_some, length, map, refl, subst, sym}
use Rattle.std.specs.Prelude.{◌↔◌, IsTrue, bytes_eq, is_none, unwrap_or}
use Rattle.std.specs.List.{list_any, sum_by}
use Rattle.std.specs.Option.{IfSome, IsSome, option_map}
use Rattle.std.proofs.lemmas.Bool.{or_right}
use Rattle.std.proofs.lemmas.List.{length-map}
use Rattle.std.proofs.lemmas.List.Elements.{All-map}
use Rattle.std.proofs.lemmas.Option.{none-some, same_Some}
use Rattle.pl_base.specs.declared.date.Micros.{Micros}
use Rattle.pl_base.specs.declared.id.ItemId.{ItemId}
use Rattle.pl_base.specs.declared.id.PageId.{PageId}
use Rattle.pl_base.specs.declared.item.ItemKind.TheVariants.{Bookmark, Folder}
use Rattle.pl_base.specs.declared.item.ItemRow.{ItemRow}
use Rattle.pl_base.specs.Date.{IsDate}
use Rattle.pl_base.specs.Fold.{folded}
use Rattle.pl_base.specs.Good.{HasGoodItems, IsTagName, IsTitle, has_page_at}
use Rattle.pl_base.specs.Rows.{IsWellKept, Kept, store_of}
use Rattle.pl_base.specs.Store.{Item, Page, Store, item_id}
use Rattle.pl_base.specs.Tags.{tags_root}
use Rattle.pl_base.specs.Tree.{child_items, children_of}
use Rattle.pl_base.specs.Visiting.{find_page, new_page, page_for, with_page_for}
use Rattle.pl_base.proofs.ListLaws.{All-from_map, find-map, list_any_last, list_any_push, sum_by-agree, sum_by-map}
use Rattle.pl_tree.specs.declared.place.Place.TheVariants.{End}
use Rattle.pl_tree.specs.Places.{before}
use Rattle.pl_tree.specs.Tagged.{tag_entry, tag_named}
use Rattle.pl_tree.proofs.GoodStores as stores
use Rattle.pl_tree.proofs.GoodStores.{tag_lists}
use Rattle.pl_history.proofs.GoodRows.{items_still}
use Rattle.pl_keyed.specs.KnownTags.{AreBelow, last_of}
use Rattle.pl_keyed.specs.TagRows.{TagEntry, TagRow, entered, entry_row, holds_in, new_row, row_with, tag_row}
use Rattle.pl_keyed.specs.TagRows.{tag_rows, with_entry, with_entry_in}
use Rattle.pl_keyed.proofs.TagRowLaws.{before_end, last_map, row_named, row_of, rows_known, rows_new, rows_of}
pub use Rattle.pl_keyed.proofs.TagRowLaws.{count_entered, held, named}
use Rattle.pl_graft.specs.Import.{entry_count, tagged_store, with_row, with_tag}
pub use Rattle.pl_graft.specs.Ready.{IsReady, Takes}

pub ready : (kept : Kept) → IsWellKept kept → HasGoodItems (store_of kept) → IsReady (store_of kept)
ready kept h good =
    record {
      good = good;
      ascending = h.item_ids.ascending;
      below =
          λ k d within.
          (All-from_map (λ n. (0 < n) × (n < kept.ids.item)) (λ (i : Item). i.id.0) kept.items h.item_ids.given k d
          within).1;
      first = h.item_ids.next_first;
    }

-- the menu, the toolbar, the unfiled bookmarks and the mobile ones
pub takes_root : (store : Store) (n : ℕ) → IsReady store → (n ≡ 2) ⊎ (n ≡ 3) ⊎ (n ≡ 5) ⊎ (n ≡ 6)
    → Takes store (item_id n)
takes_root store n r is = stores.root_takes store store.ids.item r.good r.ascending r.below r.first n is

-- ---- a page more

pub items_page : (store : Store) (url : List ℕ) → (with_page_for store url).items ≡ store.items
items_page store url = choose (is_none (find_page url store.pages))
  where
    more : Store
    more =
        record store {
          pages = store.pages ++ new_page store url ∷ [];
          ids = record store.ids { page = store.ids.page + 1 };
        }

    choose : (b : Bool) → (if b then more else store).items ≡ store.items
    choose true = refl
    choose false = refl

pub ready_page : (store : Store) (url : List ℕ) → IsReady store → IsReady (with_page_for store url)
ready_page store url r = choose (is_none (find_page url store.pages))
  where
    more : Store
    more =
        record store {
          pages = store.pages ++ new_page store url ∷ [];
          ids = record store.ids { page = store.ids.page + 1 };
        }

    choose : (b : Bool) → IsReady (if b then more else store)
    choose true =
        record {
          good =
              items_still store more refl
              (λ id there. list_any_push (λ (p : Page). p.id.0 == id.0) store.pages (new_page store url) there) r.good;
          ascending = r.ascending;
          below = r.below;
          first = r.first;
        }
    choose false = r

found_there : (test : Page → Bool) (pages : List Page) (p : Page) → find test pages ≡ Some p
    → list_any (λ (q : Page). q.id.0 == p.id.0) pages ≡ true
found_there test [] p found = absurd (cc)
found_there test (q ∷ pages) p found = choose (test q) found (found_there test pages p)
  where
    choose : (b : Bool) → (if b then Some q else find test pages) ≡ Some p
        → (find test pages ≡ Some p → list_any (λ (k : Page). k.id.0 == p.id.0) pages ≡ true)
        → ((q.id.0 == p.id.0) || list_any (λ (k : Page). k.id.0 == p.id.0) pages) ≡ true
    choose true here rest =
        let same : q ≡ p = cc in
        rw (eq-eqb q.id.0 p.id.0 (ap (λ (k : Page). k.id.0) same)) refl
    choose false here rest =
        or_right (q.id.0 == p.id.0) (list_any (λ (k : Page). k.id.0 == p.id.0) pages) (rest here)

pub has_page_for : (store : Store) (url : List ℕ)
    → IsTrue (has_page_at (with_page_for store url) (page_for store url).id)
has_page_for store url = choose (find_page url store.pages) refl
  where
    more : Store
    more =
        record store {
          pages = store.pages ++ new_page store url ∷ [];
          ids = record store.ids { page = store.ids.page + 1 };
        }

    choose : (o : Option Page) → find_page url store.pages ≡ o
        → IsTrue (has_page_at (if is_none o then more else store) (unwrap_or o (new_page store url)).id)
    choose None none =
        list_any_last (λ (p : Page). p.id.0 == store.ids.page) store.pages (new_page store url)
        (eq-eqb store.ids.page store.ids.page refl)
    choose (Some p) found = found_there (λ (q : Page). bytes_eq q.url url) store.pages p found

-- ---- an item more at the end of a folder that takes items

module _ (store : Store) (parent : ItemId) (row : ItemRow) (title : List ℕ) (r : IsReady store)
    (free : Takes store parent) where
  pub ready_row : IsTitle title → IsDate row.added → IsDate row.modified → (IsSome row.page ↔ (row.kind ≡ Bookmark))
      → IfSome row.page (λ page. IsTrue (has_page_at store page)) → IsReady (with_row parent row title store)
  ready_row named added modified bookmark page =
      record {
        good =
            stores.put_good store store.ids.item r.good r.ascending r.below r.first parent row title free
            (with_row parent row title store).ids named added modified bookmark page;
        ascending =
            stores.put_ascends store store.ids.item r.good r.ascending r.below r.first parent row title free;
        below = stores.put_below store store.ids.item r.good r.ascending r.below r.first parent row title free;
        first = let late = r.first in omega arith;
      }

  pub takes_row : (folder : ItemId) → Takes store folder → Takes (with_row parent row title store) folder
  takes_row folder too =
      stores.put_takes store store.ids.item r.good r.ascending r.below r.first parent row title free folder too

  pub takes_new : row.kind ≡ Folder → Takes (with_row parent row title store) (item_id store.ids.item)
  takes_new kind =
      stores.put_takes_new store store.ids.item r.good r.ascending r.below r.first parent row title free kind

  pub tags_row : tag_rows (with_row parent row title store).items ≡ tag_rows store.items
  tags_row =
      rows_of (with_row parent row title store).items
      ∙ ap (map row_of)
      (stores.put_lists store store.ids.item r.good r.ascending r.below r.first parent row title free)
      ∙ sym (rows_of store.items)

  pub children_row : (folder : ItemId) → Takes store folder
      → children_of (with_row parent row title store).items folder
      ≡ (if folder.0 == parent.0 then children_of store.items folder ++ item_id store.ids.item ∷ []
      else children_of store.items folder)
  children_row folder too =
      stores.put_children store store.ids.item r.good r.ascending r.below r.first parent row title free folder too

  pub children_new : children_of (with_row parent row title store).items (item_id store.ids.item) ≡ []
  children_new =
      stores.put_children_new store store.ids.item r.good r.ascending r.below r.first parent row title free

-- ---- a tag for a page

module _ (store : Store) (page : PageId) (date : Micros) (name : List ℕ) (r : IsReady store) where
  -- a tag that the page has is passed over
  abbrev tagged : Bool → Store
  tagged b = if b then store else tagged_store page name date store

  pub ready_tag : IsTagName name → IsDate date → IsTrue (has_page_at store page)
      → IsReady (with_tag page date name store)
  ready_tag is_name dated has = choose (is_some (tag_entry page name store.items)) refl
    where
      choose : (b : Bool) → is_some (tag_entry page name store.items) ≡ b → IsReady (tagged b)
      choose true is = r
      choose false is =
          record {
            good =
                stores.tag_good store store.ids.item r.good r.ascending r.below r.first page name date
                (tagged_store page name date store).ids is_name dated has is;
            ascending = stores.tag_ascends store store.ids.item r.good r.ascending r.below r.first page name date;
            below = stores.tag_below store store.ids.item r.good r.ascending r.below r.first page name date;
            first = let late = r.first in omega arith;
          }

  pub takes_tag : (folder : ItemId) → Takes store folder → Takes (with_tag page date name store) folder
  takes_tag folder free = choose (is_some (tag_entry page name store.items))
    where
      choose : (b : Bool) → Takes (tagged b) folder
      choose true = free
      choose false =
          stores.tag_takes store store.ids.item r.good r.ascending r.below r.first page name date folder free

  pub children_tag : (folder : ItemId) → Takes store folder
      → children_of (with_tag page date name store).items folder ≡ children_of store.items folder
  children_tag folder free = choose (is_some (tag_entry page name store.items))
    where
      choose : (b : Bool) → children_of (tagged b).items folder ≡ children_of store.items folder
      choose true = refl
      choose false =
          stores.tag_children store store.ids.item r.good r.ascending r.below r.first page name date folder free

  pub tags_tag : tag_rows (with_tag page date name store).items
      ≡ entered page name store.ids.item (tag_rows store.items)
  tags_tag =
      ap (λ (b : Bool). tag_rows (tagged b).items) (held store.items page name)
      ∙ choose (holds_in page (row_with (folded name) (tag_rows store.items)))
    where
      next : ℕ
      next = store.ids.item

      rows : List TagRow
      rows = tag_rows store.items

      -- the tag is there or new
      made : (o : Option Item) → tag_named name store.items ≡ o
          → map row_of (tag_lists (tagged_store page name date store).items)
          ≡ with_entry_in (option_map (tag_row store.items) o) page name next rows
      made None is =
          ap (map row_of)
          (stores.lists_new store next r.good r.ascending r.below r.first page name date is)
          ∙ rows_new (tag_lists store.items) page name date next
          ∙ ap (λ (rs : List TagRow). rs ++ new_row page name next ∷ []) (sym (rows_of store.items))
      made (Some tag) is =
          ap (map row_of)
          (stores.lists_known store next r.good r.ascending r.below r.first page name date tag is)
          ∙ rows_known (tag_lists store.items) tag.id page date next
          ∙ ap (map (with_entry tag.id.0 page next)) (sym (rows_of store.items))

      choose : (b : Bool)
          → tag_rows (tagged b).items
          ≡ (if b then rows else with_entry_in (row_with (folded name) rows) page name next rows)
      choose true = refl
      choose false =
          rows_of (tagged_store page name date store).items
          ∙ made (tag_named name store.items) refl
          ∙ ap (λ (o : Option TagRow). with_entry_in o page name next rows) (sym (row_named store.items name))

-- ---- looking up among the rows of tags

module _ (store : Store) (r : IsReady store) where
  pub below_rows : AreBelow store.ids.item (tag_rows store.items)
  below_rows =
      All-map (λ (t : TagRow). (t.id < store.ids.item) × All (λ (e : TagEntry). e.id < store.ids.item) t.entries)
      (tag_row store.items) (child_items store.items tags_root) (λ k d within. (
        below tags_root k d within,
        All-map (λ (e : TagEntry). e.id < store.ids.item) entry_row
            (child_items store.items (get_or (child_items store.items tags_root) k d).id)
            (below (get_or (child_items store.items tags_root) k d).id),
      ))
    where
      below : (p : ItemId) → All (λ (i : Item). i.id.0 < store.ids.item) (child_items store.items p)
      below = stores.children_below store store.ids.item r.good r.ascending r.below r.first

  -- the last child
  last_child : (p : ItemId)
      → before End (children_of store.items p) ≡ option_map (λ (i : Item). i.id) (last_of (child_items store.items p))
  last_child p =
      before_end (children_of store.items p)
      ∙ ap last_of (sym (stores.child_list store store.ids.item r.good r.ascending r.below r.first p))
      ∙ last_map (λ (i : Item). i.id) (child_items store.items p)

  pub last_tag : before End (children_of store.items tags_root)
      ≡ option_map (λ (t : TagRow). item_id t.id) (last_of (tag_rows store.items))
  last_tag =
      last_child tags_root ∙ same (last_of (child_items store.items tags_root))
      ∙ ap (option_map (λ (t : TagRow). item_id t.id))
      (sym (last_map (tag_row store.items) (child_items store.items tags_root)))
    where
      same : (o : Option Item)
          → option_map (λ (i : Item). i.id) o
          ≡ option_map (λ (t : TagRow). item_id t.id) (option_map (tag_row store.items) o)
      same None = refl
      same (Some t) = refl

  last_of_tag : (t : Item)
      → before End (children_of store.items t.id)
      ≡ option_map (λ (e : TagEntry). item_id e.id) (last_of (tag_row store.items t).entries)
  last_of_tag t =
      last_child t.id ∙ same (last_of (child_items store.items t.id))
      ∙ ap (option_map (λ (e : TagEntry). item_id e.id)) (sym (last_map entry_row (child_items store.items t.id)))
    where
      same : (o : Option Item)
          → option_map (λ (i : Item). i.id) o
          ≡ option_map (λ (e : TagEntry). item_id e.id) (option_map entry_row o)
      same None = refl
      same (Some i) = refl

pub last_entry : (store : Store) (folds : List ℕ) (row : TagRow) → IsReady store
    → row_with folds (tag_rows store.items) ≡ Some row
    → before End (children_of store.items (item_id row.id))
    ≡ option_map (λ (e : TagEntry). item_id e.id) (last_of row.entries)
last_entry store folds row r is =
    choose (find test (child_items store.items tags_root))
    (sym (find-map (λ (t : TagRow). bytes_eq (folded t.title) folds) (tag_row store.items)
    (child_items store.items tags_root)) ∙ is)
  where
    test : Item → Bool
    test = λ (t : Item). bytes_eq (folded t.title) folds

    choose : (o : Option Item) → option_map (tag_row store.items) o ≡ Some row
        → before End (children_of store.items (item_id row.id))
        ≡ option_map (λ (e : TagEntry). item_id e.id) (last_of row.entries)
    choose None found = absurd (none-some row found)
    choose (Some t) found =
        subst (λ (k : TagRow).
        before End (children_of store.items (item_id k.id))
        ≡ option_map (λ (e : TagEntry). item_id e.id) (last_of k.entries))
        (same_Some (tag_row store.items t) row found) (last_of_tag store r t)

pub counted : (store : Store) → IsReady store
    → entry_count store.items ≡ sum_by (λ (t : TagRow). length t.entries) (tag_rows store.items)
counted store r =
    sum_by-agree (λ (t : Item). length t.children) (λ (t : Item). length (tag_row store.items t).entries)
    (child_items store.items tags_root) (λ k d within.
    let t : Item = get_or (child_items store.items tags_root) k d in
    ap length
    (sym (stores.children_own store store.ids.item r.good r.ascending r.below r.first tags_root k d within)
    ∙ sym (stores.child_list store store.ids.item r.good r.ascending r.below r.first t.id))
    ∙ length-map (child_items store.items t.id) (λ (i : Item). i.id)
    ∙ sym (length-map (child_items store.items t.id) entry_row))
    ∙ sym (sum_by-map (λ (t : TagRow). length t.entries) (tag_row store.items) (child_items store.items tags_root))
